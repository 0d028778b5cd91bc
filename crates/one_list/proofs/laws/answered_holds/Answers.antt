use Rattle.one_list.proofs.Awaiting.{laws}
use Rattle.one_list.proofs.laws.answered_holds.Goals as goal

pub returns : goal.returns
returns c = laws
