use Rattle.one_list.proofs.History.{laws}
use Rattle.one_list.proofs.laws.histories.Goals as goal

pub returns : goal.returns
returns c = laws
