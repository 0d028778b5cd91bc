use Rattle.one_list.proofs.Own.{laws}
use Rattle.one_list.proofs.laws.own_answers.Goals as goal

pub returns : goal.returns
returns c = laws
