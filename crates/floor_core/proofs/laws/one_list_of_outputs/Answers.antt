use Rattle.floor_core.proofs.Views.{one_list}
use Rattle.floor_core.proofs.laws.one_list_of_outputs.Goals as goal

pub returns : goal.returns
returns c = one_list
