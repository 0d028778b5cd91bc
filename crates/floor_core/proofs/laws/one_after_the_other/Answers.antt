use Rattle.floor_core.proofs.Views.{outputs_of_both, left_by_both}
use Rattle.floor_core.proofs.laws.one_after_the_other.Goals as goal

pub returns-clause-outputs : goal.returns-clause-outputs
returns-clause-outputs c = outputs_of_both

pub returns-clause-left : goal.returns-clause-left
returns-clause-left c = left_by_both
