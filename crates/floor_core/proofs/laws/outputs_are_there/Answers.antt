use Rattle.floor_core.proofs.Views.{are_replies, is_after}
use Rattle.floor_core.proofs.laws.outputs_are_there.Goals as goal

pub returns-clause-outputs : goal.returns-clause-outputs
returns-clause-outputs c = are_replies

pub returns-clause-left : goal.returns-clause-left
returns-clause-left c = is_after
