use Rattle.floor_core.proofs.Views.{same_seen, same_left}
use Rattle.floor_core.proofs.laws.two_worlds.Goals as goal

pub returns-clause-seen : goal.returns-clause-seen
returns-clause-seen c = same_seen

pub returns-clause-left : goal.returns-clause-left
returns-clause-left c = same_left
