use Rattle.floor_core.proofs.Forwarding.{taken_on}
use Rattle.floor_core.proofs.floor.Floor.has_taken.Goals as goal

pub returns : goal.returns
returns c = rw (← c.self.view_is) (taken_on c.what_is_read_is_a_prepare.ensures c.self.inside.parts c.self.invariant.sound)
