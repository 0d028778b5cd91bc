use Rattle.floor_core.proofs.Forwarding.{are_forwards}
use Rattle.floor_core.proofs.laws.frames_that_go_on.Goals as goal

pub returns : goal.returns
returns c = are_forwards c.what_is_read_is_a_prepare.ensures c.forwards_change_two_fields.ensures.bytes c.calls.ensures
