use Rattle.floor_core.proofs.Causing.{caused_are_run}
use Rattle.floor_core.proofs.laws.records_are_a_run.Goals as goal

pub returns : goal.returns
returns c = caused_are_run c.open_holds.ensures c.calls.ensures c.frames_that_go_on.ensures
