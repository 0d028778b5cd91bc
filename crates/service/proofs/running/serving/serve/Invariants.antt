use Rattle.std.specs.Prelude.{is_some}
use Rattle.service.specs.Counted.{run_of}
use Rattle.service.specs.Extents.{desk_count}
use Rattle.service.proofs.running.serving.serve.Given as goal

abbrev pub ghosts-serve_run : goal.ghosts-serve_run
ghosts-serve_run g a = run_of a.opened.table a.start.openings.now (desk_count a.plan.extent.connections (is_some a.doors.operators))
