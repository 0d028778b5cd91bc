use Rattle.std.proofs.Common.{false}
use Rattle.worker_tests.proofs.working.openings.begun.Given as goal

abbrev pub ghosts-periods : goal.ghosts-periods
ghosts-periods g a = record { table = a.opened.table; size = a.opened.size; openings = a.openings.now; own = false }
