use Rattle.std.proofs.Common.{false}
use Rattle.worker_tests.proofs.working.disk.fate_of.Given as goal

abbrev pub ghosts-fate_on : goal.ghosts-fate_on
ghosts-fate_on g a = record { table = a.opened.table; size = a.opened.size; openings = a.openings.now; own = false }
