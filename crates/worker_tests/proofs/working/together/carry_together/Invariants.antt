use Rattle.std.proofs.Common.{false}
use Rattle.books_shared.specs.Traced.{openings_of}
use Rattle.worker_tests.proofs.working.together.carry_together.Given as goal

abbrev pub ghosts-carry_on_books : goal.ghosts-carry_on_books
ghosts-carry_on_books g a = record { table = a.opened.table; size = a.opened.size; openings = openings_of a.setups.now a.start; own = false }
