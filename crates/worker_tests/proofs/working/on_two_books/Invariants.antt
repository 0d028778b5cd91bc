use Rattle.std.proofs.Common.{false}
use Rattle.books_shared.specs.Traced.{openings_of}
use Rattle.worker_tests.proofs.working.on_two_books.Given as goal

abbrev pub ghosts-on_books : goal.ghosts-on_books
ghosts-on_books g a = record { table = a.opened.table; size = a.opened.size; openings = openings_of a.setups.now a.start; own = false }
