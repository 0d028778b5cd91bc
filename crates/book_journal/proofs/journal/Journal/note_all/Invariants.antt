use Rattle.std.proofs.Common.{◌≡◌, drop, fold}
use Rattle.book_journal.specs.Written.{noted}
use Rattle.book_journal.proofs.journal.Journal.note_all.Given as goal

abbrev pub invariant-loop-book : goal.invariant-loop-book
invariant-loop-book g l = record {
  noted : fold noted l.self (drop l.book-index l.books) ≡ fold noted l.fn.self l.books;
  log : l.self.log ≡ l.fn.self.log;
}
