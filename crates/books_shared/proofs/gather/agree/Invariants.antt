use Rattle.std.proofs.Common.{◌≡◌, drop}
use Rattle.books_shared.specs.Gathers.{agree}
use Rattle.books_shared.proofs.gather.agree.Given as goal

abbrev pub invariant-loop-book : goal.invariant-loop-book
invariant-loop-book g l = agree l.books l.shares ≡ agree (drop l.book-index l.books) l.shares
