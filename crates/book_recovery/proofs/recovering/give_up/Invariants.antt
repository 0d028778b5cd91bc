use Rattle.std.proofs.Common.{◌≡◌, drop}
use Rattle.book_recovery.specs.Recovery.{given_up}
use Rattle.book_recovery.proofs.recovering.give_up.Given as goal

abbrev pub invariant-loop-number : goal.invariant-loop-number
invariant-loop-number l = given_up l.now (drop l.number-index l.numbers) l.book ≡ given_up l.now l.numbers l.fn.book
