use Rattle.std.proofs.Common.{◌≡◌, take}
use Rattle.book_log.specs.Base.{states_of}
use Rattle.book_log.proofs.reopening.begun.Given as goal

abbrev pub invariant-loop-tenant : goal.invariant-loop-tenant
invariant-loop-tenant l = l.books.items ≡ states_of (take l.tenant l.starts)
