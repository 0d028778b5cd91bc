use Rattle.std.proofs.Common.{◌≡◌, take}
use Rattle.book_log.specs.Base.{admins_of}
use Rattle.book_log.proofs.reopening.admins_of.Given as goal

abbrev pub invariant-loop-start : goal.invariant-loop-start
invariant-loop-start l = l.admins.items ≡ admins_of (take l.start-index l.starts)
