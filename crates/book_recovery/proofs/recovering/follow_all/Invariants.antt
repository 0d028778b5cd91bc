use Rattle.std.proofs.Common.{take}
use Rattle.book_recovery.specs.Recovery.{LeadTo}
use Rattle.book_recovery.proofs.recovering.follow_all.Given as goal

abbrev pub invariant-loop-place : goal.invariant-loop-place
invariant-loop-place l = LeadTo l.fn.book (take l.place l.records) l.book
