use Rattle.std.proofs.Common.{◌≡◌, ◌++◌, drop, map}
use Rattle.tenant_core.specs.Holds.{holds_of}
use Rattle.book_recovery.proofs.recovering.held.Given as goal

abbrev pub invariant-loop-hold : goal.invariant-loop-hold
invariant-loop-hold l = l.numbers.items ++ map (λ h. h.number) (drop l.hold-index l.hold-items) ≡ map (λ h. h.number) (holds_of l.book)
