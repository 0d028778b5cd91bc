use Rattle.std.proofs.Common.{◌≡◌, ◌<◌, ℕ, Some, slice_get}
use Rattle.tenant_core.specs.declared.period.PeriodParts.{PeriodParts}
use Rattle.receipts.specs.Layout.{IsHeldWhole}
use Rattle.receipts.proofs.check.are_held_whole.Given as goal

abbrev pub invariant-loop-k : goal.invariant-loop-k
invariant-loop-k l = (j : ℕ) (p : PeriodParts) → j < l.k → slice_get l.laid.periods.now j ≡ Some p → IsHeldWhole l.laid.periods.now l.holders p
