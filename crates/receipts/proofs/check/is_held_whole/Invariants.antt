use Rattle.std.proofs.Common.{◌≡◌, ◌<◌, ℕ, Some, slice_get}
use Rattle.tenant_core.specs.declared.period.PeriodParts.{PeriodParts}
use Rattle.receipts.specs.Layout.{IsHeldAt}
use Rattle.receipts.proofs.check.is_held_whole.Given as goal

abbrev pub invariant-loop-n : goal.invariant-loop-n
invariant-loop-n l = (m : ℕ) (p : PeriodParts) → m < l.n → slice_get l.laid.periods.now l.k ≡ Some p → IsHeldAt l.laid.periods.now l.holders p m
