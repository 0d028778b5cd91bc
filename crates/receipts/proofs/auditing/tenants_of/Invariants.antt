use Rattle.std.proofs.Common.{◌≡◌, ◌≤◌, take}
use Rattle.receipts.specs.Audits.{tenant_count}
use Rattle.receipts.proofs.auditing.tenants_of.Given as goal

abbrev pub invariant-loop-period : goal.invariant-loop-period
invariant-loop-period l = (l.count ≡ tenant_count (take l.period-index l.periods)) × (l.count ≤ l.period-index)
