use Rattle.std.proofs.Common.{ℕ, ◌≡◌, ◌<◌, ◌≤◌}
use Rattle.allotment.specs.Waits.{waiting_of}
use Rattle.allotment.proofs.lending.Lending.first_of.Given as goal

abbrev pub invariant-loop-tenant : goal.invariant-loop-tenant
invariant-loop-tenant l = (other : ℕ) → l.from ≤ other → other < l.tenant → waiting_of other l.self ≡ 0
