use Rattle.std.proofs.Common.{◌≡◌, ◌+◌, ℕ, take}
use Rattle.std.specs.Prelude.{sum_by}
use Rattle.statements.specs.Sums.{by_hold, sum_at}
use Rattle.statements.proofs.counting.add_holds.Given as goal

abbrev pub invariant-loop-hold : goal.invariant-loop-hold
invariant-loop-hold l = (n : ℕ) → sum_at l.tally n ≡ sum_at l.fn.tally n + sum_by (by_hold l.what n) (take l.hold-index l.holds)
