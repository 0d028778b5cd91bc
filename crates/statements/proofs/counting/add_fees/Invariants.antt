use Rattle.std.proofs.Common.{◌≡◌, ◌+◌, ℕ, take}
use Rattle.std.specs.Prelude.{sum_by}
use Rattle.std.specs.List.{zip}
use Rattle.statements.specs.Sums.{fee_by, sum_at}
use Rattle.statements.proofs.counting.add_fees.Given as goal

abbrev pub invariant-loop-place : goal.invariant-loop-place
invariant-loop-place l =
    (n : ℕ) → sum_at l.tally n ≡ sum_at l.fn.tally n + sum_by (fee_by n) (take l.place (zip l.holds l.fees))
