use Rattle.std.proofs.Common.{◌≡◌, ◌+◌, ℕ, take}
use Rattle.std.specs.Prelude.{sum_by}
use Rattle.statements.specs.Sums.{by_record, sum_at}
use Rattle.statements.proofs.counting.add_records.Given as goal

abbrev pub invariant-loop-place : goal.invariant-loop-place
invariant-loop-place l = (n : ℕ) → sum_at l.tally n ≡ sum_at l.fn.tally n + sum_by (by_record l.what n) (take l.place l.records)
