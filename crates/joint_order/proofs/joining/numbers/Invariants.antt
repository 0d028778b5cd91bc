use Rattle.std.proofs.Common.{◌≤◌, ◌<◌, ℕ, Contains, vec_len, vec_capacity, ◌≡◌}
use Rattle.joint_order.proofs.joining.numbers.Given as goal

abbrev pub invariant-loop-i : goal.invariant-loop-i
invariant-loop-i l =
    (vec_len l.numbers ≡ l.i) × (l.count ≤ vec_capacity l.numbers) × ((k : ℕ) → k < l.i → Contains l.numbers.items k)
