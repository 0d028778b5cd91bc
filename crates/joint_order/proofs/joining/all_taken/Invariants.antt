use Rattle.std.proofs.Common.{◌≡◌, ◌<◌, ℕ, length, nat_le, slice_index, true}
use Rattle.joint_order.specs.Orders.{list_at}
use Rattle.joint_order.proofs.joining.all_taken.Given as goal

abbrev pub invariant-loop-i : goal.invariant-loop-i
invariant-loop-i l = (k : ℕ) → k < l.i → nat_le (length (list_at l.lists k)) (slice_index l.taken k) ≡ true
