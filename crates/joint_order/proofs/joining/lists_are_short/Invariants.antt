use Rattle.std.proofs.Common.{◌<◌, ◌^◌, ℕ, length}
use Rattle.joint_order.specs.Orders.{list_at}
use Rattle.joint_order.proofs.joining.lists_are_short.Given as goal

abbrev pub invariant-loop-i : goal.invariant-loop-i
invariant-loop-i l = (k : ℕ) → k < l.i → length (list_at l.lists k) < 2 ^ 63
