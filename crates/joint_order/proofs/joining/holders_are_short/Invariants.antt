use Rattle.std.proofs.Common.{◌<◌, ◌^◌, ℕ, length}
use Rattle.joint_order.specs.Orders.{list_at}
use Rattle.joint_order.proofs.joining.holders_are_short.Given as goal

abbrev pub invariant-loop-group : goal.invariant-loop-group
invariant-loop-group l = (k : ℕ) → k < l.group → length (list_at l.holders k) < 2 ^ 63
