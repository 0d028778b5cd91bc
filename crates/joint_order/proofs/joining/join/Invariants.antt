use Rattle.std.proofs.Common.{◌+◌, ◌*◌, vec_len}
use Rattle.joint_order.specs.Steps.{IsGoing, points_left}
use Rattle.joint_order.proofs.joining.join.Given as goal

abbrev pub invariant-loop-i : goal.invariant-loop-i
invariant-loop-i l =
    IsGoing l.lists l.holders
    (record { taken = l.taken.items; done = l.done.items; order = l.order.items; waiting = l.waiting.items })

abbrev pub decreases-loop-i : goal.decreases-loop-i
decreases-loop-i l = 2 * points_left l.lists l.taken.items + vec_len l.waiting
