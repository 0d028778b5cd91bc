use Rattle.joint_order.proofs.Stuck.{no_order}
use Rattle.joint_order.proofs.laws.no_order_behind_a_stuck_front.Goals as goal

pub returns : goal.returns
returns c = no_order
