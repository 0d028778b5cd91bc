use Rattle.std.proofs.Common.{ap, sym, ◌∙◌}
use Rattle.joint_order.specs.Steps.{CanCountPoint, if_next}
use Rattle.joint_order.proofs.Looks.{can_go_on, if_some}
use Rattle.joint_order.proofs.joining.next_at.Goals as goal

pub returns-clause-fits : goal.returns-clause-fits
returns-clause-fits c =
    if_some c.if_next.result (λ p. CanCountPoint c.args.taken.now c.args.done.now c.args.i p)
    (λ p e. can_go_on c.args.lists.now c.args.holders.now c.args.taken.now c.args.done.now c.args.i p
    c.requires.wide c.requires.held c.requires.lists c.requires.holders
    (ap (if_next c.args.done.now) (sym c.point_at.ensures) ∙ sym c.if_next.ensures ∙ e))
