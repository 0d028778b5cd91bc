use Rattle.std.proofs.Common.{◌∙◌, arith}
use Rattle.common_types.proofs.Ordered.{at_end}
use Rattle.common_types.proofs.order.order_of_few.Goals as goal

pub returns : goal.returns
returns c =
    c.cmp-2.ensures ∙ at_end c.args.a.now c.args.b.now c.loop-i.i (omega arith) ∙ c.loop-i.invariant
