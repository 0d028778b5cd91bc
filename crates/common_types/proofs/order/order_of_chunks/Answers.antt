use Rattle.std.proofs.Common.{rules, ◌∙◌}
use Rattle.common_types.proofs.BigEndian.{order_of_eight}
use Rattle.common_types.proofs.order.order_of_chunks.Goals as goal

pub returns : goal.returns
returns c =
    c.cmp.ensures ∙ rw (c.from_be_bytes.ensures, c.from_be_bytes-2.ensures)
    (order_of_eight c.args.a.now c.args.b.now (search rules) (search rules) (λ i. search rules) (λ i. search rules))
