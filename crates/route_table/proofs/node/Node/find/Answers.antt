use Rattle.std.proofs.Common.{ap, ◌∙◌, Some, None}
use Rattle.std.specs.Option.{option_or}
use Rattle.route_table.proofs.NodeLemmas.{longest_walked}
use Rattle.route_table.proofs.node.Node.find.Goals as goal

pub returns-in_default : goal.returns-in_default
returns-in_default c =
    c.or-best.ensures
    ∙ ap (λ o. option_or o c.loop-segment.best) c.hop.ensures
    ∙ longest_walked _ _ _ _ None c.loop-segment.best c.in_default.ensures c.in-Some.ensures.steps
    ∙ c.loop-segment.invariant

pub loop-segment-preserved : goal.loop-segment-preserved
loop-segment-preserved c =
    ap (option_or _) (c.or-best.ensures ∙ ap (λ o. option_or o c.loop-segment.best) c.hop.ensures)
    ∙ longest_walked _ _ _ _ (Some c.in-Some-child.child.now) c.loop-segment.best c.in-Some-child.ensures c.in-Some.ensures.steps
    ∙ c.loop-segment.invariant
