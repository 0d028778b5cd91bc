use Rattle.std.proofs.Common.{◌∙◌, Some, None}
use Rattle.route_table.proofs.NodeLemmas.{walked}
use Rattle.route_table.proofs.node.Node.hop_at.Goals as goal

pub returns-in_err-node : goal.returns-in_err-node
returns-in_err-node c =
    c.from_residual.ensures ∙ walked _ _ _ _ None c.in_err-node.ensures c.in-Some.ensures.steps ∙ c.loop-segment.invariant

pub loop-segment-preserved : goal.loop-segment-preserved
loop-segment-preserved c =
    walked _ _ _ _ (Some c.in_ok-node.node.now) c.in_ok-node.ensures c.in-Some.ensures.steps ∙ c.loop-segment.invariant
