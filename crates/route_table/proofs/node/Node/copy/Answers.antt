use Rattle.std.proofs.Common.{ap, ◌∙◌}
use Rattle.route_table.specs.Children.{children_of}
use Rattle.route_table.proofs.Places.{same_node}
use Rattle.route_table.proofs.node.Node.copy.Goals as goal

pub returns : goal.returns
returns c = same_node c.self.inside.hop _ _ (c.in_ok-share_all.ensures ∙ ap children_of c.deref.ensures.value) ∙ c.self.view_is
