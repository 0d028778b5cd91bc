use Rattle.std.proofs.Common.{◌≤◌, length, ap, sym, subst, ◌∙◌, Some, None}
use Rattle.route_table.specs.Nodes.{Branch}
use Rattle.route_table.specs.Children.{children_of}
use Rattle.route_table.proofs.NodeLemmas.{child_is}
use Rattle.route_table.proofs.Places.{hit_at, found, gap_at, gap_none}
use Rattle.route_table.proofs.node.Node.child.Goals as goal

pub returns-in-Ok : goal.returns-in-Ok
returns-in-Ok c =
    child_is c.args.self.now c.self.inside.hop (children_of c.self.inside.children.items) c.args.segment.now (Some c.deref-in-Ok.result.now) (ap (λ (b : Branch). b.routes) c.self.view_is)
    (ap Some (c.deref-in-Ok.ensures ∙ ap (λ child. child.node.value) c.index.ensures)
    ∙ sym (found c.args.segment.now c.self.inside.children.items c.in-Ok.at c.index.result.now c.self.invariant.ordered
    (hit_at c.args.segment.now _ _ c.in-Ok.at c.deref.ensures.value c.in-Ok.ensures.range c.in-Ok.ensures.position)))

pub returns-in-Err : goal.returns-in-Err
returns-in-Err c =
    child_is c.args.self.now c.self.inside.hop (children_of c.self.inside.children.items) c.args.segment.now None (ap (λ (b : Branch). b.routes) c.self.view_is)
    (sym (gap_none c.args.segment.now c.self.inside.children.items c.in-Err.field-0 (subst (λ xs. c.in-Err.field-0 ≤ length xs) c.deref.ensures.value c.in-Err.ensures.range)
    (gap_at c.args.segment.now _ c.self.inside.children.items c.in-Err.field-0 c.deref.ensures.value c.self.invariant.ordered c.in-Err.ensures.position)))
