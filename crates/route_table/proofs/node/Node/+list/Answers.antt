use Rattle.std.proofs.Common.{ap, sym, subst, ◌∙◌, List}
use Rattle.std.specs.Prelude.{option_copied}
use Rattle.route_table.specs.declared.node.Child.{Child}
use Rattle.route_table.specs.Nodes.{Branch, own_row}
use Rattle.route_table.specs.Children.{children_of}
use Rattle.route_table.specs.Listing.{AreSpelled, front_with}
use Rattle.route_table.proofs.Listed.{behind, entries_of, split_spelled, IsListing, started, next}
use Rattle.route_table.proofs.node.Node.+list.Goals as goal

pub loop-child-init : goal.loop-child-init
loop-child-init t c valid =
    let is = entries_of c.args.self.now c.self.inside.hop (children_of c.self.inside.children.items) (ap (λ (b : Branch). b.routes) c.self.view_is) c.self.invariant.ordered in
    let all = ap (λ (xs : List Child). behind (children_of xs)) c.deref-child-items.ensures.value in
    let own = (split_spelled (option_copied c.args.front) (own_row c.self.inside.hop) _ (subst (AreSpelled (option_copied c.args.front)) is valid)).0 in
    subst (IsListing (option_copied c.args.front) _ _) (sym all)
    (started (option_copied c.args.front) _ (own_row c.self.inside.hop) _ c.args.routes.now.items _ is valid (c.in_ok-put_own.ensures own))

pub loop-child-preserved : goal.loop-child-preserved
loop-child-preserved t c valid =
    next (option_copied c.args.front) _ c.loop-child.routes.items c.list.new.routes.items c.deref-child-items.result.now c.loop-child.child-index c.child-item.result c.deref-in-loop-child-2.result.now
    c.deref-in-loop-child.result.now (c.loop-child.invariant valid) c.loop-child-test.true c.child-item.is
    (c.deref-in-loop-child-2.ensures.value ∙ c.in_ok-front.ensures ∙ ap (front_with (option_copied c.args.front)) c.deref.ensures.value) c.deref-in-loop-child.ensures c.in_ok-list.ensures
