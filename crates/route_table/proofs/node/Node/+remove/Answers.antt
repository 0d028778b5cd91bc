use Rattle.std.proofs.Common.{ap, refl, sym, ◌∙◌}
use Rattle.route_table.specs.Nodes.{Branch}
use Rattle.route_table.specs.Children.{children_of}
use Rattle.ilp_addr.specs.Segments.{segments_left}
use Rattle.route_table.proofs.NodeLemmas.{taken_here, kept, removed_below, removed_whole, removed_nothing}
use Rattle.route_table.proofs.Places.{hit_at, changed_at, taken_at, absent_at, node_kept, node_less, node_used, either, at_err, at_ok, always_err}
use Rattle.route_table.proofs.node.Node.+remove.Goals as goal

pub returns-in_default-clause-removed : goal.returns-in_default-clause-removed
returns-in_default-clause-removed t c =
    taken_here c.args.self.now c.self.inside.hop (children_of c.self.inside.children.items) (segments_left c.args.path) (ap (λ (b : Branch). b.routes) c.self.view_is) c.in_default.ensures.steps.0

pub returns-in_default-search-clause-removed : goal.returns-in_default-search-clause-removed
returns-in_default-search-clause-removed t c =
    let absent = absent_at c.search.result c.in-Some.segment.now _ c.self.inside.children.items c.deref.ensures.value c.self.invariant.ordered c.in_default-search.not-Ok c.search.ensures.range c.search.ensures.position in
    sym (ap (λ (b : Branch). b.routes) c.self.view_is) ∙ removed_nothing c.args.self.now c.self.inside.hop (children_of c.self.inside.children.items) c.in-Some.segment.now (segments_left c.args.path) _ (ap (λ (b : Branch). b.routes) c.self.view_is) c.in-Some.ensures.steps (sym absent)

pub invariant_of-self-in_err-child : goal.invariant_of-self-in_err-child
invariant_of-self-in_err-child t c =
    let change = changed_at c.in-Some.segment.now c.self.inside.children.items c.in-Ok.at c.index_mut.result.now c.make_mut.follows.lender-at-none c.index_mut.result.now.node.value c.index_mut.result.now.node.value
    c.self.invariant.ordered (hit_at c.in-Some.segment.now _ _ c.in-Ok.at c.deref.ensures.value c.in-Ok.ensures.range c.in-Ok.ensures.position) c.index_mut.ensures.value refl (either (at_err c.make_mut.result _ _ c.in_err-child.was c.make_mut.follows.holds-at-none)) in
    node_kept c.self.invariant change refl

pub returns-in_err-child-clause-unchanged : goal.returns-in_err-child-clause-unchanged
returns-in_err-child-clause-unchanged t c =
    let change = changed_at c.in-Some.segment.now c.self.inside.children.items c.in-Ok.at c.index_mut.result.now c.make_mut.follows.lender-at-none c.index_mut.result.now.node.value c.index_mut.result.now.node.value
    c.self.invariant.ordered (hit_at c.in-Some.segment.now _ _ c.in-Ok.at c.deref.ensures.value c.in-Ok.ensures.range c.in-Ok.ensures.position) c.index_mut.ensures.value refl (either (at_err c.make_mut.result _ _ c.in_err-child.was c.make_mut.follows.holds-at-none)) in
    always_err c.from_residual.result (kept c.self.inside.hop _ _ _ _ _ change.is change.differ refl ∙ ap (λ (b : Branch). b.routes) c.self.view_is)

pub invariant_of-self-in_err-remove : goal.invariant_of-self-in_err-remove
invariant_of-self-in_err-remove t c =
    let change = changed_at c.in-Some.segment.now c.self.inside.children.items c.in-Ok.at c.index_mut.result.now (c.make_mut.follows.lender c.remove.new.self) c.in_ok-child.child.now c.remove.new.self
    c.self.invariant.ordered (hit_at c.in-Some.segment.now _ _ c.in-Ok.at c.deref.ensures.value c.in-Ok.ensures.range c.in-Ok.ensures.position) c.index_mut.ensures.value (either c.in_ok-child.ensures.value) (at_ok c.make_mut.result _ _ c.in_ok-child.was (c.make_mut.follows.holds c.remove.new.self)) in
    node_kept c.self.invariant change (at_err c.remove.result _ _ c.in_err-remove.was c.remove.ensures.unchanged)

pub returns-in_err-remove-clause-unchanged : goal.returns-in_err-remove-clause-unchanged
returns-in_err-remove-clause-unchanged t c =
    let change = changed_at c.in-Some.segment.now c.self.inside.children.items c.in-Ok.at c.index_mut.result.now (c.make_mut.follows.lender c.remove.new.self) c.in_ok-child.child.now c.remove.new.self
    c.self.invariant.ordered (hit_at c.in-Some.segment.now _ _ c.in-Ok.at c.deref.ensures.value c.in-Ok.ensures.range c.in-Ok.ensures.position) c.index_mut.ensures.value (either c.in_ok-child.ensures.value) (at_ok c.make_mut.result _ _ c.in_ok-child.was (c.make_mut.follows.holds c.remove.new.self)) in
    always_err c.from_residual-in_err-remove.result
    (kept c.self.inside.hop _ _ _ _ _ change.is change.differ (at_err c.remove.result _ _ c.in_err-remove.was c.remove.ensures.unchanged) ∙ ap (λ (b : Branch). b.routes) c.self.view_is)

pub invariant_of-self-then-is_empty : goal.invariant_of-self-then-is_empty
invariant_of-self-then-is_empty t c =
    let change = changed_at c.in-Some.segment.now c.self.inside.children.items c.in-Ok.at c.index_mut.result.now (c.make_mut.follows.lender c.remove.new.self) c.in_ok-child.child.now c.remove.new.self
    c.self.invariant.ordered (hit_at c.in-Some.segment.now _ _ c.in-Ok.at c.deref.ensures.value c.in-Ok.ensures.range c.in-Ok.ensures.position) c.index_mut.ensures.value (either c.in_ok-child.ensures.value) (at_ok c.make_mut.result _ _ c.in_ok-child.was (c.make_mut.follows.holds c.remove.new.self)) in
    node_less c.in-Some.segment.now _ _ _ _ _ c.self.invariant change
    (taken_at c.in-Some.segment.now c.self.inside.children.items _ c.in-Ok.at c.index_mut.result.now _ c.self.invariant.ordered (hit_at c.in-Some.segment.now _ _ c.in-Ok.at c.deref.ensures.value c.in-Ok.ensures.range c.in-Ok.ensures.position) c.index_mut.ensures.value
    c.remove-then-is_empty.ensures.items)

pub invariant_of-self-else-is_empty : goal.invariant_of-self-else-is_empty
invariant_of-self-else-is_empty t c =
    let change = changed_at c.in-Some.segment.now c.self.inside.children.items c.in-Ok.at c.index_mut.result.now (c.make_mut.follows.lender c.remove.new.self) c.in_ok-child.child.now c.remove.new.self
    c.self.invariant.ordered (hit_at c.in-Some.segment.now _ _ c.in-Ok.at c.deref.ensures.value c.in-Ok.ensures.range c.in-Ok.ensures.position) c.index_mut.ensures.value (either c.in_ok-child.ensures.value) (at_ok c.make_mut.result _ _ c.in_ok-child.was (c.make_mut.follows.holds c.remove.new.self)) in
    node_used c.self.invariant change (λ e. let empty = c.is_empty.ensures.1 e in absurd cc)

pub returns-then-is_empty-clause-removed : goal.returns-then-is_empty-clause-removed
returns-then-is_empty-clause-removed t c =
    let change = changed_at c.in-Some.segment.now c.self.inside.children.items c.in-Ok.at c.index_mut.result.now (c.make_mut.follows.lender c.remove.new.self) c.in_ok-child.child.now c.remove.new.self
    c.self.invariant.ordered (hit_at c.in-Some.segment.now _ _ c.in-Ok.at c.deref.ensures.value c.in-Ok.ensures.range c.in-Ok.ensures.position) c.index_mut.ensures.value (either c.in_ok-child.ensures.value) (at_ok c.make_mut.result _ _ c.in_ok-child.was (c.make_mut.follows.holds c.remove.new.self)) in
    let taken = taken_at c.in-Some.segment.now c.self.inside.children.items c.remove-then-is_empty.new.self.items c.in-Ok.at c.index_mut.result.now (c.make_mut.follows.lender c.remove.new.self)
    c.self.invariant.ordered (hit_at c.in-Some.segment.now _ _ c.in-Ok.at c.deref.ensures.value c.in-Ok.ensures.range c.in-Ok.ensures.position) c.index_mut.ensures.value c.remove-then-is_empty.ensures.items in
    removed_whole c.args.self.now c.self.inside.hop _ _ _ _ _ _ (segments_left c.args.path) _ (ap (λ (b : Branch). b.routes) c.self.view_is) c.in-Some.ensures.steps change.is change.differ taken.differ
    c.in_ok-remove.ensures.removed (c.is_empty.ensures.0 c.if-is_empty.true)

pub returns-else-is_empty-clause-removed : goal.returns-else-is_empty-clause-removed
returns-else-is_empty-clause-removed t c =
    let change = changed_at c.in-Some.segment.now c.self.inside.children.items c.in-Ok.at c.index_mut.result.now (c.make_mut.follows.lender c.remove.new.self) c.in_ok-child.child.now c.remove.new.self
    c.self.invariant.ordered (hit_at c.in-Some.segment.now _ _ c.in-Ok.at c.deref.ensures.value c.in-Ok.ensures.range c.in-Ok.ensures.position) c.index_mut.ensures.value (either c.in_ok-child.ensures.value) (at_ok c.make_mut.result _ _ c.in_ok-child.was (c.make_mut.follows.holds c.remove.new.self)) in
    removed_below c.args.self.now c.self.inside.hop _ _ _ _ _ (segments_left c.args.path) _ (ap (λ (b : Branch). b.routes) c.self.view_is) c.in-Some.ensures.steps change.is change.differ c.in_ok-remove.ensures.removed
