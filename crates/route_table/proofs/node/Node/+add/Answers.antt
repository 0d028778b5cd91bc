use Rattle.std.proofs.Common.{◌≡◌, ◌≤◌, length, ap, refl, sym, subst, ◌∙◌}
use Rattle.std.specs.List as list
use Rattle.route_table.specs.declared.node.Child.{Child}
use Rattle.route_table.specs.Nodes.{Branch}
use Rattle.route_table.specs.Children.{children_of}
use Rattle.ilp_addr.specs.Segments.{segments_left}
use Rattle.route_table.proofs.PathLemmas.{inserted_some}
use Rattle.route_table.proofs.NodeLemmas.{set_here, on_ok, on_err, kept, added_below, added_new}
use Rattle.route_table.proofs.Places.{hit_at, changed_at, gap_at, gap_none, node_kept, node_more, either, at_err, at_ok, always_err, node_inserted, put_in}
use Rattle.route_table.proofs.node.Node.+add.Goals as goal

pub returns-in_default-clause-added : goal.returns-in_default-clause-added
returns-in_default-clause-added t c =
    set_here c.args.self.now c.self.inside.hop (children_of c.self.inside.children.items) (segments_left c.args.path) c.args.hop (ap (λ (b : Branch). b.routes) c.self.view_is) c.in_default.ensures.steps.0

pub invariant_of-self-in_err-child-in-Ok : goal.invariant_of-self-in_err-child-in-Ok
invariant_of-self-in_err-child-in-Ok t c =
    let change = changed_at c.in-Some.segment.now c.self.inside.children.items c.in-Ok.at c.index_mut.result.now c.make_mut.follows.lender-at-none c.index_mut.result.now.node.value c.index_mut.result.now.node.value
    c.self.invariant.ordered (hit_at c.in-Some.segment.now _ _ c.in-Ok.at c.deref.ensures.value c.in-Ok.ensures.range c.in-Ok.ensures.position) c.index_mut.ensures.value refl (either (at_err c.make_mut.result _ _ c.in_err-child-in-Ok.was c.make_mut.follows.holds-at-none)) in
    node_kept c.self.invariant change refl

pub returns-in_err-child-in-Ok-clause-unchanged : goal.returns-in_err-child-in-Ok-clause-unchanged
returns-in_err-child-in-Ok-clause-unchanged t c =
    let change = changed_at c.in-Some.segment.now c.self.inside.children.items c.in-Ok.at c.index_mut.result.now c.make_mut.follows.lender-at-none c.index_mut.result.now.node.value c.index_mut.result.now.node.value
    c.self.invariant.ordered (hit_at c.in-Some.segment.now _ _ c.in-Ok.at c.deref.ensures.value c.in-Ok.ensures.range c.in-Ok.ensures.position) c.index_mut.ensures.value refl (either (at_err c.make_mut.result _ _ c.in_err-child-in-Ok.was c.make_mut.follows.holds-at-none)) in
    always_err c.from_residual.result (kept c.self.inside.hop _ _ _ _ _ change.is change.differ refl ∙ ap (λ (b : Branch). b.routes) c.self.view_is)

pub invariant_of-self-in-Ok : goal.invariant_of-self-in-Ok
invariant_of-self-in-Ok t c =
    let change = changed_at c.in-Some.segment.now c.self.inside.children.items c.in-Ok.at c.index_mut.result.now (c.make_mut.follows.lender c.add.new.self) c.in_ok-child-in-Ok.child.now c.add.new.self
    c.self.invariant.ordered (hit_at c.in-Some.segment.now _ _ c.in-Ok.at c.deref.ensures.value c.in-Ok.ensures.range c.in-Ok.ensures.position) c.index_mut.ensures.value (either c.in_ok-child-in-Ok.ensures.value) (at_ok c.make_mut.result _ _ c.in_ok-child-in-Ok.was (c.make_mut.follows.holds c.add.new.self)) in
    node_more c.self.invariant change c.add.result _ _ c.add.ensures.added c.add.ensures.unchanged

pub returns-in-Ok-clause-added : goal.returns-in-Ok-clause-added
returns-in-Ok-clause-added t c =
    let change = changed_at c.in-Some.segment.now c.self.inside.children.items c.in-Ok.at c.index_mut.result.now (c.make_mut.follows.lender c.add.new.self) c.in_ok-child-in-Ok.child.now c.add.new.self
    c.self.invariant.ordered (hit_at c.in-Some.segment.now _ _ c.in-Ok.at c.deref.ensures.value c.in-Ok.ensures.range c.in-Ok.ensures.position) c.index_mut.ensures.value (either c.in_ok-child-in-Ok.ensures.value) (at_ok c.make_mut.result _ _ c.in_ok-child-in-Ok.was (c.make_mut.follows.holds c.add.new.self)) in
    on_ok _ _ _
    (added_below c.args.self.now c.self.inside.hop _ _ _ _ _ (segments_left c.args.path) _ c.args.hop (ap (λ (b : Branch). b.routes) c.self.view_is) c.in-Some.ensures.steps change.is change.differ)
    c.add.ensures.added

pub returns-in-Ok-clause-unchanged : goal.returns-in-Ok-clause-unchanged
returns-in-Ok-clause-unchanged t c =
    let change = changed_at c.in-Some.segment.now c.self.inside.children.items c.in-Ok.at c.index_mut.result.now (c.make_mut.follows.lender c.add.new.self) c.in_ok-child-in-Ok.child.now c.add.new.self
    c.self.invariant.ordered (hit_at c.in-Some.segment.now _ _ c.in-Ok.at c.deref.ensures.value c.in-Ok.ensures.range c.in-Ok.ensures.position) c.index_mut.ensures.value (either c.in_ok-child-in-Ok.ensures.value) (at_ok c.make_mut.result _ _ c.in_ok-child-in-Ok.was (c.make_mut.follows.holds c.add.new.self)) in
    on_err _ _ _ (λ e. kept c.self.inside.hop _ _ _ _ _ change.is change.differ e ∙ ap (λ (b : Branch). b.routes) c.self.view_is) c.add.ensures.unchanged

pub invariant_of-self-2 : goal.invariant_of-self-2
invariant_of-self-2 t c =
    let inside = subst (λ xs. c.in-Err.at ≤ length xs) c.deref.ensures.value c.in-Err.ensures.range in
    let gap = gap_at c.in-Some.segment.now _ c.self.inside.children.items c.in-Err.at c.deref.ensures.value c.self.invariant.ordered c.in-Err.ensures.position in
    node_inserted c.insert_child.result c.in-Some.segment.now _ _ c.in-Err.at _ c.self.invariant inside gap c.in_ok-segment.ensures.items
    (λ e. inserted_some _ _ _ (sym c.in_ok-add.ensures.added ∙ sym (ap (λ (b : Branch). b.routes) c.in_ok-node.ensures.ok) ∙ e))
    c.insert_child.ensures.inserted c.insert_child.ensures.unchanged

pub returns-clause-added : goal.returns-clause-added
returns-clause-added t c =
    let inside = subst (λ xs. c.in-Err.at ≤ length xs) c.deref.ensures.value c.in-Err.ensures.range in
    let gap = gap_at c.in-Some.segment.now _ c.self.inside.children.items c.in-Err.at c.deref.ensures.value c.self.invariant.ordered c.in-Err.ensures.position in
    let child : Child = record { segment = c.in_ok-segment.segment; node = c.in_ok-node.node } in
    on_ok c.insert_child.result _ _
    (λ (put : c.insert_child.new.children.items ≡ list.insert c.self.inside.children.items c.in-Err.at child).
    added_new c.args.self.now c.self.inside.hop (children_of c.self.inside.children.items) (children_of c.insert_child.new.children.items) c.in-Some.segment.now child.node.value c.new-node.result
    (segments_left c.args.path) _ c.args.hop (ap (λ (b : Branch). b.routes) c.self.view_is) c.in-Some.ensures.steps
    (sym (gap_none c.in-Some.segment.now c.self.inside.children.items c.in-Err.at inside gap))
    (put_in c.in-Some.segment.now c.self.inside.children.items c.insert_child.new.children.items c.in-Err.at child inside gap c.in_ok-segment.ensures.items put)
    c.new-node.ensures (ap (λ (b : Branch). b.routes) c.in_ok-node.ensures.ok ∙ c.in_ok-add.ensures.added))
    c.insert_child.ensures.inserted
