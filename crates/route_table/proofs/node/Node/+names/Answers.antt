use Rattle.std.proofs.Common.{ap, refl, sym, subst, ◌∙◌}
use Rattle.std.specs.Prelude.{◌↔◌}
use Rattle.std.proofs.lemmas.List.{drop_more}
use Rattle.route_table.specs.declared.node.Child.{Child}
use Rattle.route_table.specs.Nodes.{Branch, Names}
use Rattle.route_table.specs.Children.{children_of}
use Rattle.route_table.proofs.NodeLemmas.{SomeChildNames, own_names, names_start, but}
use Rattle.route_table.proofs.node.Node.+names.Goals as goal

pub returns-then-leads_to : goal.returns-then-leads_to
returns-then-leads_to t c = (
  λ _. own_names _ c.args.self.now c.self.inside.hop (children_of c.self.inside.children.items) (ap (λ (b : Branch). b.routes) c.self.view_is) (c.leads_to.ensures.0 c.if-leads_to.true),
  λ _. refl,
)

pub loop-child-init : goal.loop-child-init
loop-child-init t c =
    names_start _ c.args.self.now c.self.inside.hop (children_of c.self.inside.children.items) _ (ap (λ (b : Branch). b.routes) c.self.view_is) (ap children_of c.deref-child-items.ensures.value) c.self.invariant.ordered
    (λ own. let yes = c.leads_to.ensures.1 own in absurd cc)

pub loop-child-preserved : goal.loop-child-preserved
loop-child-preserved t c =
    let left = subst (λ xs. Names c.args.group c.args.self.now.routes ↔ SomeChildNames c.args.group (children_of xs))
    (drop_more c.deref-child-items.result.now c.loop-child.child-index c.child-item.result c.loop-child-test.true) c.loop-child.invariant in
    let same_node = c.deref.ensures ∙ ap (λ (child : Child). child.node.value) c.child-item.is in
    but left (λ named. let yes = c.names.ensures.1 (subst (λ (b : Branch). Names c.args.group b.routes) (sym same_node) named) in absurd cc)
