use Rattle.std.proofs.Common.{rules, ◌≡◌, ◌∷◌, drop_of_length-le, None, ap, refl, sym, subst, ◌∙◌}
use Rattle.std.specs.FinMap.{get}
use Rattle.std.specs.Option.{option_copied}
use Rattle.route_table.specs.declared.node.Child.{Child}
use Rattle.route_table.specs.Nodes.{Branch, hop_in}
use Rattle.route_table.specs.Children.{children_of}
use Rattle.route_table.specs.Within.{IsWithin}
use Rattle.route_table.proofs.Included.{all_left, own_lacks, child_lacks, child_differs, first_left, one_left, none_left}
use Rattle.route_table.proofs.node.Node.+is_within.Goals as goal

pub returns-then-not-is_hop_of : goal.returns-then-not-is_hop_of
returns-then-not-is_hop_of t c = (
  λ no. absurd cc,
  λ within.
      let own = c.is_hop_of.ensures.1 (λ h e. c.hop.ensures ∙ own_lacks c.args.self.now c.args.other.now.routes c.self.inside.hop (children_of c.self.inside.children.items) (ap (λ (b : Branch). b.routes) c.self.view_is) within h e) in
      absurd cc,
)

pub loop-child-init : goal.loop-child-init
loop-child-init t c =
    all_left c.args.self.now c.args.other.now.routes c.self.inside.hop (children_of c.self.inside.children.items) _ (ap (λ (b : Branch). b.routes) c.self.view_is) (ap children_of c.deref-child-items.ensures.value) c.self.invariant
    (λ h e. let own = c.is_hop_of.ensures.0 (let yes = c.if-not-is_hop_of.false in cc) h e in sym c.hop.ensures ∙ own)

pub returns-in_default : goal.returns-in_default
returns-in_default t c =
    let item : Child = c.child-item.result in
    let now = first_left c.deref-child-items.result.now c.loop-child.child-index item c.loop-child-test.true c.child-item.is in
    let none : c.child.result ≡ None = search rules in (
      λ no. absurd cc,
      λ within. absurd (child_lacks c.args.self.now.routes c.args.other.now.routes _ _ item.segment.items item.node.value c.loop-child.invariant now
          (λ path. ap (λ o. hop_in path (option_copied o)) (sym none) ∙ c.child.ensures path ∙ ap (λ s. get c.args.other.now.routes (s ∷ path)) c.deref.ensures.value) within),
    )

pub returns-then-not-is_within : goal.returns-then-not-is_within
returns-then-not-is_within t c =
    let item : Child = c.child-item.result in
    let now = first_left c.deref-child-items.result.now c.loop-child.child-index item c.loop-child-test.true c.child-item.is in (
      λ no. absurd cc,
      λ within. absurd (child_differs c.args.self.now.routes c.args.other.now.routes c.in-Some.node.now.routes _ _ item.segment.items item.node.value c.loop-child.invariant now
          (λ path. ap (λ o. hop_in path (option_copied o)) (sym c.in-Some.is) ∙ c.child.ensures path ∙ ap (λ s. get c.args.other.now.routes (s ∷ path)) c.deref.ensures.value)
          (λ is. let yes = c.is_within.ensures.1 (subst (λ (b : Branch). IsWithin b.routes c.in-Some.node.now.routes) (sym c.deref-in-loop-child.ensures) is) in absurd cc) within),
    )

pub loop-child-preserved : goal.loop-child-preserved
loop-child-preserved t c =
    let item : Child = c.child-item.result in
    let now = first_left c.deref-child-items.result.now c.loop-child.child-index item c.loop-child-test.true c.child-item.is in
    one_left c.args.self.now.routes c.args.other.now.routes c.in-Some.node.now.routes _ _ item.segment.items item.node.value c.loop-child.invariant now
    (λ path. ap (λ o. hop_in path (option_copied o)) (sym c.in-Some.is) ∙ c.child.ensures path ∙ ap (λ s. get c.args.other.now.routes (s ∷ path)) c.deref.ensures.value)
    (subst (λ (b : Branch). IsWithin b.routes c.in-Some.node.now.routes) c.deref-in-loop-child.ensures (c.is_within.ensures.0 c.if-not-is_within.false))

pub returns : goal.returns
returns t c = (
  λ yes. none_left c.args.self.now.routes c.args.other.now.routes _ c.loop-child.invariant (ap children_of (drop_of_length-le c.deref-child-items.result.now c.loop-child-test.false)),
  λ within. refl,
)
