-- Routes that are among others, by node and by prefix.
use Rattle.std.proofs.Common.{◌≡◌, ◌<◌, ◌+◌, ℕ, cond, false, List, [], ◌∷◌, length, get_or, drop, refl, sym, ap, subst, ◌∙◌, inl, inr}
use Rattle.std.proofs.lemmas.List.{drop_more}
use Rattle.std.specs.Prelude.{Option, Some, None, ◌↔◌, ◌≢◌}
use Rattle.std.specs.List.{IsDistinct, AllByRecursion, join_with_byte}
use Rattle.std.specs.Map.{keys_of}
use Rattle.std.specs.FinMap as map
use Rattle.std.specs.FinMap.{entries}
use Rattle.ilp_addr.specs.Address.{prefix_segments}
use Rattle.route_table.specs.Children.{children_of}
use Rattle.route_table.specs.Kept.{routes_of, ArePrefixes}
use Rattle.route_table.specs.Nodes.{Branch, Children, routes_from, child_of, hop_in, IsNode}
use Rattle.route_table.specs.Paths.{Path, PathMap, is_same}
use Rattle.route_table.specs.Routes.{RouteMap}
use Rattle.route_table.specs.Within.{IsWithin}
use Rattle.route_table.specs.declared.hop.Hop.{Hop}
use Rattle.route_table.specs.declared.node.Child.{Child}
use Rattle.route_table.proofs.NodeLemmas.{distinct_keys, hop_is, child_is}
use Rattle.route_table.proofs.PathLemmas.{cases, same, same_test, turned, get, get_at, get_none, same_paths}
use Rattle.route_table.proofs.Rekeyed.{get_routes_of, valid_at}

-- ---- children, each found by its own segment

-- each child is what the function finds behind its segment
abbrev AreFound : (List ℕ → Option Branch) → Children → Type 0
AreFound f [] = Unit {0}
AreFound f (child ∷ children) = (f child.0 ≡ Some child.1) × AreFound f children

found_later : (s : List ℕ) (b : Branch) (f : List ℕ → Option Branch) (children : Children) → AllByRecursion (λ y. is_same s y ≡ false) (keys_of children) → AreFound f children
    → AreFound (λ t. cond (is_same t s) (Some b) (f t)) children
found_later s b f [] others found = tt
found_later s b f (child ∷ children) others found =
    (ap (λ x. cond x (Some b) (f child.0)) (turned s child.0 others.0) ∙ found.0, found_later s b f children others.1 found.1)

found_all : (children : Children) → IsDistinct is_same (keys_of children) → AreFound (λ s. child_of s children) children
unfolding IsDistinct
found_all [] distinct = tt
found_all (child ∷ children) distinct = (
  ap (λ x. cond x (Some child.1) (child_of child.0 children)) (same_test child.0 child.0 refl),
  found_later child.0 child.1 (λ s. child_of s children) children distinct.0 (found_all children distinct.1),
)

-- ---- children whose routes are among others

-- the routes of each child are among those, behind its segment
abbrev pub AreWithin : Children → PathMap → Type 0
AreWithin [] n = Unit {0}
AreWithin (child ∷ children) n =
    ((path : Path) (hop : Hop) → get child.1.routes path ≡ Some hop → get n (child.0 ∷ path) ≡ Some hop) × AreWithin children n

-- no child is without a route
abbrev pub AreUsed : Children → Type 0
AreUsed [] = Unit {0}
AreUsed (child ∷ children) = (child.1.routes ≢ map.empty) × AreUsed children

used_all : (f : List ℕ → Option Branch) (children : Children) → AreFound f children → ((s : List ℕ) (b : Branch) → f s ≡ Some b → b.routes ≢ map.empty) → AreUsed children
used_all f [] found used = tt
used_all f (child ∷ children) found used = (used child.0 child.1 found.0, used_all f children found.1 used)

each_within : (f : List ℕ → Option Branch) (n : PathMap) (children : Children) → AreFound f children
    → ((s : List ℕ) (q : Path) (h : Hop) → hop_in q (f s) ≡ Some h → get n (s ∷ q) ≡ Some h) → AreWithin children n
each_within f n [] found is = tt
each_within f n (child ∷ children) found is =
    ((λ q h e. is child.0 q h (ap (hop_in q) found.0 ∙ e)), each_within f n children found.1 is)

within_each : (n : PathMap) (s : List ℕ) (q : Path) (h : Hop) (children : Children) → AreWithin children n → hop_in q (child_of s children) ≡ Some h → get n (s ∷ q) ≡ Some h
within_each n s q h [] is e = absurd cc
within_each n s q h (child ∷ children) is e =
    elim (cases (is_same s child.0)) [
      | inl here ↦ subst (λ t. get n (t ∷ q) ≡ Some h) (sym (same s child.0 here)) (is.0 q h (rw here at e))
      | inr other ↦ within_each n s q h children is.1 (rw other at e)
    ]

-- what is left to be looked at of a node: some of its children
pub record IsLeft (m n : PathMap) (children : Children) : Type 0 where
  pub both : IsWithin m n ↔ AreWithin children n
  pub used : AreUsed children

-- the node's own hop is the other's, and all children are left
pub all_left : (b : Branch) (n : PathMap) (hop : Option Hop) (children left : Children) → routes_from hop children ≡ b.routes → left ≡ children → IsNode children
    → ((h : Hop) → hop ≡ Some h → get n [] ≡ Some h) → IsLeft b.routes n left
all_left b n hop children left view all node own =
    subst (IsLeft b.routes n) (sym all) (record { both = (forth, back); used = used_all (λ s. child_of s children) children found node.used })
  where
    found : AreFound (λ s. child_of s children) children
    found = found_all children (distinct_keys children node.ordered)

    forth : IsWithin b.routes n → AreWithin children n
    forth is = each_within (λ s. child_of s children) n children found
        (λ s q h e. is (s ∷ q) h (sym (child_is b hop children s (child_of s children) view refl q) ∙ e))

    back : AreWithin children n → IsWithin b.routes n
    back is [] h e = own h (hop_is b hop children view ∙ e)
    back is (s ∷ q) h e = within_each n s q h children is (child_is b hop children s (child_of s children) view refl q ∙ e)

-- the first child that is left, and those behind it
pub first_left : (items : List Child) (i : ℕ) (item : Child) → i < length items → item ≡ get_or items i item
    → children_of (drop i items) ≡ (item.segment.items, item.node.value) ∷ children_of (drop (i + 1) items)
first_left items i item inside is =
    ap children_of (drop_more items i item inside)
    ∙ ap (λ (x : Child). (x.segment.items, x.node.value) ∷ children_of (drop (i + 1) items)) (sym is)

-- a hop that the other lacks
pub own_lacks : (b : Branch) (n : PathMap) (hop : Option Hop) (children : Children) → routes_from hop children ≡ b.routes → IsWithin b.routes n
    → (h : Hop) → hop ≡ Some h → get n [] ≡ Some h
own_lacks b n hop children view is h e = is [] h (sym (hop_is b hop children view) ∙ e)

never : (o : Option Hop) → ((h : Hop) → o ≡ Some h → ⊥) → o ≡ None
never None none = refl
never (Some h) none = absurd (none h refl)

-- a child, and no node behind its segment in the other
pub child_lacks : (m n : PathMap) (children rest : Children) (s : List ℕ) (child : Branch) → IsLeft m n children → children ≡ (s, child) ∷ rest
    → ((path : Path) → None ≡ get n (s ∷ path)) → ¬ (IsWithin m n)
child_lacks m n children rest s child left is none within =
    let here : IsLeft m n ((s, child) ∷ rest) = subst (IsLeft m n) is left in
    let all = (here.both.0 within).0 in
    here.used.0 (same_paths child.routes map.empty
    (λ q. never (get child.routes q) (λ h e. let no : None ≡ Some h = none q ∙ all q h e in absurd cc) ∙ sym (get_none map.empty refl q)))

-- a child whose routes are not among the other's
pub child_differs : (m n node : PathMap) (children rest : Children) (s : List ℕ) (child : Branch) → IsLeft m n children → children ≡ (s, child) ∷ rest
    → ((path : Path) → get node path ≡ get n (s ∷ path)) → ¬ (IsWithin child.routes node) → ¬ (IsWithin m n)
child_differs m n node children rest s child left is same_node other within =
    let here : IsLeft m n ((s, child) ∷ rest) = subst (IsLeft m n) is left in
    other (λ q h e. same_node q ∙ (here.both.0 within).0 q h e)

-- a child whose routes are
pub one_left : (m n node : PathMap) (children rest : Children) (s : List ℕ) (child : Branch) → IsLeft m n children → children ≡ (s, child) ∷ rest
    → ((path : Path) → get node path ≡ get n (s ∷ path)) → IsWithin child.routes node → IsLeft m n rest
one_left m n node children rest s child left is same_node within =
    let here : IsLeft m n ((s, child) ∷ rest) = subst (IsLeft m n) is left in
    record {
      both = (λ w. (here.both.0 w).1, λ w. here.both.1 ((λ q h e. sym (same_node q) ∙ within q h e), w));
      used = here.used.1;
    }

-- nothing is left
pub none_left : (m n : PathMap) (children : Children) → IsLeft m n children → children ≡ [] → IsWithin m n
none_left m n children left is = (subst (IsLeft m n) is left).both.1 tt

-- ---- by prefix

agree : (o p : Option Hop) → ((h : Hop) → o ≡ Some h → p ≡ Some h) → ((h : Hop) → p ≡ Some h → o ≡ Some h) → o ≡ p
agree None None f g = refl
agree None (Some h) f g = g h refl
agree (Some h) p f g = sym (f h refl)

-- each of two maps within the other, they are the same
both_ways : (m n : PathMap) → IsWithin m n → IsWithin n m → m ≡ n
both_ways m n f g = same_paths m n (λ q. agree (get m q) (get n q) (f q) (g q))

pub same_routes_from : (m n : PathMap) (r t : RouteMap) → routes_of m ≡ r → routes_of n ≡ t → IsWithin m n → IsWithin n m → r ≡ t
same_routes_from m n r t view other f g = sym view ∙ ap routes_of (both_ways m n f g) ∙ other

pub within_from : (m n : PathMap) (r t : RouteMap) → routes_of m ≡ r → routes_of n ≡ t → ArePrefixes (entries m) → ArePrefixes (entries n) → r ≡ t → IsWithin m n
within_from m n r t view other valid good is path hop e =
    let prefix : List ℕ = join_with_byte 46 path in
    let path_is : prefix_segments prefix ≡ path = valid_at path (entries m) valid hop (sym (get_at m path) ∙ e) in
    ap (get n) (sym path_is) ∙ sym (get_routes_of n prefix good) ∙ ap (λ x. map.get x prefix) (other ∙ sym is ∙ sym view) ∙ get_routes_of m prefix valid ∙ ap (get m) path_is ∙ e
