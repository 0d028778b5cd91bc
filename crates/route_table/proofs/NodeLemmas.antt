-- The routes of a node, by those of its children.
use Rattle.std.proofs.Common.{◌≡◌, ℕ, Bool, true, false, cond, ◌&&◌, List, [], ◌∷◌, ◌++◌, length, arith, refl, sym, ap, subst, ◌∙◌, inl, inr, ◌⊎◌, ⊎_elim}
use Rattle.std.specs.Prelude.{Option, Some, None, Result, Ok, Err, OnOk, OnErr, ◌↔◌, is_some}
use Rattle.std.specs.Map.{keys_of}
use Rattle.std.specs.List.{IsDistinct, AllByRecursion}
use Rattle.std.specs.List.Sorted.{IsStrictlySortedBy}
use Rattle.std.specs.Option.{option_or}
use Rattle.std.specs.Ordering.{nat_cmp}
use Rattle.std.specs.Cmp.Lexicographic.{slice_cmp}
use Rattle.std.proofs.lemmas.Map.Keys.{IsDistinct-from_sorted}
use Rattle.std.specs.FinMap as map
use Rattle.std.specs.FinMap.{entries, get-from_entries}
use Rattle.route_table.specs.declared.node.PeerGroup.{PeerGroup}
use Rattle.route_table.specs.Paths.{Path, PathMap, is_same, longest_at}
use Rattle.route_table.specs.Nodes.{Branch, Children, PathRow, own_row, below, apart, rows_of, routes_from, child_of, hop_in, HasNoEmptyChild, IsInGroup, LeadsToGroup, Names}
use Rattle.route_table.proofs.PathLemmas.{cases, same, same_test, turned, tied, at, find_at, get, get_at, get_none, paths_total, same_paths}
use Rattle.route_table.proofs.PathLemmas.{get_inserted, get_removed, inserted_some, longest_cong, longest_none, or_or}
use Rattle.route_table.specs.declared.hop.Hop.{Hop}

-- ---- the rows of the children

at_append : (q : Path) (xs ys : List PathRow) → at q (xs ++ ys) ≡ option_or (at q xs) (at q ys)
at_append q [] ys = refl
at_append q (x ∷ xs) ys =
    elim (tied q x.0) as (λ b. cond b (Some x.1) (at q (xs ++ ys)) ≡ option_or (cond b (Some x.1) (at q xs)) (at q ys)) [
      | true ↦ refl
      | false ↦ at_append q xs ys
    ]

either : (b : Bool) (o : Option Hop) → o ≡ cond b o o
either true o = refl
either false o = refl

at_below : (s t : List ℕ) (q : Path) (rows : List PathRow) → at (s ∷ q) (below t rows) ≡ cond (is_same s t) (at q rows) None
at_below s t q [] = either (is_same s t) None
at_below s t q (row ∷ rows) =
    ap (cond (is_same s t && tied q row.0) (Some row.1)) (at_below s t q rows)
    ∙ elim (is_same s t) as (λ b. cond (b && tied q row.0) (Some row.1) (cond b (at q rows) None) ≡ cond b (cond (tied q row.0) (Some row.1) (at q rows)) None) [ true ↦ refl | false ↦ refl ]

none_below : (t : List ℕ) (rows : List PathRow) → at [] (below t rows) ≡ None
none_below t [] = refl
none_below t (row ∷ rows) = none_below t rows

at_apart : (s t : List ℕ) (q : Path) (rows : List PathRow) → at (s ∷ q) (apart t rows) ≡ cond (is_same s t) None (at (s ∷ q) rows)
at_apart s t q [] = either (is_same s t) None
at_apart s t q (([], hop) ∷ rows) = at_apart s t q rows
at_apart s t q ((u ∷ path, hop) ∷ rows) =
    let more = at_apart s t q rows in
    elim (cases (is_same u t)) [
      | inl gone ↦ elim (cases (is_same s t)) [
        | inl here ↦ rw (gone, here) (rw here at more)
        | inr other ↦
            let differs : is_same s u ≡ false = turned u s (ap (λ x. is_same x s) (same u t gone) ∙ turned s t other) in
            rw (gone, other, differs) (rw other at more)
      ]
      | inr kept ↦ elim (cases (is_same s t)) [
        | inl here ↦
            let differs : is_same s u ≡ false = turned u s (ap (is_same u) (same s t here) ∙ kept) in
            rw (kept, here, differs) (rw here at more)
        | inr other ↦ rw (kept, other) (ap (cond (is_same s u && tied q path) (Some hop)) (rw other at more))
      ]
    ]

none_apart : (t : List ℕ) (rows : List PathRow) → at [] rows ≡ None → at [] (apart t rows) ≡ None
none_apart t [] none = refl
none_apart t (([], hop) ∷ rows) none = none
none_apart t ((u ∷ path, hop) ∷ rows) none =
    elim (is_same u t) as (λ b. at [] (cond b (apart t rows) ((u ∷ path, hop) ∷ apart t rows)) ≡ None) [
      | true ↦ none_apart t rows none
      | false ↦ none_apart t rows none
    ]

at_rows_of : (s : List ℕ) (q : Path) (children : Children) → at (s ∷ q) (rows_of children) ≡ hop_in q (child_of s children)
at_rows_of s q [] = refl
at_rows_of s q (child ∷ children) =
    at_append (s ∷ q) (below child.0 (entries child.1.routes)) (apart child.0 (rows_of children))
    ∙ (λ i. option_or (at_below s child.0 q (entries child.1.routes) i) (at_apart s child.0 q (rows_of children) i))
    ∙ elim (is_same s child.0) as
    (λ b. option_or (cond b (at q (entries child.1.routes)) None) (cond b None (at (s ∷ q) (rows_of children))) ≡ hop_in q (cond b (Some child.1) (child_of s children))) [
      | true ↦ or_none (at q (entries child.1.routes)) ∙ sym (get_at child.1.routes q)
      | false ↦ at_rows_of s q children
    ]
  where
    or_none : (o : Option Hop) → option_or o None ≡ o
    or_none None = refl
    or_none (Some n) = refl

none_rows_of : (children : Children) → at [] (rows_of children) ≡ None
none_rows_of [] = refl
none_rows_of (child ∷ children) =
    at_append [] (below child.0 (entries child.1.routes)) (apart child.0 (rows_of children))
    ∙ (λ i. option_or (none_below child.0 (entries child.1.routes) i) (none_apart child.0 (rows_of children) (none_rows_of children) i))

-- ---- what a node has

get_routes_from : (hop : Option Hop) (children : Children) (q : Path) → get (routes_from hop children) q ≡ at q (own_row hop ++ rows_of children)
get_routes_from hop children q = get-from_entries paths_total (own_row hop ++ rows_of children) q ∙ find_at q (own_row hop ++ rows_of children)

pub get_here : (hop : Option Hop) (children : Children) → get (routes_from hop children) [] ≡ hop
get_here None children = get_routes_from None children [] ∙ none_rows_of children
get_here (Some n) children = get_routes_from (Some n) children []

pub get_below : (hop : Option Hop) (children : Children) (s : List ℕ) (q : Path) → get (routes_from hop children) (s ∷ q) ≡ hop_in q (child_of s children)
get_below None children s q = get_routes_from None children (s ∷ q) ∙ at_rows_of s q children
get_below (Some n) children s q = get_routes_from (Some n) children (s ∷ q) ∙ at_rows_of s q children

pub hop_is : (b : Branch) (hop : Option Hop) (children : Children) → routes_from hop children ≡ b.routes → hop ≡ get b.routes []
hop_is b hop children is = sym (get_here hop children) ∙ ap (λ m. get m []) is

pub child_is : (b : Branch) (hop : Option Hop) (children : Children) (s : List ℕ) (child : Option Branch) → routes_from hop children ≡ b.routes → child ≡ child_of s children
    → (path : Path) → hop_in path child ≡ get b.routes (s ∷ path)
child_is b hop children s child is found path = ap (hop_in path) found ∙ sym (get_below hop children s path) ∙ ap (λ m. get m (s ∷ path)) is

-- the child behind the first segment has what the node has behind it
pub walked : (m : PathMap) (left : Path) (s : List ℕ) (rest : Path) (child : Option Branch) → ((path : Path) → hop_in path child ≡ get m (s ∷ path)) → left ≡ s ∷ rest
    → hop_in rest child ≡ get m left
walked m left s rest child is steps = is rest ∙ ap (get m) (sym steps)

abbrev longest_in : Option Branch → Path → Option Hop
longest_in None path = None
longest_in (Some child) path = longest_at (get child.routes) path

pub longest_walked : (m : PathMap) (left : Path) (s : List ℕ) (rest : Path) (child : Option Branch) (best : Option Hop) → ((path : Path) → hop_in path child ≡ get m (s ∷ path)) → left ≡ s ∷ rest
    → option_or (longest_in child rest) (option_or (get m []) best) ≡ option_or (longest_at (get m) left) best
longest_walked m left s rest child best is steps =
    sym (or_or (longest_in child rest) (get m []) best)
    ∙ ap (λ o. option_or (option_or o (get m [])) best) (sym (longest_hop_in child rest) ∙ longest_cong (λ q. hop_in q child) (λ q. get m (s ∷ q)) is rest)
    ∙ ap (λ p. option_or (longest_at (get m) p) best) (sym steps)
  where
    longest_hop_in : (child : Option Branch) (path : Path) → longest_at (λ q. hop_in q child) path ≡ longest_in child path
    longest_hop_in None path = longest_none path
    longest_hop_in (Some child) path = refl

-- ---- a node with no routes

pub empty_from : (hop : Option Hop) (children : Children) → hop ≡ None → children ≡ [] → routes_from hop children ≡ map.empty
empty_from hop children none nothing = λ i. routes_from (none i) (nothing i)

pub from_empty : (hop : Option Hop) (children : Children) → HasNoEmptyChild children → routes_from hop children ≡ map.empty → (hop ≡ None) × (children ≡ [])
from_empty hop children used is = (sym (get_here hop children) ∙ get_none _ is [], nothing children used (λ s q. sym (get_below hop children s q) ∙ get_none _ is (s ∷ q)))
  where
    nothing : (children : Children) → HasNoEmptyChild children → ((s : List ℕ) (q : Path) → hop_in q (child_of s children) ≡ None) → children ≡ []
    nothing [] used none = refl
    nothing (child ∷ children) used none =
        let first : child_of child.0 (child ∷ children) ≡ Some child.1 = ap (λ b. cond b (Some child.1) (child_of child.0 children)) (same_test child.0 child.0 refl) in
        absurd (used child.0 child.1 first (same_paths _ _ (λ q. sym (ap (hop_in q) first) ∙ none child.0 q ∙ sym (get_none _ refl q))))

some_hop : (b : Branch) (n : Hop) (children : Children) → routes_from (Some n) children ≡ b.routes → ¬ (b.routes ≡ map.empty)
some_hop b n children is e = let none : Some n ≡ None = hop_is b (Some n) children is ∙ get_none b.routes e [] in absurd cc

nil : {A : Type 0} (xs : List A) → length xs ≡ 0 → xs ≡ []
nil [] e = refl
nil (x ∷ xs) e = absurd (omega arith)

-- no hop of its own: it has no routes exactly where it has no children
pub empty_without_hop : (b : Branch) (hop : Option Hop) (children : Children) → HasNoEmptyChild children → routes_from hop children ≡ b.routes → is_some hop ≡ false
    → (length children ≡ 0) ↔ (b.routes ≡ map.empty)
empty_without_hop b None children used is none = (
  λ e. sym is ∙ empty_from None children refl (nil children e),
  λ e. ap length (from_empty None children used (is ∙ e)).1,
)
empty_without_hop b (Some n) children used is none = absurd cc

pub not_empty_with_hop : (b : Branch) (hop : Option Hop) (children : Children) → routes_from hop children ≡ b.routes → is_some hop ≡ true → ¬ (b.routes ≡ map.empty)
not_empty_with_hop b None children is some = absurd cc
not_empty_with_hop b (Some n) children is some = some_hop b n children is

-- ---- a node that changes at one path

pub hop_set : (hop : Option Hop) (children : Children) (n : Hop) → routes_from (Some n) children ≡ map.insert (routes_from hop children) [] n
hop_set hop children n = same_paths _ _ (λ q. at_each q ∙ sym (get_inserted (routes_from hop children) [] n q))
  where
    at_each : (q : Path) → get (routes_from (Some n) children) q ≡ cond (tied q []) (Some n) (get (routes_from hop children) q)
    at_each [] = get_here (Some n) children
    at_each (s ∷ q) = get_below (Some n) children s q ∙ sym (get_below hop children s q)

pub hop_taken : (hop : Option Hop) (children : Children) → routes_from None children ≡ map.remove (routes_from hop children) []
hop_taken hop children = same_paths _ _ (λ q. at_each q ∙ sym (get_removed (routes_from hop children) [] q))
  where
    at_each : (q : Path) → get (routes_from None children) q ≡ cond (tied q []) None (get (routes_from hop children) q)
    at_each [] = get_here None children
    at_each (s ∷ q) = get_below None children s q ∙ sym (get_below hop children s q)

pub set_here : (b : Branch) (hop : Option Hop) (children : Children) (path : Path) (n : Hop) → routes_from hop children ≡ b.routes → path ≡ []
    → routes_from (Some n) children ≡ map.insert b.routes path n
set_here b hop children path n is none = hop_set hop children n ∙ (λ i. map.insert (is i) (sym none i) n)

pub taken_here : (b : Branch) (hop : Option Hop) (children : Children) (path : Path) → routes_from hop children ≡ b.routes → path ≡ []
    → routes_from None children ≡ map.remove b.routes path
taken_here b hop children path is none = hop_taken hop children ∙ (λ i. map.remove (is i) (sym none i))

-- the children differ at one segment
pub record Differ (old new : Children) (s : List ℕ) (child : Option Branch) : Type 0 where
  pub here : child_of s new ≡ child
  pub others : (t : List ℕ) → is_same t s ≡ false → child_of t new ≡ child_of t old

changed : (hop : Option Hop) (old new : Children) (s : List ℕ) (child : Option Branch) (p : Path) (v : Option Hop) → Differ old new s child
    → ((q : Path) → hop_in q child ≡ cond (tied q p) v (hop_in q (child_of s old)))
    → (q : Path) → get (routes_from hop new) q ≡ cond (tied q (s ∷ p)) v (get (routes_from hop old) q)
changed hop old new s child p v differ below [] = get_here hop new ∙ sym (get_here hop old)
changed hop old new s child p v differ below (t ∷ q) =
    get_below hop new t q
    ∙ elim (cases (is_same t s)) [
      | inl is ↦
          rw is (ap (λ x. hop_in q (child_of x new)) (same t s is) ∙ ap (hop_in q) differ.here ∙ below q
          ∙ ap (cond (tied q p) v) (ap (λ x. hop_in q (child_of x old)) (sym (same t s is)) ∙ sym (get_below hop old t q)))
      | inr other ↦ rw other (ap (hop_in q) (differ.others t other) ∙ sym (get_below hop old t q))
    ]

pub inserted : (hop : Option Hop) (old new : Children) (s : List ℕ) (child : Branch) (m : PathMap) (p : Path) (n : Hop) → Differ old new s (Some child)
    → child.routes ≡ map.insert m p n → ((q : Path) → get m q ≡ hop_in q (child_of s old))
    → routes_from hop new ≡ map.insert (routes_from hop old) (s ∷ p) n
inserted hop old new s child m p n differ e was =
    same_paths _ _ (λ q. changed hop old new s (Some child) p (Some n) differ
    (λ r. ap (λ x. get x r) e ∙ get_inserted m p n r ∙ ap (cond (tied r p) (Some n)) (was r)) q
    ∙ sym (get_inserted (routes_from hop old) (s ∷ p) n q))

pub removed : (hop : Option Hop) (old new : Children) (s : List ℕ) (child : Option Branch) (m : PathMap) (p : Path) → Differ old new s child
    → ((q : Path) → hop_in q child ≡ get (map.remove m p) q) → ((q : Path) → get m q ≡ hop_in q (child_of s old))
    → routes_from hop new ≡ map.remove (routes_from hop old) (s ∷ p)
removed hop old new s child m p differ e was =
    same_paths _ _ (λ q. changed hop old new s child p None differ
    (λ r. e r ∙ get_removed m p r ∙ ap (cond (tied r p) None) (was r)) q
    ∙ sym (get_removed (routes_from hop old) (s ∷ p) q))

-- ---- children that differ at a segment

pub then : (old mid new : Children) (s : List ℕ) (child other : Option Branch) → Differ old mid s child → Differ mid new s other → Differ old new s other
then old mid new s child other a b = record { here = b.here; others = λ t e. b.others t e ∙ a.others t e }

same_routes : (o : Option Branch) (a b : Branch) → o ≡ Some a → o ≡ Some b → a.routes ≡ b.routes
same_routes o a b e f = ap (peer_routes a) (sym e ∙ f)
  where
    peer_routes : Branch → Option Branch → PathMap
    peer_routes d None = d.routes
    peer_routes d (Some x) = x.routes

-- a child that has routes comes in for another, or for none
pub still_used : (old new : Children) (s : List ℕ) (child : Branch) → HasNoEmptyChild old → Differ old new s (Some child) → ¬ (child.routes ≡ map.empty) → HasNoEmptyChild new
still_used old new s child used differ some t other found =
    elim (cases (is_same t s)) [
      | inl is ↦ λ e. some (same_routes (child_of s new) child other differ.here (ap (λ x. child_of x new) (sym (same t s is)) ∙ found) ∙ e)
      | inr away ↦ used t other (sym (differ.others t away) ∙ found)
    ]

-- a child goes
pub less_used : (old new : Children) (s : List ℕ) → HasNoEmptyChild old → Differ old new s None → HasNoEmptyChild new
less_used old new s used differ t other found =
    elim (cases (is_same t s)) [
      | inl is ↦ let none : Some other ≡ None = sym found ∙ ap (λ x. child_of x new) (same t s is) ∙ differ.here in absurd cc
      | inr away ↦ used t other (sym (differ.others t away) ∙ found)
    ]

pub was_in : (child : Branch) (s : List ℕ) (old : Children) → Some child ≡ child_of s old → (q : Path) → get child.routes q ≡ hop_in q (child_of s old)
was_in child s old is q = ap (hop_in q) is

-- ---- one route more

pub outcome : {A E : Type 0} (r : Result A E) (P Q R : Type 0) → (P → R) → (Q → R) → OnOk r P → OnErr r Q → R
outcome (Ok x) P Q R f g p q = f p
outcome (Err e) P Q R f g p q = g q

pub on_ok : {A E : Type 0} (r : Result A E) (P Q : Type 0) → (P → Q) → OnOk r P → OnOk r Q
on_ok (Ok x) P Q f h = f h
on_ok (Err e) P Q f h = h

pub on_err : {A E : Type 0} (r : Result A E) (P Q : Type 0) → (P → Q) → OnErr r P → OnErr r Q
on_err (Ok x) P Q f h = h
on_err (Err e) P Q f h = f h

-- a child that took a route, or is as it was, has routes
pub child_used : {A E : Type 0} (r : Result A E) (old new : Children) (s : List ℕ) (was child : Branch) (p : Path) (n : Hop) → HasNoEmptyChild old
    → Some was ≡ child_of s old → Differ old new s (Some child) → OnOk r (child.routes ≡ map.insert was.routes p n) → OnErr r (child.routes ≡ was.routes) → HasNoEmptyChild new
child_used r old new s was child p n used is differ added stays =
    still_used old new s child used differ
    (outcome r _ _ (¬ (child.routes ≡ map.empty)) (λ e f. inserted_some was.routes p n (sym e ∙ f)) (λ e f. used s was (sym is) (sym e ∙ f)) added stays)

-- a child written back as it was
pub kept : (hop : Option Hop) (old new : Children) (s : List ℕ) (child was : Branch) → Some was ≡ child_of s old → Differ old new s (Some child) → child.routes ≡ was.routes
    → routes_from hop new ≡ routes_from hop old
kept hop old new s child was is differ e = same_paths _ _ at_each
  where
    at_each : (q : Path) → get (routes_from hop new) q ≡ get (routes_from hop old) q
    at_each [] = get_here hop new ∙ sym (get_here hop old)
    at_each (t ∷ q) =
        get_below hop new t q
        ∙ elim (cases (is_same t s)) [
          | inl tie ↦ ap (λ x. hop_in q (child_of x new)) (same t s tie) ∙ ap (hop_in q) differ.here ∙ ap (λ x. get x q) e
              ∙ was_in was s old is q ∙ ap (λ x. hop_in q (child_of x old)) (sym (same t s tie))
          | inr other ↦ ap (hop_in q) (differ.others t other)
        ]
        ∙ sym (get_below hop old t q)

-- the route went to a child that was there
pub added_below : (b : Branch) (hop : Option Hop) (old new : Children) (s : List ℕ) (was child : Branch) (left rest : Path) (n : Hop) → routes_from hop old ≡ b.routes → left ≡ s ∷ rest
    → Some was ≡ child_of s old → Differ old new s (Some child) → child.routes ≡ map.insert was.routes rest n → routes_from hop new ≡ map.insert b.routes left n
added_below b hop old new s was child left rest n view steps is differ e =
    inserted hop old new s child was.routes rest n differ e (was_in was s old is) ∙ (λ i. map.insert (view i) (sym steps i) n)

-- the route went to a child that is new
pub added_new : (b : Branch) (hop : Option Hop) (old new : Children) (s : List ℕ) (child fresh : Branch) (left rest : Path) (n : Hop) → routes_from hop old ≡ b.routes → left ≡ s ∷ rest
    → None ≡ child_of s old → Differ old new s (Some child) → fresh.routes ≡ map.empty → child.routes ≡ map.insert fresh.routes rest n → routes_from hop new ≡ map.insert b.routes left n
added_new b hop old new s child fresh left rest n view steps none differ nothing e =
    inserted hop old new s child fresh.routes rest n differ e (λ q. get_none fresh.routes nothing q ∙ ap (hop_in q) none)
    ∙ (λ i. map.insert (view i) (sym steps i) n)

-- ---- one route less

-- the child that lost the route has routes left
pub removed_below : (b : Branch) (hop : Option Hop) (old new : Children) (s : List ℕ) (was child : Branch) (left rest : Path) → routes_from hop old ≡ b.routes → left ≡ s ∷ rest
    → Some was ≡ child_of s old → Differ old new s (Some child) → child.routes ≡ map.remove was.routes rest → routes_from hop new ≡ map.remove b.routes left
removed_below b hop old new s was child left rest view steps is differ e =
    removed hop old new s (Some child) was.routes rest differ (λ q. ap (λ m. get m q) e) (was_in was s old is) ∙ (λ i. map.remove (view i) (sym steps i))

-- it has none left, and is taken away
pub removed_whole : (b : Branch) (hop : Option Hop) (old mid new : Children) (s : List ℕ) (was child : Branch) (left rest : Path) → routes_from hop old ≡ b.routes → left ≡ s ∷ rest
    → Some was ≡ child_of s old → Differ old mid s (Some child) → Differ mid new s None → child.routes ≡ map.remove was.routes rest → child.routes ≡ map.empty
    → routes_from hop new ≡ map.remove b.routes left
removed_whole b hop old mid new s was child left rest view steps is first second e nothing =
    removed hop old new s None was.routes rest (then old mid new s (Some child) None first second)
    (λ q. sym (ap (λ m. get m q) (sym e) ∙ get_none child.routes nothing q))
    (was_in was s old is)
    ∙ (λ i. map.remove (view i) (sym steps i))

-- no child is behind the segment
pub removed_nothing : (b : Branch) (hop : Option Hop) (children : Children) (s : List ℕ) (left rest : Path) → routes_from hop children ≡ b.routes → left ≡ s ∷ rest → None ≡ child_of s children
    → routes_from hop children ≡ map.remove b.routes left
removed_nothing b hop children s left rest view steps none =
    removed hop children children s None map.empty rest (record { here = sym none; others = λ t e. refl })
    (λ q. sym (get_removed map.empty rest q ∙ ap (cond (tied q rest) None) (get_none map.empty refl q) ∙ sym (either (tied q rest) None)))
    (λ q. get_none map.empty refl q ∙ ap (hop_in q) none)
    ∙ (λ i. map.remove (view i) (sym steps i))

-- ---- groups of peers

-- some path from a child on leads to the group
abbrev pub SomeChildNames : PeerGroup → Children → Type 0
SomeChildNames group [] = ⊥
SomeChildNames group (child ∷ children) = Names group child.1.routes ⊎ SomeChildNames group children

pub distinct_keys : (children : Children) → IsStrictlySortedBy (slice_cmp nat_cmp) (keys_of children) → IsDistinct is_same (keys_of children)
distinct_keys children sorted = IsDistinct-from_sorted (slice_cmp nat_cmp) (keys_of children) sorted

none_later : (k : List ℕ) (children : Children) → AllByRecursion (λ y. is_same k y ≡ false) (keys_of children) → child_of k children ≡ None
none_later k [] h = refl
none_later k (child ∷ children) h = rw h.0 (none_later k children h.1)

-- a hop from a child on, found in the order of the children
named_child : (group : PeerGroup) (s : List ℕ) (q : Path) (n : Hop) (children : Children) → hop_in q (child_of s children) ≡ Some n → IsInGroup group n.peer → SomeChildNames group children
named_child group s q n [] e is = absurd cc
named_child group s q n (child ∷ children) e is =
    elim (cases (is_same s child.0)) [
      | inl here ↦ inl (q, n, rw here at e, is)
      | inr other ↦ inr (named_child group s q n children (rw other at e) is)
    ]

-- and the other way: each child is found by its own segment
child_names : (group : PeerGroup) (children : Children) → IsDistinct is_same (keys_of children) → SomeChildNames group children
    → (s : List ℕ) × (q : Path) × (n : Hop) × (hop_in q (child_of s children) ≡ Some n) × IsInGroup group n.peer
unfolding IsDistinct
child_names group [] distinct some = absurd some
child_names group (child ∷ children) distinct (inl here) = (child.0, here.0, here.1, rw (same_test child.0 child.0 refl) here.2, here.3)
child_names group (child ∷ children) distinct (inr later) =
    let more = child_names group children distinct.1 later in
    elim (cases (is_same more.0 child.0)) [
      | inl here ↦
          let none : child_of more.0 children ≡ None = ap (λ x. child_of x children) (same more.0 child.0 here) ∙ none_later child.0 children distinct.0 in
          let gone : hop_in more.1 (child_of more.0 children) ≡ None = ap (hop_in more.1) none in
          absurd cc
      | inr other ↦ (more.0, more.1, more.2, rw other more.3, more.4)
    ]

pub own_names : (group : PeerGroup) (b : Branch) (hop : Option Hop) (children : Children) → routes_from hop children ≡ b.routes → LeadsToGroup group hop → Names group b.routes
own_names group b None children view own = absurd own
own_names group b (Some n) children view own = ([], n, sym (hop_is b (Some n) children view), own)

-- the node's own hop is not looked for, and the children are left
pub names_start : (group : PeerGroup) (b : Branch) (hop : Option Hop) (children left : Children) → routes_from hop children ≡ b.routes → left ≡ children → IsStrictlySortedBy (slice_cmp nat_cmp) (keys_of children)
    → ¬ (LeadsToGroup group hop) → Names group b.routes ↔ SomeChildNames group left
names_start group b hop children left view all sorted other =
    (λ names. subst (SomeChildNames group) (sym all) (forth names.0 names.1 names.2 names.3), λ some. back (subst (SomeChildNames group) all some))
  where
    own : (o : Option Hop) (n : Hop) → o ≡ Some n → IsInGroup group n.peer → LeadsToGroup group o
    own None n e is = absurd cc
    own (Some k) n e is = let same_hop : k ≡ n = cc in subst (λ (h : Hop). IsInGroup group h.peer) (sym same_hop) is

    forth : (q : Path) (n : Hop) → get b.routes q ≡ Some n → IsInGroup group n.peer → SomeChildNames group children
    forth [] n e is = absurd (other (own hop n (hop_is b hop children view ∙ e) is))
    forth (s ∷ q) n e is = named_child group s q n children (child_is b hop children s (child_of s children) view refl q ∙ e) is

    back : SomeChildNames group children → Names group b.routes
    back some =
        let child = child_names group children (distinct_keys children sorted) some in
        (child.0 ∷ child.1, child.2, sym (child_is b hop children child.0 (child_of child.0 children) view refl child.1) ∙ child.3, child.4)

pub but : {A B C : Type 0} → A ↔ (B ⊎ C) → ¬ B → A ↔ C
but both none = (λ a. ⊎_elim (λ b. absurd (none b)) (λ c. c) (both.0 a), λ c. both.1 (inr c))
