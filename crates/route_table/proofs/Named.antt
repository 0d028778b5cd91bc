-- Which peers the routes name, by prefix and by path.
use Rattle.std.proofs.Common.{◌≡◌, ℕ, Bool, true, false, cond, not, ltb, eqb, ◌&&◌, ◌||◌, T, List, [], ◌∷◌, Ordering, Less, Equal, Greater, refl, sym, ap, ◌∙◌, inl, inr}
use Rattle.std.specs.Prelude.{Some, None, ◌↔◌, IsTrue}
use Rattle.std.specs.List.{join_with_byte, list_all, list_any}
use Rattle.std.specs.Ordering.{nat_cmp, is_eq, is_lt, eq_by_cmp}
use Rattle.std.specs.Cmp.Lexicographic.{slice_cmp}
use Rattle.std.specs.FinMap as map
use Rattle.std.proofs.Common.{map as List-map}
use Rattle.std.specs.FinMap.{find, is_sorted, entries, entries_sorted, get-entries, values}
use Rattle.std.specs.FinMap.Entries.{below_all}
use Rattle.std.proofs.lemmas.Bool.{ltb-false, le-ltb, eq-eqb, eqb-true}
use Rattle.std.proofs.Math.Bool.{and-false, or-true}
use Rattle.std.proofs.lemmas.List.Folds.{list_all-map}
use Rattle.ilp_addr.specs.Address.{prefix_segments}
use Rattle.route_table.specs.declared.node.PeerGroup.{PeerGroup}
use Rattle.route_table.specs.declared.node.PeerGroup.TheVariants.{Peer, NotBelow}
use Rattle.route_table.specs.Paths.{PathMap}
use Rattle.route_table.specs.Nodes.{IsInGroup, Names}
use Rattle.route_table.specs.Routes.{RouteMap, NamesPeer}
use Rattle.route_table.specs.Kept.{routes_of, ArePrefixes}
use Rattle.route_table.proofs.Matching.{tied_same, same_tied}
use Rattle.route_table.proofs.PathLemmas.{cases, get_at}
use Rattle.route_table.proofs.Rekeyed.{get_routes_of, valid_at}
use Rattle.route_table.specs.declared.hop.Hop.{Hop}

abbrev Row : Type 0
Row = List ℕ × Hop

abbrev prefix_cmp : List ℕ → List ℕ → Ordering
prefix_cmp = slice_cmp nat_cmp

-- some prefix has a peer that is looked for
abbrev PrefixNames : PeerGroup → RouteMap → Type 0
PrefixNames group routes = (prefix : List ℕ) × (hop : Hop) × (map.get routes prefix ≡ Some hop) × IsInGroup group hop.peer

by_prefix : (group : PeerGroup) (m : PathMap) (routes : RouteMap) → routes_of m ≡ routes → ArePrefixes (entries m) → Names group m ↔ PrefixNames group routes
by_prefix group m routes view valid = (
  λ names.
      let path_is : prefix_segments (join_with_byte 46 names.0) ≡ names.0 = valid_at names.0 (entries m) valid names.1 (sym (get_at m names.0) ∙ names.2) in
      let prefix : List ℕ = join_with_byte 46 names.0 in
      (prefix, names.1, ap (λ r. map.get r prefix) (sym view) ∙ get_routes_of m prefix valid ∙ ap (map.get m) path_is ∙ names.2, names.3),
  λ named. (prefix_segments named.0, named.1, sym (get_routes_of m named.0 valid) ∙ ap (λ r. map.get r named.0) view ∙ named.2, named.3),
)

pub names_peer_is : (m : PathMap) (routes : RouteMap) (peer : ℕ) (b : Bool) → routes_of m ≡ routes → ArePrefixes (entries m) → IsTrue b ↔ Names (Peer peer) m → IsTrue b ↔ NamesPeer routes peer
names_peer_is m routes peer b view valid decides =
    let both = by_prefix (Peer peer) m routes view valid in
    (λ t. both.0 (decides.0 t), λ named. decides.1 (both.1 named))

-- ---- a test of each peer

parts : (a b : Bool) → T (a && b) → T a × T b
parts true b p = (tt, p)
parts false b p = absurd p

not_equal : (o : Ordering) → T (is_lt o) → is_eq o ≡ false
not_equal Less p = refl
not_equal Equal p = absurd p
not_equal Greater p = absurd p

not_above : (x : List ℕ) (rows : List Row) → T (below_all prefix_cmp x rows) → find prefix_cmp x rows ≡ None
not_above x [] below = refl
not_above x (row ∷ rows) below =
    let both = parts _ _ below in
    ap (λ b. cond b (Some row.1) (find prefix_cmp x rows)) (not_equal (prefix_cmp x row.0) both.0) ∙ not_above x rows both.1

later : (row : Row) (rows : List Row) (k : List ℕ) (n : Hop) → T (below_all prefix_cmp row.0 rows) → find prefix_cmp k rows ≡ Some n → find prefix_cmp k (row ∷ rows) ≡ Some n
later row rows k n below e =
    elim (cases (eq_by_cmp prefix_cmp k row.0)) [
      | inl here ↦ let none : find prefix_cmp k rows ≡ None = ap (λ q. find prefix_cmp q rows) (tied_same k row.0 here) ∙ not_above row.0 rows below in absurd cc
      | inr away ↦ rw away e
    ]

each_passes : (p : Hop → Bool) (rows : List Row) → T (is_sorted prefix_cmp rows) → ((k : List ℕ) (n : Hop) → find prefix_cmp k rows ≡ Some n → p n ≡ true) → list_all (λ row. p row.1) rows ≡ true
each_passes p [] sorted h = refl
each_passes p (row ∷ rows) sorted h =
    let both = parts _ _ sorted in
    let here : p row.1 ≡ true = h row.0 row.1 (ap (λ b. cond b (Some row.1) (find prefix_cmp row.0 rows)) (same_tied row.0 row.0 refl)) in
    ap (λ b. b && list_all (λ (x : Row). p x.1) rows) here ∙ each_passes p rows both.1 (λ k n e. h k n (later row rows k n both.0 e))

one_fails : (p : Hop → Bool) (k : List ℕ) (n : Hop) (rows : List Row) → find prefix_cmp k rows ≡ Some n → p n ≡ false → list_all (λ row. p row.1) rows ≡ false
one_fails p k n [] e f = absurd cc
one_fails p k n (row ∷ rows) e f =
    elim (cases (eq_by_cmp prefix_cmp k row.0)) [
      | inl here ↦
          let is : Some row.1 ≡ Some n = rw here at e in
          let hop : row.1 ≡ n = cc in
          ap (λ b. b && list_all (λ (x : Row). p x.1) rows) (ap p hop ∙ f)
      | inr away ↦ ap (λ b. p row.1 && b) (one_fails p k n rows (rw away at e) f) ∙ and-false (p row.1)
    ]

pub names_below_is : (m : PathMap) (routes : RouteMap) (count : ℕ) (b : Bool) → routes_of m ≡ routes → ArePrefixes (entries m) → IsTrue b ↔ Names (NotBelow count) m
    → not b ≡ list_all (λ hop. ltb hop.peer count) (values routes)
names_below_is m routes count b view valid decides = answer b refl ∙ sym (list_all-map (λ hop. ltb hop.peer count) (λ (row : Row). row.1) (entries routes))
  where
    both : Names (NotBelow count) m ↔ PrefixNames (NotBelow count) routes
    both = by_prefix (NotBelow count) m routes view valid

    answer : (a : Bool) → b ≡ a → not a ≡ list_all (λ row. ltb row.1.peer count) (entries routes)
    answer true e =
        let named = both.0 (decides.0 e) in
        sym (one_fails (λ hop. ltb hop.peer count) named.0 named.1 (entries routes) (sym (get-entries routes named.0) ∙ named.2) (le-ltb named.1.peer count named.3))
    answer false e =
        sym (each_passes (λ hop. ltb hop.peer count) (entries routes) (entries_sorted routes) (λ k n f. elim (cases (ltb n.peer count)) [
          | inl less ↦ less
          | inr most ↦ let bad : b ≡ true = decides.1 (both.1 (k, n, get-entries routes k ∙ f, ltb-false n.peer count most)) in absurd cc
        ]))

-- ---- one peer

one_passes : (p : Hop → Bool) (k : List ℕ) (n : Hop) (rows : List Row) → find prefix_cmp k rows ≡ Some n → p n ≡ true → list_any (λ row. p row.1) rows ≡ true
one_passes p k n [] e f = absurd cc
one_passes p k n (row ∷ rows) e f =
    elim (cases (eq_by_cmp prefix_cmp k row.0)) [
      | inl here ↦
          let is : Some row.1 ≡ Some n = rw here at e in
          let hop : row.1 ≡ n = cc in
          ap (λ b. b || list_any (λ (x : Row). p x.1) rows) (ap p hop ∙ f)
      | inr away ↦ ap (λ b. p row.1 || b) (one_passes p k n rows (rw away at e) f) ∙ or-true (p row.1)
    ]

none_passes : (p : Hop → Bool) (rows : List Row) → T (is_sorted prefix_cmp rows) → ((k : List ℕ) (n : Hop) → find prefix_cmp k rows ≡ Some n → p n ≡ false) → list_any (λ row. p row.1) rows ≡ false
none_passes p [] sorted h = refl
none_passes p (row ∷ rows) sorted h =
    let both = parts _ _ sorted in
    let here : p row.1 ≡ false = h row.0 row.1 (ap (λ b. cond b (Some row.1) (find prefix_cmp row.0 rows)) (same_tied row.0 row.0 refl)) in
    ap (λ b. b || list_any (λ (x : Row). p x.1) rows) here ∙ none_passes p rows both.1 (λ k n e. h k n (later row rows k n both.0 e))

list_any-map : (p : Hop → Bool) (rows : List Row) → list_any p (List-map (λ (row : Row). row.1) rows) ≡ list_any (λ row. p row.1) rows
list_any-map p [] = refl
list_any-map p (row ∷ rows) = ap (λ b. p row.1 || b) (list_any-map p rows)

pub names_peer_listed : (m : PathMap) (routes : RouteMap) (peer : ℕ) (b : Bool) → routes_of m ≡ routes → ArePrefixes (entries m) → IsTrue b ↔ Names (Peer peer) m
    → b ≡ list_any (λ hop. eqb hop.peer peer) (values routes)
names_peer_listed m routes peer b view valid decides = answer b refl ∙ sym (list_any-map (λ hop. eqb hop.peer peer) (entries routes))
  where
    both : Names (Peer peer) m ↔ PrefixNames (Peer peer) routes
    both = by_prefix (Peer peer) m routes view valid

    answer : (a : Bool) → b ≡ a → a ≡ list_any (λ row. eqb row.1.peer peer) (entries routes)
    answer true e =
        let named = both.0 (decides.0 e) in
        sym (one_passes (λ hop. eqb hop.peer peer) named.0 named.1 (entries routes) (sym (get-entries routes named.0) ∙ named.2) (eq-eqb named.1.peer peer named.3))
    answer false e =
        sym (none_passes (λ hop. eqb hop.peer peer) (entries routes) (entries_sorted routes) (λ k n f. elim (cases (eqb n.peer peer)) [
          | inl same ↦ let bad : b ≡ true = decides.1 (both.1 (k, n, get-entries routes k ∙ f, eqb-true n.peer peer same)) in absurd cc
          | inr other ↦ other
        ]))
