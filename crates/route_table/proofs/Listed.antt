-- The routes of a node in the order of their paths: its own, and then those of its children, one after the other.
use Rattle.std.proofs.Common.{◌≡◌, ℕ, Bool, true, false, ◌&&◌, List, [], ◌∷◌, ◌++◌, T, get_or, drop, length, ◌<◌, ◌+◌, refl, sym, ap, subst, ◌∙◌, Less, Equal, Greater, Ordering}
use Rattle.std.specs.Prelude.{Option, Some, None}
use Rattle.std.specs.List.{AllByRecursion, join_with_byte}
use Rattle.std.specs.List.Sorted.{IsStrictlySortedBy}
use Rattle.std.specs.Map.{keys_of}
use Rattle.std.specs.Ordering.{nat_cmp, is_lt, is_eq, ordering_then}
use Rattle.std.specs.Cmp.{tied_itself}
use Rattle.std.specs.Cmp.Lexicographic.{slice_cmp}
use Rattle.std.proofs.lemmas.Cmp.{nat_list_cmp_total}
use Rattle.std.proofs.lemmas.List.{append_assoc, drop_more}
use Rattle.std.specs.FinMap.{entries, from_entries, entries_sorted, get-entries, get-from_entries}
use Rattle.std.specs.FinMap.{slice_cmp-IsAntisymmetric, nat_cmp-IsAntisymmetric}
use Rattle.std.specs.FinMap.Entries.{below_all, is_sorted, same_entries}
use Rattle.ilp_addr.specs.Address.{IsPrefix}
use Rattle.route_table.specs.Paths.{Path, is_same}
use Rattle.route_table.specs.Nodes.{Branch, Children, PathRow, own_row, below, apart, rows_of, routes_from}
use Rattle.route_table.specs.declared.node.Child.{Child}
use Rattle.route_table.specs.Children.{children_of}
use Rattle.route_table.specs.Listing.{prefix_behind, front_with, spelled, AreSpelled}
use Rattle.route_table.specs.declared.route.Route.{Route}
use Rattle.route_table.specs.declared.hop.Hop.{Hop}
use Rattle.route_table.proofs.PathLemmas.{path_cmp, paths_total, turned}

abbrev cmp : List ℕ → List ℕ → Ordering
cmp = slice_cmp nat_cmp

-- ---- what a sorted list of rows makes

entries_from : (rows : List PathRow) → T (is_sorted path_cmp rows) → entries (from_entries {R = path_cmp} rows) ≡ rows
entries_from rows sorted =
    same_entries path_cmp paths_total (slice_cmp-IsAntisymmetric (slice_cmp-IsAntisymmetric nat_cmp-IsAntisymmetric))
    (entries (from_entries rows)) rows (entries_sorted (from_entries rows)) sorted
    (λ q. sym (get-entries (from_entries rows) q) ∙ get-from_entries paths_total rows q)

-- the rows of the children, one child after the other
abbrev pub behind : Children → List PathRow
behind [] = []
behind (child ∷ children) = below child.0 (entries child.1.routes) ++ behind children

-- ---- they are sorted

pub both : (a b : Bool) → T a → T b → T (a && b)
both true b p q = q
both false b p q = absurd p

pub parts : (a b : Bool) → T (a && b) → T a × T b
parts true b p = (tt, p)
parts false b p = absurd p

pub is_less : (o : Ordering) → T (is_lt o) → o ≡ Less
is_less Less p = refl
is_less Equal p = absurd p
is_less Greater p = absurd p

from_less : (o : Ordering) → o ≡ Less → T (is_lt o)
from_less o e = subst (λ r. T (is_lt r)) (sym e) tt

behind_same : (s : List ℕ) (p q : Path) → path_cmp p q ≡ Less → path_cmp (s ∷ p) (s ∷ q) ≡ Less
behind_same s p q e = ap (λ o. ordering_then o (path_cmp p q)) (tied_itself nat_list_cmp_total s) ∙ e

behind_less : (s t : List ℕ) (p q : Path) → cmp s t ≡ Less → path_cmp (s ∷ p) (t ∷ q) ≡ Less
behind_less s t p q e = ap (λ o. ordering_then o (path_cmp p q)) e

under_same : (s : List ℕ) (p : Path) (rows : List PathRow) → T (below_all path_cmp p rows) → T (below_all path_cmp (s ∷ p) (below s rows))
under_same s p [] h = tt
under_same s p (row ∷ rows) h =
    let two = parts _ _ h in
    both _ _ (from_less _ (behind_same s p row.0 (is_less _ two.0))) (under_same s p rows two.1)

under_other : (s t : List ℕ) (p : Path) (rows : List PathRow) → cmp s t ≡ Less → T (below_all path_cmp (s ∷ p) (below t rows))
under_other s t p [] e = tt
under_other s t p (row ∷ rows) e = both _ _ (from_less _ (behind_less s t p row.0 e)) (under_other s t p rows e)

under_append : (p : Path) (xs ys : List PathRow) → T (below_all path_cmp p xs) → T (below_all path_cmp p ys) → T (below_all path_cmp p (xs ++ ys))
under_append p [] ys h k = k
under_append p (x ∷ xs) ys h k =
    let two = parts _ _ h in
    both _ _ two.0 (under_append p xs ys two.1 k)

under_others : (s : List ℕ) (p : Path) (children : Children) → AllByRecursion (λ t. cmp s t ≡ Less) (keys_of children) → T (below_all path_cmp (s ∷ p) (behind children))
under_others s p [] all = tt
under_others s p (child ∷ children) all =
    under_append (s ∷ p) (below child.0 (entries child.1.routes)) (behind children) (under_other s child.0 p (entries child.1.routes) all.0) (under_others s p children all.1)

sorted_before : (s : List ℕ) (rows others : List PathRow) → T (is_sorted path_cmp rows) → T (is_sorted path_cmp others) → ((p : Path) → T (below_all path_cmp (s ∷ p) others))
    → T (is_sorted path_cmp (below s rows ++ others))
sorted_before s [] others h k before = k
sorted_before s (row ∷ rows) others h k before =
    let two = parts _ _ h in
    both _ _ (under_append (s ∷ row.0) (below s rows) others (under_same s row.0 rows two.0) (before row.0)) (sorted_before s rows others two.1 k before)

sorted_behind : (children : Children) → IsStrictlySortedBy cmp (keys_of children) → T (is_sorted path_cmp (behind children))
unfolding IsStrictlySortedBy
sorted_behind [] ordered = tt
sorted_behind (child ∷ children) ordered =
    sorted_before child.0 (entries child.1.routes) (behind children) (entries_sorted child.1.routes) (sorted_behind children ordered.1)
    (λ p. under_others child.0 p children ordered.0)

first_below : (s : List ℕ) (rows : List PathRow) → T (below_all path_cmp [] (below s rows))
first_below s [] = tt
first_below s (row ∷ rows) = first_below s rows

first_behind : (children : Children) → T (below_all path_cmp [] (behind children))
first_behind [] = tt
first_behind (child ∷ children) =
    under_append [] (below child.0 (entries child.1.routes)) (behind children) (first_below child.0 (entries child.1.routes)) (first_behind children)

sorted_all : (hop : Option Hop) (children : Children) → IsStrictlySortedBy cmp (keys_of children) → T (is_sorted path_cmp (own_row hop ++ behind children))
sorted_all None children ordered = sorted_behind children ordered
sorted_all (Some n) children ordered = both _ _ (first_behind children) (sorted_behind children ordered)

-- ---- none of them is passed over

apart_below : (s t : List ℕ) (rows others : List PathRow) → is_same t s ≡ false → apart s (below t rows ++ others) ≡ below t rows ++ apart s others
apart_below s t [] others e = refl
apart_below s t (row ∷ rows) others e = rw e (ap (λ xs. (t ∷ row.0, row.1) ∷ xs) (apart_below s t rows others e))

apart_behind : (s : List ℕ) (children : Children) → AllByRecursion (λ t. cmp s t ≡ Less) (keys_of children) → apart s (behind children) ≡ behind children
apart_behind s [] all = refl
apart_behind s (child ∷ children) all =
    apart_below s child.0 (entries child.1.routes) (behind children) (turned s child.0 (ap is_eq all.0))
    ∙ ap (λ xs. below child.0 (entries child.1.routes) ++ xs) (apart_behind s children all.1)

rows_are : (children : Children) → IsStrictlySortedBy cmp (keys_of children) → rows_of children ≡ behind children
unfolding IsStrictlySortedBy
rows_are [] ordered = refl
rows_are (child ∷ children) ordered =
    ap (λ xs. below child.0 (entries child.1.routes) ++ apart child.0 xs) (rows_are children ordered.1)
    ∙ ap (λ xs. below child.0 (entries child.1.routes) ++ xs) (apart_behind child.0 children ordered.0)

pub entries_are : (hop : Option Hop) (children : Children) → IsStrictlySortedBy cmp (keys_of children) → entries (routes_from hop children) ≡ own_row hop ++ behind children
entries_are hop children ordered =
    ap (λ xs. entries (from_entries {R = path_cmp} (own_row hop ++ xs))) (rows_are children ordered)
    ∙ entries_from (own_row hop ++ behind children) (sorted_all hop children ordered)

pub entries_of : (b : Branch) (hop : Option Hop) (children : Children) → routes_from hop children ≡ b.routes → IsStrictlySortedBy cmp (keys_of children)
    → entries b.routes ≡ own_row hop ++ behind children
entries_of b hop children is ordered = ap entries (sym is) ∙ entries_are hop children ordered

-- ---- with their prefixes

joined_on : (front s : List ℕ) (path : Path) → join_with_byte 46 ((front ++ 46 ∷ s) ∷ path) ≡ join_with_byte 46 (front ∷ s ∷ path)
joined_on front s [] = refl
joined_on front s (t ∷ path) = append_assoc front (46 ∷ s) (46 ∷ join_with_byte 46 (t ∷ path))

pub behind_front : (front : Option (List ℕ)) (s : List ℕ) (path : Path) → prefix_behind (Some (front_with front s)) path ≡ prefix_behind front (s ∷ path)
behind_front None s path = refl
behind_front (Some front) s path = joined_on front s path

abbrev route_at : List ℕ → Hop → Route
route_at prefix hop = record { prefix = prefix; hop = hop }

pub spelled-append : (front : Option (List ℕ)) (xs ys : List PathRow) → spelled front (xs ++ ys) ≡ spelled front xs ++ spelled front ys
spelled-append front [] ys = refl
spelled-append front (x ∷ xs) ys = ap (λ rs. route_at (prefix_behind front x.0) x.1 ∷ rs) (spelled-append front xs ys)

pub spelled-below : (front : Option (List ℕ)) (s : List ℕ) (rows : List PathRow) → spelled front (below s rows) ≡ spelled (Some (front_with front s)) rows
spelled-below front s [] = refl
spelled-below front s (row ∷ rows) = λ i. route_at (sym (behind_front front s row.0) i) row.1 ∷ spelled-below front s rows i

pub split_spelled : (front : Option (List ℕ)) (xs ys : List PathRow) → AreSpelled front (xs ++ ys) → AreSpelled front xs × AreSpelled front ys
split_spelled front [] ys h = (tt, h)
split_spelled front (x ∷ xs) ys h = let more = split_spelled front xs ys h.1 in ((h.0, more.0), more.1)

pub below_spelled : (front : Option (List ℕ)) (s : List ℕ) (rows : List PathRow) → AreSpelled front (below s rows) → AreSpelled (Some (front_with front s)) rows
below_spelled front s [] h = tt
below_spelled front s (row ∷ rows) h = (subst IsPrefix (sym (behind_front front s row.0)) h.0, below_spelled front s rows h.1)

-- ---- one child after the other

-- what was put out, and what is left
pub record IsListing (front : Option (List ℕ)) (all : List Route) (done : List Route) (left : List PathRow) : Type 0 where
  pub told : done ++ spelled front left ≡ all
  pub valid : AreSpelled front left

pub started : (front : Option (List ℕ)) (rows own left : List PathRow) (old done : List Route) → rows ≡ own ++ left → AreSpelled front rows → done ≡ old ++ spelled front own
    → IsListing front (old ++ spelled front rows) done left
started front rows own left old done is valid e = record {
  told = ap (λ xs. xs ++ spelled front left) e ∙ append_assoc old (spelled front own) (spelled front left)
      ∙ ap (λ xs. old ++ xs) (sym (spelled-append front own left) ∙ sym (ap (spelled front) is));
  valid = (split_spelled front own left (subst (AreSpelled front) is valid)).1;
}

one_more : (front : Option (List ℕ)) (all done new : List Route) (s : List ℕ) (rows left : List PathRow) → IsListing front all done (below s rows ++ left)
    → (AreSpelled (Some (front_with front s)) rows → new ≡ done ++ spelled (Some (front_with front s)) rows) → IsListing front all new left
one_more front all done new s rows left h put =
    let valid = split_spelled front (below s rows) left h.valid in
    let e = put (below_spelled front s rows valid.0) in
    record {
      told = ap (λ xs. xs ++ spelled front left) (e ∙ ap (λ xs. done ++ xs) (sym (spelled-below front s rows)))
          ∙ append_assoc done (spelled front (below s rows)) (spelled front left)
          ∙ ap (λ xs. done ++ xs) (sym (spelled-append front (below s rows) left))
          ∙ h.told;
      valid = valid.1;
    }

abbrev left_at : ℕ → List Child → List PathRow
left_at i xs = behind (children_of (drop i xs))

-- the child at a place was put out
pub next : (front : Option (List ℕ)) (all done new : List Route) (xs : List Child) (i : ℕ) (x : Child) (told : List ℕ) (node : Branch) → IsListing front all done (left_at i xs) → i < length xs
    → x ≡ get_or xs i x → told ≡ front_with front x.segment.items → node ≡ x.node.value
    → (AreSpelled (Some told) (entries node.routes) → new ≡ done ++ spelled (Some told) (entries node.routes)) → IsListing front all new (left_at (i + 1) xs)
next front all done new xs i x told node h inside is told_is node_is put =
    let split : drop i xs ≡ x ∷ drop (i + 1) xs = drop_more xs i x inside ∙ ap (λ y. y ∷ drop (i + 1) xs) (sym is) in
    let h' : IsListing front all done (below x.segment.items (entries x.node.value.routes) ++ left_at (i + 1) xs) =
    subst (λ (ys : List Child). IsListing front all done (behind (children_of ys))) split h in
    let put' : AreSpelled (Some (front_with front x.segment.items)) (entries x.node.value.routes) → new ≡ done ++ spelled (Some (front_with front x.segment.items)) (entries x.node.value.routes) =
    subst (λ (t : List ℕ). AreSpelled (Some t) (entries x.node.value.routes) → new ≡ done ++ spelled (Some t) (entries x.node.value.routes)) told_is
    (subst (λ (b : Branch). AreSpelled (Some told) (entries b.routes) → new ≡ done ++ spelled (Some told) (entries b.routes)) node_is put) in
    one_more front all done new x.segment.items (entries x.node.value.routes) (left_at (i + 1) xs) h' put'
