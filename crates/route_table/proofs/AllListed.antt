-- The routes of a table, each once.
use Rattle.std.proofs.Common.{◌≡◌, ◌≤◌, ℕ, false, cond, ◌+◌, List, [], ◌∷◌, ◌++◌, T, length, map, arith, refl, sym, ap, subst, ◌∙◌, Less, Equal, inl, inr}
use Rattle.std.specs.Prelude.{None, is_some}
use Rattle.std.specs.List.{AllByRecursion, IsDistinct, join_with_byte}
use Rattle.std.specs.Ordering.{nat_cmp, eq_by_cmp}
use Rattle.std.specs.Cmp.{tied_itself}
use Rattle.std.specs.Cmp.Lexicographic.{slice_cmp}
use Rattle.std.specs.Str.{bytes_eq}
use Rattle.std.proofs.lemmas.Cmp.{nat_list_cmp_total}
use Rattle.std.proofs.lemmas.Map.Text.{is_eq-slice_cmp}
use Rattle.std.proofs.lemmas.Slice.Eq.{bytes_eq-Decides}
use Rattle.std.specs.FinMap as finite
use Rattle.std.specs.FinMap.{find, entries, from_entries, entries_sorted, get-from_entries, len-insert, len-empty}
use Rattle.std.specs.FinMap.Entries.{below_all, is_sorted}
use Rattle.ilp_addr.specs.Address.{prefix_segments}
use Rattle.route_table.specs.Paths.{Path, PathMap}
use Rattle.route_table.specs.Nodes.{PathRow}
use Rattle.route_table.specs.Kept.{joined, routes_of, IsPrefixPath, ArePrefixes, RoutesInvariant}
use Rattle.route_table.specs.Listing.{spelled, AreSpelled, entry_of}
use Rattle.route_table.specs.Routes.{RouteMap, max_routes}
use Rattle.route_table.specs.declared.route.Route.{Route}
use Rattle.route_table.specs.declared.hop.Hop.{Hop}
use Rattle.route_table.proofs.Listed.{parts, is_less}
use Rattle.route_table.proofs.PathLemmas.{cases, path_cmp, paths_total}

abbrev join : Path → List ℕ
join = join_with_byte 46

-- what was put behind nothing
pub alone : (old list rest : List Route) → list ≡ old ++ rest → old ≡ [] → list ≡ rest
alone old list rest e none = e ∙ ap (λ rs. rs ++ rest) none

pub are_spelled : (rows : List PathRow) → ArePrefixes rows → AreSpelled None rows
are_spelled [] valid = tt
are_spelled (row ∷ rows) valid = (valid.0.1, are_spelled rows valid.1)

entries_spelled : (rows : List PathRow) → map entry_of (spelled None rows) ≡ joined rows
entries_spelled [] = refl
entries_spelled (row ∷ rows) = ap (λ es. (join row.0, row.1) ∷ es) (entries_spelled rows)

pub all_listed : (m : PathMap) (routes : RouteMap) (list : List Route) → routes_of m ≡ routes → list ≡ spelled None (entries m) → from_entries (map entry_of list) ≡ routes
all_listed m routes list view is = ap (λ rs. from_entries (map entry_of rs)) is ∙ ap from_entries (entries_spelled (entries m)) ∙ view

-- ---- no prefix comes twice

differ : (p q : Path) → IsPrefixPath p → IsPrefixPath q → path_cmp p q ≡ Less → bytes_eq (join p) (join q) ≡ false
differ p q hp hq less = elim (cases (bytes_eq (join p) (join q))) [
  | inl e ↦
      let same : p ≡ q = sym hp.0 ∙ ap prefix_segments ((bytes_eq-Decides (join p) (join q)).0 e) ∙ hq.0 in
      let tie : path_cmp p q ≡ Equal = ap (path_cmp p) (sym same) ∙ tied_itself paths_total p in
      absurd cc
  | inr e ↦ e
]

all_differ : (p : Path) (rows : List PathRow) → IsPrefixPath p → ArePrefixes rows → T (below_all path_cmp p rows) → AllByRecursion (λ y. bytes_eq (join p) y ≡ false) (map (λ r. r.prefix) (spelled None rows))
all_differ p [] hp valid below = tt
all_differ p (row ∷ rows) hp valid below =
    let two = parts _ _ below in
    (differ p row.0 hp valid.0 (is_less _ two.0), all_differ p rows hp valid.1 two.1)

distinct : (rows : List PathRow) → ArePrefixes rows → T (is_sorted path_cmp rows) → IsDistinct bytes_eq (map (λ r. r.prefix) (spelled None rows))
unfolding IsDistinct
distinct [] valid sorted = tt
distinct (row ∷ rows) valid sorted =
    let two = parts _ _ sorted in
    (all_differ row.0 rows valid.0 valid.1 two.0, distinct rows valid.1 two.1)

pub once_listed : (m : PathMap) (list : List Route) → ArePrefixes (entries m) → list ≡ spelled None (entries m) → IsDistinct bytes_eq (map (λ r. r.prefix) list)
once_listed m list valid is =
    subst (λ (rs : List Route). IsDistinct bytes_eq (map (λ r. r.prefix) rs)) (sym is) (distinct (entries m) valid (entries_sorted m))

-- ---- how many there are

not_found : (b : List ℕ) (rows : List PathRow) → AllByRecursion (λ y. bytes_eq b y ≡ false) (map (λ r. r.prefix) (spelled None rows)) → find (slice_cmp nat_cmp) b (joined rows) ≡ None
not_found b [] away = refl
not_found b (row ∷ rows) away =
    let other : eq_by_cmp (slice_cmp nat_cmp) b (join row.0) ≡ false = is_eq-slice_cmp b (join row.0) ∙ away.0 in
    rw other (not_found b rows away.1)

counted : (rows : List PathRow) → IsDistinct bytes_eq (map (λ r. r.prefix) (spelled None rows)) → finite.len (from_entries {R = slice_cmp nat_cmp} (joined rows)) ≡ length rows
unfolding IsDistinct
counted [] apart = len-empty (slice_cmp nat_cmp) Hop
counted (row ∷ rows) apart =
    let new : finite.contains_key (from_entries {R = slice_cmp nat_cmp} (joined rows)) (join row.0) ≡ false =
    ap is_some (get-from_entries nat_list_cmp_total (joined rows) (join row.0) ∙ not_found (join row.0) rows apart.0) in
    let more = counted rows apart.1 in
    len-insert nat_list_cmp_total (from_entries (joined rows)) (join row.0) row.1
    ∙ ap (λ b. cond b (finite.len (from_entries {R = slice_cmp nat_cmp} (joined rows))) (finite.len (from_entries {R = slice_cmp nat_cmp} (joined rows)) + 1)) new
    ∙ omega (arith, more)

length-spelled : (rows : List PathRow) → length (spelled None rows) ≡ length rows
length-spelled [] = refl
length-spelled (row ∷ rows) = omega (arith, length-spelled rows)

pub few_listed : (m : PathMap) (count : ℕ) (list : List Route) → RoutesInvariant m count → list ≡ spelled None (entries m) → length list ≤ max_routes
few_listed m count list kept is =
    let long : length list ≡ length (entries m) = ap length is ∙ length-spelled (entries m) in
    let all = counted (entries m) (distinct (entries m) kept.prefixes (entries_sorted m)) in
    let count_is = kept.counted in
    let few = kept.few in
    omega (arith, long, all, count_is, few)
