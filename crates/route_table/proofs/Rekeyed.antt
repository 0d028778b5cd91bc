-- Routes by prefix, kept by path.
use Rattle.std.proofs.Common.{◌≡◌, ◌<◌, ◌≤◌, ℕ, zero, suc, Bool, true, false, cond, ◌||◌, ◌+◌, ◌-◌, List, [], ◌∷◌, length, arith, refl, sym, ap, subst, ◌∙◌, inl, inr, Less, Equal, Greater}
use Rattle.std.specs.Prelude.{Option, Some, None, is_some, Result, Ok, Err, is_ok, OnOk, map as list_map}
use Rattle.std.specs.List.{join_with_byte, list_any}
use Rattle.std.specs.Ordering.{nat_cmp, eq_by_cmp}
use Rattle.std.specs.Cmp.Lexicographic.{slice_cmp}
use Rattle.std.proofs.lemmas.Bool.{or_right}
use Rattle.std.proofs.lemmas.Cmp.{nat_list_cmp_total}
use Rattle.std.specs.FinMap as map
use Rattle.std.specs.FinMap.{find, entries, from_entries, contains_key-keys, len-entries, len-empty, get-empty, get-from_entries, get-insert, get-remove}
use Rattle.std.specs.FinMap.{len-insert, len-remove, empty_of_len, entries-insert, same_map, slice_cmp-IsAntisymmetric, nat_cmp-IsAntisymmetric}
use Rattle.std.specs.FinMap.Entries.{put, by_order}
use Rattle.ilp_addr.specs.Address.{IsPrefix, prefix_segments}
use Rattle.route_table.specs.Paths.{Path, PathMap, is_same}
use Rattle.route_table.specs.Nodes.{PathRow}
use Rattle.route_table.specs.Routes.{RouteMap}
use Rattle.route_table.specs.Kept.{joined, routes_of, IsPrefixPath, ArePrefixes, RoutesInvariant}
use Rattle.route_table.proofs.Matching.{join_with_byte-prefix_segments}
use Rattle.route_table.proofs.PathLemmas.{cases, same, same_test, ties, tied, tied_decides, at, get_at, path_cmp, paths_total, get_inserted, get_removed}
use Rattle.route_table.specs.declared.hop.Hop.{Hop}

abbrev join : Path → List ℕ
join = join_with_byte 46

abbrev IsPath : Path → Type 0
IsPath p = prefix_segments (join p) ≡ p

of_prefix : (b : List ℕ) → IsPath (prefix_segments b)
of_prefix b = ap prefix_segments (join_with_byte-prefix_segments b)

path_of_prefix : (b : List ℕ) → IsPrefix b → IsPrefixPath (prefix_segments b)
path_of_prefix b h = (of_prefix b, subst IsPrefix (sym (join_with_byte-prefix_segments b)) h)

same_bool : (a b : Bool) → (a ≡ true → b ≡ true) → (b ≡ true → a ≡ true) → a ≡ b
same_bool true b f g = sym (f refl)
same_bool false true f g = g refl
same_bool false false f g = refl

tied_joined : (b : List ℕ) (p : Path) → IsPath p → is_same b (join p) ≡ tied (prefix_segments b) p
tied_joined b p valid =
    same_bool _ _
    (λ e. (tied_decides (prefix_segments b) p).1 (ap prefix_segments (same b (join p) e) ∙ valid))
    (λ e. same_test b (join p) (sym (join_with_byte-prefix_segments b) ∙ ap join ((tied_decides (prefix_segments b) p).0 e)))

tied_prefixes : (q b : List ℕ) → tied (prefix_segments q) (prefix_segments b) ≡ eq_by_cmp (slice_cmp nat_cmp) q b
tied_prefixes q b = sym (tied_joined q (prefix_segments b) (of_prefix b)) ∙ ap (is_same q) (join_with_byte-prefix_segments b)

find_joined : (b : List ℕ) (rows : List PathRow) → ArePrefixes rows → find (slice_cmp nat_cmp) b (joined rows) ≡ at (prefix_segments b) rows
find_joined b [] valid = refl
find_joined b (row ∷ rows) valid =
    let test : eq_by_cmp (slice_cmp nat_cmp) b (join row.0) ≡ tied (prefix_segments b) row.0 = tied_joined b row.0 valid.0.0 in
    λ i. cond (test i) (Some row.1) (find_joined b rows valid.1 i)

pub get_routes_of : (m : PathMap) (b : List ℕ) → ArePrefixes (entries m) → map.get (routes_of m) b ≡ map.get m (prefix_segments b)
get_routes_of m b valid = get-from_entries nat_list_cmp_total (joined (entries m)) b ∙ find_joined b (entries m) valid ∙ sym (get_at m (prefix_segments b))

path_at : (p : Path) (rows : List PathRow) → ArePrefixes rows → (n : Hop) → at p rows ≡ Some n → IsPrefixPath p
path_at p [] valid n e = absurd cc
path_at p (row ∷ rows) valid n e =
    elim (cases (tied p row.0)) [
      | inl same ↦ subst IsPrefixPath (sym ((tied_decides p row.0).0 same)) valid.0
      | inr other ↦ path_at p rows valid.1 n (rw other at e)
    ]

pub valid_at : (p : Path) (rows : List PathRow) → ArePrefixes rows → (n : Hop) → at p rows ≡ Some n → IsPath p
valid_at p rows valid n e = (path_at p rows valid n e).0

-- ---- a route more, and one less

put_valid : (p : Path) (n : Hop) (rows : List PathRow) → IsPrefixPath p → ArePrefixes rows → ArePrefixes (put path_cmp p n rows)
put_valid p n [] is valid = (is, valid)
put_valid p n (row ∷ rows) is valid =
    elim (path_cmp p row.0) as (λ o. ArePrefixes (by_order o ((p, n) ∷ row ∷ rows) ((row.0, n) ∷ rows) (row ∷ put path_cmp p n rows))) [
      | Less ↦ (is, valid)
      | Equal ↦ (valid.0, valid.1)
      | Greater ↦ (valid.0, put_valid p n rows is valid.1)
    ]

pub insert_valid : (m : PathMap) (b : List ℕ) (n : Hop) → IsPrefix b → ArePrefixes (entries m) → ArePrefixes (entries (map.insert m (prefix_segments b) n))
insert_valid m b n spelled valid = subst ArePrefixes (sym (entries-insert paths_total m (prefix_segments b) n)) (put_valid (prefix_segments b) n (entries m) (path_of_prefix b spelled) valid)

all_valid : (rows : List PathRow) → ((p : Path) → list_any (eq_by_cmp path_cmp p) (list_map (λ (e : PathRow). e.0) rows) ≡ true → IsPrefixPath p) → ArePrefixes rows
all_valid [] h = tt
all_valid (row ∷ rows) h = (
  h row.0 (ap (λ b. b || list_any (eq_by_cmp path_cmp row.0) (list_map (λ (e : PathRow). e.0) rows)) (sym (ties row.0 row.0) ∙ (tied_decides row.0 row.0).1 refl)),
  all_valid rows (λ p t. h p (or_right (eq_by_cmp path_cmp p row.0) _ t)),
)

some_path : (m : PathMap) (p : Path) → ArePrefixes (entries m) → (o : Option Hop) → o ≡ map.get m p → is_some o ≡ true → IsPrefixPath p
some_path m p valid None e t = absurd cc
some_path m p valid (Some n) e t = path_at p (entries m) valid n (sym (get_at m p) ∙ sym e)

still : (b : Bool) (o : Option Hop) → is_some (cond b None o) ≡ true → is_some o ≡ true
still true o t = absurd cc
still false o t = t

pub remove_valid : (m : PathMap) (q : Path) → ArePrefixes (entries m) → ArePrefixes (entries (map.remove m q))
remove_valid m q valid =
    all_valid (entries (map.remove m q))
    (λ p t. some_path m p valid _ refl (still (tied p q) (map.get m p) (ap is_some (sym (get_removed m q p)) ∙ contains_key-keys (map.remove m q) p ∙ t)))

same_routes : (m n : RouteMap) → ((q : List ℕ) → map.get m q ≡ map.get n q) → m ≡ n
same_routes = same_map nat_list_cmp_total (slice_cmp-IsAntisymmetric nat_cmp-IsAntisymmetric)

pub routes_insert : (m : PathMap) (b : List ℕ) (n : Hop) → IsPrefix b → ArePrefixes (entries m) → routes_of (map.insert m (prefix_segments b) n) ≡ map.insert (routes_of m) b n
routes_insert m b n spelled valid =
    same_routes _ _ (λ q. get_routes_of (map.insert m (prefix_segments b) n) q (insert_valid m b n spelled valid)
    ∙ get_inserted m (prefix_segments b) n (prefix_segments q)
    ∙ (λ i. cond (tied_prefixes q b i) (Some n) (sym (get_routes_of m q valid) i))
    ∙ sym (get-insert nat_list_cmp_total (routes_of m) b n q))

pub routes_remove : (m : PathMap) (b : List ℕ) → ArePrefixes (entries m) → routes_of (map.remove m (prefix_segments b)) ≡ map.remove (routes_of m) b
routes_remove m b valid =
    same_routes _ _ (λ q. get_routes_of (map.remove m (prefix_segments b)) q (remove_valid m (prefix_segments b) valid)
    ∙ get_removed m (prefix_segments b) (prefix_segments q)
    ∙ (λ i. cond (tied_prefixes q b i) None (sym (get_routes_of m q valid) i))
    ∙ sym (get-remove nat_list_cmp_total (routes_of m) b q))

-- ---- the routes as the code keeps them

nil : {A : Type 0} (es : List A) → length es ≡ 0 → es ≡ []
nil [] e = refl
nil (x ∷ es) e = absurd (omega arith)

no_entries : (m : PathMap) → m ≡ map.empty → entries m ≡ []
no_entries m e = nil (entries m) (sym (len-entries m) ∙ ap map.len e ∙ len-empty path_cmp Hop)

pub empty_routes : (m : PathMap) → m ≡ map.empty → routes_of m ≡ map.empty
empty_routes m e = ap (λ es. from_entries (joined es)) (no_entries m e)

pub empty_kept : (m : PathMap) → m ≡ map.empty → RoutesInvariant m 0
empty_kept m e = record {
  prefixes = subst ArePrefixes (sym (no_entries m e)) tt;
  counted = sym (ap map.len (empty_routes m e) ∙ len-empty (slice_cmp nat_cmp) Hop);
  few = omega arith;
}

pub hop_of_prefix : (m : PathMap) (routes : RouteMap) (b : List ℕ) (path : Path) (o : Option Hop) → routes_of m ≡ routes → ArePrefixes (entries m) → path ≡ prefix_segments b → o ≡ map.get m path
    → o ≡ map.get routes b
hop_of_prefix m routes b path o view valid path_is e = e ∙ ap (map.get m) path_is ∙ sym (get_routes_of m b valid) ∙ ap (λ r. map.get r b) view

-- ---- one route more

pub routes_more : (m new : PathMap) (routes : RouteMap) (b : List ℕ) (path : Path) (n : Hop) → IsPrefix b → routes_of m ≡ routes → ArePrefixes (entries m) → path ≡ prefix_segments b → new ≡ map.insert m path n
    → routes_of new ≡ map.insert routes b n
routes_more m new routes b path n spelled view valid path_is is =
    ap routes_of (is ∙ ap (λ p. map.insert m p n) path_is) ∙ routes_insert m b n spelled valid ∙ ap (λ r. map.insert r b n) view

pub kept_more : (m new : PathMap) (routes : RouteMap) (b : List ℕ) (path : Path) (n : Hop) (count : ℕ) → IsPrefix b → routes_of m ≡ routes → RoutesInvariant m count → path ≡ prefix_segments b → new ≡ map.insert m path n
    → map.contains_key routes b ≡ false → count ≤ 4095 → RoutesInvariant new (count + 1)
kept_more m new routes b path n count spelled view kept path_is is absent few =
    let more : map.len (map.insert routes b n) ≡ map.len routes + 1 = len-insert nat_list_cmp_total routes b n ∙ ap (λ t. cond t (map.len routes) (map.len routes + 1)) absent in
    record {
      prefixes = subst (λ x. ArePrefixes (entries x)) (sym (is ∙ ap (λ p. map.insert m p n) path_is)) (insert_valid m b n spelled kept.prefixes);
      counted = ap (λ k. k + 1) (kept.counted ∙ ap map.len view) ∙ sym more ∙ ap map.len (sym (routes_more m new routes b path n spelled view kept.prefixes path_is is));
      few = omega arith;
    }

-- ---- one route less

pub some_kept : (m : PathMap) (routes : RouteMap) (b : List ℕ) (count : ℕ) → routes_of m ≡ routes → RoutesInvariant m count → map.contains_key routes b ≡ true → 0 < count
some_kept m routes b count view kept present = positive count refl
  where
    positive : (k : ℕ) → k ≡ count → 0 < k
    positive zero e =
        let empty : routes ≡ map.empty = empty_of_len routes (sym (e ∙ kept.counted ∙ ap map.len view)) in
        let none : map.contains_key routes b ≡ false = ap (λ r. map.contains_key r b) empty ∙ ap is_some (get-empty (slice_cmp nat_cmp) b) in
        absurd cc
    positive (suc k) e = omega arith

pub routes_less : (m new : PathMap) (routes : RouteMap) (b : List ℕ) (path : Path) → routes_of m ≡ routes → ArePrefixes (entries m) → path ≡ prefix_segments b → new ≡ map.remove m path
    → routes_of new ≡ map.remove routes b
routes_less m new routes b path view valid path_is is = ap routes_of (is ∙ ap (map.remove m) path_is) ∙ routes_remove m b valid ∙ ap (λ r. map.remove r b) view

pub kept_less : (m new : PathMap) (routes : RouteMap) (b : List ℕ) (path : Path) (count : ℕ) → routes_of m ≡ routes → RoutesInvariant m count → path ≡ prefix_segments b → new ≡ map.remove m path
    → map.contains_key routes b ≡ true → RoutesInvariant new (count - 1)
kept_less m new routes b path count view kept path_is is present =
    let less : map.len (map.remove routes b) ≡ map.len routes - 1 = len-remove nat_list_cmp_total routes b ∙ ap (λ t. cond t (map.len routes - 1) (map.len routes)) present in
    let few = kept.few in
    record {
      prefixes = subst (λ x. ArePrefixes (entries x)) (sym (is ∙ ap (map.remove m) path_is)) (remove_valid m (prefix_segments b) kept.prefixes);
      counted = ap (λ k. k - 1) (kept.counted ∙ ap map.len view) ∙ sym less ∙ ap map.len (sym (routes_less m new routes b path view kept.prefixes path_is is));
      few = omega (arith, few);
    }

pub ok_gives : {A E : Type 0} (r : Result A E) (P : Type 0) → is_ok r ≡ true → OnOk r P → P
ok_gives (Ok x) P t h = h
ok_gives (Err e) P t h = absurd cc
