-- Maps of paths: what they have at a path, before and after a change at one.
use Rattle.std.proofs.Common.{◌≡◌, ℕ, Bool, true, false, cond, List, [], ◌∷◌, Ordering, refl, sym, ap, ◌∙◌, inl, inr, ◌⊎◌}
use Rattle.std.specs.Prelude.{Option, Some, None}
use Rattle.std.specs.Option.{option_or}
use Rattle.std.specs.Ordering.{nat_cmp, eq_by_cmp}
use Rattle.std.specs.Cmp.{IsTotalOrder}
use Rattle.std.specs.Cmp.Lexicographic.{slice_cmp, pointwise, pointwise_decides, lists_ties}
use Rattle.std.proofs.lemmas.Cmp.{nat_list_cmp_total, lists_total}
use Rattle.std.proofs.lemmas.Slice.Eq.{bytes_eq-Decides}
use Rattle.std.proofs.lemmas.Map.Text.{is_eq-slice_cmp}
use Rattle.std.specs.FinMap as map
use Rattle.std.specs.FinMap.{find, entries, get-empty, get-entries, get-insert, get-remove, same_map, slice_cmp-IsAntisymmetric, nat_cmp-IsAntisymmetric}
use Rattle.route_table.specs.Paths.{Path, PathMap, is_same, longest_at}
use Rattle.route_table.specs.Nodes.{PathRow}
use Rattle.route_table.specs.declared.hop.Hop.{Hop}

pub cases : (b : Bool) → (b ≡ true) ⊎ (b ≡ false)
cases true = inl refl
cases false = inr refl

-- ---- segments

pub same : (s t : List ℕ) → is_same s t ≡ true → s ≡ t
same s t e = (bytes_eq-Decides s t).0 (sym (is_eq-slice_cmp s t) ∙ e)

pub same_test : (s t : List ℕ) → s ≡ t → is_same s t ≡ true
same_test s t e = is_eq-slice_cmp s t ∙ (bytes_eq-Decides s t).1 e

pub turned : (s t : List ℕ) → is_same s t ≡ false → is_same t s ≡ false
turned s t other = elim (cases (is_same t s)) [
  | inl e ↦ let here : is_same s t ≡ true = same_test s t (sym (same t s e)) in absurd cc
  | inr e ↦ e
]

-- ---- paths

abbrev pub path_cmp : Path → Path → Ordering
path_cmp = slice_cmp (slice_cmp nat_cmp)

pub paths_total : IsTotalOrder path_cmp
paths_total = lists_total nat_list_cmp_total

-- the same segments
abbrev pub tied : Path → Path → Bool
tied = pointwise is_same

pub tied_decides : (p q : Path) → (tied p q ≡ true → p ≡ q) × (p ≡ q → tied p q ≡ true)
tied_decides = pointwise_decides (λ s t. (same s t, same_test s t))

pub ties : (p q : Path) → tied p q ≡ eq_by_cmp path_cmp p q
ties = lists_ties (slice_cmp nat_cmp) (λ s t. refl)

-- ---- rows

-- the peer of the first row of a path
abbrev pub at : Path → List PathRow → Option Hop
at q [] = None
at q (row ∷ rows) = cond (tied q row.0) (Some row.1) (at q rows)

pub find_at : (q : Path) (rows : List PathRow) → find path_cmp q rows ≡ at q rows
find_at q [] = refl
find_at q (row ∷ rows) = λ i. cond (sym (ties q row.0) i) (Some row.1) (find_at q rows i)

-- ---- maps

abbrev pub get : PathMap → Path → Option Hop
get = map.get

pub get_at : (m : PathMap) (q : Path) → get m q ≡ at q (entries m)
get_at m q = get-entries m q ∙ find_at q (entries m)

pub get_none : (m : PathMap) → m ≡ map.empty → (q : Path) → get m q ≡ None
get_none m e q = ap (λ x. get x q) e ∙ get-empty path_cmp q

pub same_paths : (m n : PathMap) → ((q : Path) → get m q ≡ get n q) → m ≡ n
same_paths = same_map paths_total (slice_cmp-IsAntisymmetric (slice_cmp-IsAntisymmetric nat_cmp-IsAntisymmetric))

pub get_inserted : (m : PathMap) (p : Path) (n : Hop) (q : Path) → get (map.insert m p n) q ≡ cond (tied q p) (Some n) (get m q)
get_inserted m p n q = get-insert paths_total m p n q ∙ ap (λ b. cond b (Some n) (get m q)) (sym (ties q p))

pub get_removed : (m : PathMap) (p q : Path) → get (map.remove m p) q ≡ cond (tied q p) None (get m q)
get_removed m p q = get-remove paths_total m p q ∙ ap (λ b. cond b None (get m q)) (sym (ties q p))

-- a map with one path more is not empty
pub inserted_some : (m : PathMap) (p : Path) (n : Hop) → ¬ (map.insert m p n ≡ map.empty)
inserted_some m p n e =
    let has : get (map.insert m p n) p ≡ Some n = get_inserted m p n p ∙ ap (λ b. cond b (Some n) (get m p)) ((tied_decides p p).1 refl) in
    let none : get (map.insert m p n) p ≡ None = get_none _ e p in
    absurd cc

-- ---- the longest beginning that has a peer

pub longest_cong : (f g : Path → Option Hop) → ((q : Path) → f q ≡ g q) → (path : Path) → longest_at f path ≡ longest_at g path
longest_cong f g e [] = e []
longest_cong f g e (s ∷ path) = λ i. option_or (longest_cong (λ q. f (s ∷ q)) (λ q. g (s ∷ q)) (λ q. e (s ∷ q)) path i) (e [] i)

pub longest_none : (path : Path) → longest_at (λ _. None) path ≡ None
longest_none [] = refl
longest_none (s ∷ path) = ap (λ o. option_or o None) (longest_none path)

pub or_or : (a b c : Option Hop) → option_or (option_or a b) c ≡ option_or a (option_or b c)
or_or None b c = refl
or_or (Some n) b c = refl
