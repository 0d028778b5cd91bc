-- The hop of the longest beginning of a path is that of the best route.
use Rattle.std.proofs.Common.{◌≡◌, ◌≤◌, ℕ, List, [], ◌∷◌, length, arith, refl, sym, ap, subst, ◌∙◌}
use Rattle.std.specs.Prelude.{Option, Some, None, IfSome, IfNone}
use Rattle.std.specs.List.{join_with_byte}
use Rattle.std.specs.Option.{option_or}
use Rattle.std.specs.FinMap as map
use Rattle.std.specs.FinMap.{entries}
use Rattle.ilp_addr.specs.Address.{segments, prefix_segments, Begins}
use Rattle.ilp_addr.specs.Laws.{PrefixLaws}
use Rattle.route_table.specs.Paths.{Path, PathMap, longest_at}
use Rattle.route_table.specs.Routes.{RouteMap, IsBestRoute, HasNoRoute, best_route}
use Rattle.route_table.specs.Kept.{routes_of, ArePrefixes}
use Rattle.route_table.proofs.PathLemmas.{get_at}
use Rattle.route_table.proofs.Rekeyed.{get_routes_of, valid_at}
use Rattle.route_table.proofs.BestRoute.{best_route-Some, best_route-None}
use Rattle.route_table.specs.declared.hop.Hop.{Hop}

-- the longest beginning that has a hop
abbrev IsLongest : (Path → Option Hop) → Path → Option Hop → Type 0
IsLongest f path None = (p : Path) → Begins p path → f p ≡ None
IsLongest f path (Some n) = (p : Path) × Begins p path × (f p ≡ Some n) × ((q : Path) (k : Hop) → f q ≡ Some k → Begins q path → length q ≤ length p)

tail_begins : (t s : List ℕ) (p path : Path) → Begins (t ∷ p) (s ∷ path) → (t ≡ s) × Begins p path
tail_begins t s p path b = (sym (ap first b.1), (b.0, ap rest b.1))
  where
    first : Path → List ℕ
    first [] = []
    first (x ∷ xs) = x

    rest : Path → Path
    rest [] = []
    rest (x ∷ xs) = xs

longest_step : (f : Path → Option Hop) (s : List ℕ) (path : Path) (o : Option Hop) → IsLongest (λ q. f (s ∷ q)) path o → (h : Option Hop) → h ≡ f [] → IsLongest f (s ∷ path) (option_or o h)
longest_step f s path (Some n) best h e = (s ∷ best.0, (best.1.0, ap (λ (x : Path). s ∷ x) best.1.1), best.2, at_each)
  where
    at_each : (q : Path) (k : Hop) → f q ≡ Some k → Begins q (s ∷ path) → length q ≤ length (s ∷ best.0)
    at_each [] k g b = omega arith
    at_each (t ∷ q) k g b =
        let tail = tail_begins t s q path b in
        let le = best.3 q k (ap (λ x. f (x ∷ q)) (sym tail.0) ∙ g) tail.1 in
        omega arith
longest_step f s path None none (Some n) e = ([], (s ∷ path, refl), sym e, at_each)
  where
    at_each : (q : Path) (k : Hop) → f q ≡ Some k → Begins q (s ∷ path) → length q ≤ 0
    at_each [] k g b = omega arith
    at_each (t ∷ q) k g b =
        let tail = tail_begins t s q path b in
        let gone = none q tail.1 in
        let has : f (s ∷ q) ≡ Some k = ap (λ x. f (x ∷ q)) (sym tail.0) ∙ g in
        absurd cc
longest_step f s path None none None e = at_each
  where
    at_each : (q : Path) → Begins q (s ∷ path) → f q ≡ None
    at_each [] b = sym e
    at_each (t ∷ q) b =
        let tail = tail_begins t s q path b in
        ap (λ x. f (x ∷ q)) tail.0 ∙ none q tail.1

longest_is : (f : Path → Option Hop) (path : Path) → IsLongest f path (longest_at f path)
longest_is f [] = at_end (f []) refl
  where
    only : (q : Path) → Begins q [] → q ≡ []
    only [] b = refl
    only (t ∷ q) b = absurd cc

    at_end : (o : Option Hop) → o ≡ f [] → IsLongest f [] o
    at_end None e = λ q b. ap f (only q b) ∙ sym e
    at_end (Some n) e = ([], ([], refl), sym e, λ q k g b. let same : length q ≡ 0 = ap length (only q b) in omega arith)
longest_is f (s ∷ path) = longest_step f s path _ (longest_is (λ q. f (s ∷ q)) path) (f []) refl

best_of : PrefixLaws → (m : PathMap) (d : List ℕ) → ArePrefixes (entries m) → (o : Option Hop) → IsLongest (map.get m) (segments d) o → best_route (routes_of m) d ≡ o
best_of laws m d valid None none =
    (best_route-None laws (routes_of m) d).1
    (λ p n e b. let gone = none (prefix_segments p) b in let has = sym (get_routes_of m p valid) ∙ e in absurd cc)
best_of laws m d valid (Some n) best =
    (best_route-Some laws (routes_of m) d n).1 (
      join_with_byte 46 best.0,
      record {
        kept = get_routes_of m (join_with_byte 46 best.0) valid ∙ ap (map.get m) path_is ∙ best.2;
        matching = subst (λ p. Begins p (segments d)) (sym path_is) best.1;
        longest = λ other k e b.
            let le = best.3 (prefix_segments other) k (sym (get_routes_of m other valid) ∙ e) b in
            let same : length (prefix_segments (join_with_byte 46 best.0)) ≡ length best.0 = ap length path_is in
            omega arith;
      },
    )
  where
    path_is : prefix_segments (join_with_byte 46 best.0) ≡ best.0
    path_is = valid_at best.0 (entries m) valid n (sym (get_at m best.0) ∙ best.2)

pub best_is : PrefixLaws → (m : PathMap) (d : List ℕ) → ArePrefixes (entries m) → best_route (routes_of m) d ≡ longest_at (map.get m) (segments d)
best_is laws m d valid = best_of laws m d valid _ (longest_is (map.get m) (segments d))

pub found_best : PrefixLaws → (routes : RouteMap) (d : List ℕ) (o : Option Hop) → o ≡ best_route routes d → IfSome o (λ hop. (prefix : List ℕ) × IsBestRoute routes d prefix hop)
found_best laws routes d None e = tt
found_best laws routes d (Some n) e = (best_route-Some laws routes d n).0 (sym e)

pub none_best : PrefixLaws → (routes : RouteMap) (d : List ℕ) (o : Option Hop) → o ≡ best_route routes d → IfNone o (HasNoRoute routes d)
none_best laws routes d None e = (best_route-None laws routes d).0 (sym e)
none_best laws routes d (Some n) e = tt
