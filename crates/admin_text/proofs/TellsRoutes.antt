-- What readers find in the tables of routes and of rates.
use Rattle.std.proofs.Common.{◌≡◌, ◌<◌, ◌≤◌, ◌+◌, ℕ, Bool, true, false, suc, eqb, List, [], ◌∷◌, ◌++◌, length, map, Option, Some, None, refl, sym, ap, subst, ◌∙◌, arith, inl, inr, Equal}
use Rattle.std.specs.Prelude.{codes, nat_lt, nat_le, is_some, IsSome, option_map, ◌≢◌}
use Rattle.std.specs.FinMap as finite
use Rattle.std.specs.FinMap.{find as found_in, empty, entries, from_entries, get-empty, get-entries, get-insert, get-from_entries, len-insert, len-empty, same_map, slice_cmp-IsAntisymmetric, nat_cmp-IsAntisymmetric}
use Rattle.std.specs.Cmp.Lexicographic.{slice_cmp}
use Rattle.std.specs.List.{All, AllByRecursion, IsDistinct, find, position_or_len, slice_get, slice_index_or}
use Rattle.std.specs.Option.{option_map_or, option_or}
use Rattle.std.specs.Ordering.{nat_cmp, eq_by_cmp}
use Rattle.std.specs.Result.{result_ok}
use Rattle.std.specs.Str.{bytes_eq}
use Rattle.std.proofs.lemmas.Bool.{cases_Bool, eqb-true, and_parts}
use Rattle.std.proofs.lemmas.Bool.Decides.{nat_tests}
use Rattle.std.specs.Cmp.{tied_itself, nat_cmp_total}
use Rattle.std.proofs.lemmas.Cmp.{nat_list_cmp_total}
use Rattle.std.proofs.lemmas.List.{append-nil, append_assoc, length_push}
use Rattle.std.proofs.lemmas.List.Elements.{recursion_from_All}
use Rattle.std.proofs.lemmas.List.Folds.{list_any-append, find_at}
use Rattle.std.proofs.lemmas.Map.Text.{is_eq-slice_cmp}
use Rattle.std.proofs.lemmas.Option.{slice_get_within, get_or_from_slice_get}
use Rattle.std.proofs.lemmas.Slice.Eq.{bytes_eq-Decides}
use Rattle.toml.specs.Data.{Data, string, Items, no_items, item, Members, get_member, as_table}
use Rattle.common_types.specs.Names.{is_name}
use Rattle.common_types.specs.OptionChain.{◌>>=◌}
use Rattle.ilp_addr.specs.Laws.{PrefixWordLaws}
use Rattle.money_core.specs.Fraction.{Fraction, IsFraction, max_term}
use Rattle.money_core.specs.Price.{rate_at}
use Rattle.route_table.specs.Listing.{entry_of}
use Rattle.route_table.specs.Routes.{RouteMap, max_routes}
use Rattle.route_table.specs.declared.hop.Hop.{Hop}
use Rattle.route_table.specs.declared.route.Route.{Route}
use Rattle.money_core.specs.Account.{max_money}
use Rattle.tenant_core.specs.Limits.{max_rates}
use Rattle.tenant_core.specs.Network.{Net, IsNetwork, peer_numbered, peer_named, route_refusal, has_pair, is_for_pair, rate_refusal}
use Rattle.tenant_core.specs.Places.{pair, pair_cmp, ArePairsApart}
use Rattle.tenant_core.specs.declared.peer.Peer.{Peer}
use Rattle.tenant_core.specs.declared.terms.RateTerms.{RateTerms}
use Rattle.admin_text.specs.Anew.{peers_from, number_anew, hop_anew, routes_anew, rate_anew}
use Rattle.admin_text.specs.Under.{under}
use Rattle.admin_text.specs.Keys.{number_or}
use Rattle.admin_text.specs.Made.{route_members, rate_members}
use Rattle.admin_text.specs.Networks.{peer_under, fee_of, with_route_of, with_routes_of, rate_of, with_rate_of, with_rates_of}
use Rattle.admin_text.specs.Prefixes.{prefix_word}
use Rattle.admin_text.specs.Told.{AllTold, TellsRoute, TellsRate}
use Rattle.admin_text.specs.declared.version.Version.TheVariants.{Two}
use Rattle.admin_text.proofs.Spelled.{prefix_again}
use Rattle.admin_text.proofs.TellsPeers.{text_there, word_there, most, same_text}

-- ---- the number of a peer

abbrev has_number : ℕ → Peer → Bool
has_number n p = eqb p.number n

abbrev has_name : List ℕ → Peer → Bool
has_name name p = bytes_eq p.terms.name name

itself : (name : List ℕ) → bytes_eq name name ≡ true
itself name = (bytes_eq-Decides name name).1 refl

passes : (f : Peer → Bool) (peers : List Peer) (p : Peer) → find f peers ≡ Some p → f p ≡ true
passes f [] p e = absurd cc
passes f (q ∷ peers) p e = elim (cases_Bool (f q)) [
  | inl yes' ↦ let same : q ≡ p = cc in subst (λ (x : Peer). f x ≡ true) same yes'
  | inr no' ↦ passes f peers p (rw no' at e)
]

-- found by its number and by its name, a peer has its place as the number anew
named_at : (first n : ℕ) (peers : List Peer) (p : Peer) → find (has_number n) peers ≡ Some p → find (has_name p.terms.name) peers ≡ Some p
    → option_map (λ (x : Peer). x.number) (find (has_name p.terms.name) (peers_from first peers)) ≡ Some (first + number_anew peers n)
named_at first n [] p a b = absurd cc
named_at first n (q ∷ peers) p a b = elim (cases_Bool (has_number n q)) [
  | inl here ↦
      let same : q ≡ p = cc in
      let name : has_name p.terms.name q ≡ true = subst (λ (x : Peer). has_name x.terms.name q ≡ true) same (itself q.terms.name) in
      let e : first ≡ first + 0 = omega arith in
      rw (name, here) (ap Some e)
  | inr away ↦ elim (cases_Bool (has_name p.terms.name q)) [
    | inl name ↦
        let same : q ≡ p = cc in
        let wrong : has_number n q ≡ true = subst (λ (x : Peer). has_number n x ≡ true) (sym same) (passes (has_number n) (q ∷ peers) p a) in
        absurd cc
    | inr other ↦
        let more = named_at (first + 1) n peers p (rw away at a) (rw other at b) in
        let e : (first + 1) + number_anew peers n ≡ first + (1 + number_anew peers n) = omega arith in
        rw (other, away) (more ∙ ap Some e)
  ]
]

-- the peer of a number has that name alone
named_once : (net : Net) → IsNetwork net → (n : ℕ) (p : Peer) → peer_numbered n net.peers ≡ Some p → peer_named p.terms.name net.peers ≡ Some p
named_once net k n p e =
    let i : ℕ = position_or_len (has_number n) net.peers in
    let at : slice_get net.peers i ≡ Some p = sym (find_at (has_number n) net.peers) ∙ e in
    let inside = slice_get_within net.peers i p at in
    subst (λ (x : Peer). peer_named x.terms.name net.peers ≡ Some x) (get_or_from_slice_get net.peers i p p at) (k.names i p inside)

pub number_read : (net : Net) → IsNetwork net → (n : ℕ) (p : Peer) → peer_numbered n net.peers ≡ Some p
    → option_map (λ (x : Peer). x.number) (peer_named p.terms.name (peers_from 0 net.peers)) ≡ Some (number_anew net.peers n)
number_read net k n p e =
    let zero_first : 0 + number_anew net.peers n ≡ number_anew net.peers n = omega arith in
    named_at 0 n net.peers p e (named_once net k n p e) ∙ ap Some zero_first

-- the name at a key, and the number of the peer that has it
pub peer_read : (net now : Net) → IsNetwork net → now.peers ≡ peers_from 0 net.peers → (n : ℕ) (p : Peer) (key : List ℕ) (ms : Members) → peer_numbered n net.peers ≡ Some p
    → is_name p.terms.name ≡ true → get_member key ms ≡ Some (string p.terms.name) → peer_under now key ms ≡ Some (number_anew net.peers n)
unfolding peer_under under
peer_read net now k peers n p key ms there name e =
    rw (text_there key ms p.terms.name e, name, peers) (number_read net k n p there)

-- numbers of two peers stay apart
same_number : (peers : List Peer) (n m : ℕ) (p q : Peer) → peer_numbered n peers ≡ Some p → peer_numbered m peers ≡ Some q → number_anew peers n ≡ number_anew peers m → n ≡ m
same_number peers n m p q a b e =
    let same : Some p ≡ Some q = sym a ∙ find_at (has_number n) peers ∙ ap (slice_get peers) e ∙ sym (find_at (has_number m) peers) ∙ b in
    let both : p.number ≡ q.number = ap (λ (o : Option Peer). option_map_or (λ (x : Peer). x.number) o 0) same in
    sym (eqb-true p.number n (passes (has_number n) peers p a)) ∙ both ∙ eqb-true q.number m (passes (has_number m) peers q b)

-- ---- routes

-- the routes with those more
abbrev added : List Peer → RouteMap → List Route → RouteMap
added peers m [] = m
added peers m (r ∷ rs) = added peers (finite.insert m r.prefix (hop_anew peers r.hop)) rs

abbrev net_routed : Net → RouteMap → Net
net_routed net m = record net { routes = m }

-- each may be added behind those before it
abbrev CanRoute : List Peer → RouteMap → List Route → Type 0
CanRoute peers m [] = Unit {0}
CanRoute peers m (r ∷ rs) = (finite.contains_key m r.prefix ≡ false) × (finite.len m < max_routes) × CanRoute peers (finite.insert m r.prefix (hop_anew peers r.hop)) rs

no_route_there : (net : Net) (m : RouteMap) (prefix : List ℕ) → finite.contains_key m prefix ≡ false → finite.len m < max_routes → route_refusal (net_routed net m) prefix ≡ None
no_route_there net m prefix absent few =
    let b : eqb (finite.len m) max_routes ≡ false = grind (arith, nat_tests) in
    rw (absent, b) refl

route_read : PrefixWordLaws → (net now : Net) (m : RouteMap) → IsNetwork net → now.peers ≡ peers_from 0 net.peers → (d : Data) (r : Route) → TellsRoute net.peers d r
    → finite.contains_key m r.prefix ≡ false → finite.len m < max_routes → (as_table d >>= with_route_of Two (net_routed now m)) ≡ Some (net_routed now (finite.insert m r.prefix (hop_anew net.peers r.hop)))
unfolding with_route_of fee_of number_or route_members
route_read laws net now m k peers d r t absent few =
    let ms : Members = route_members r.prefix t.peer.terms.name r.hop.fee in
    let small = most 0 max_money r.hop.fee t.fee in
    rw (
      t.told,
      text_there (codes "prefix") ms (prefix_word r.prefix) refl,
      prefix_again laws r.prefix t.prefix,
      peer_read net (net_routed now m) k peers r.hop.peer t.peer (codes "peer") ms t.there t.name refl,
      word_there (codes "fee") ms r.hop.fee refl small,
      t.fee,
      no_route_there now m r.prefix absent few,
    ) refl

pub routes_read : PrefixWordLaws → (net now : Net) (m : RouteMap) → IsNetwork net → now.peers ≡ peers_from 0 net.peers → (items : Items) (rs : List Route) → AllTold (TellsRoute net.peers) items rs
    → CanRoute net.peers m rs → with_routes_of Two (net_routed now m) items ≡ Some (net_routed now (added net.peers m rs))
unfolding with_routes_of
routes_read laws net now m k peers no_items [] told can = refl
routes_read laws net now m k peers no_items (r ∷ rs) told can = absurd told
routes_read laws net now m k peers (item d ds) [] told can = absurd told
routes_read laws net now m k peers (item d ds) (r ∷ rs) told can =
    rw (route_read laws net now m k peers d r told.0 can.0 can.1)
    (routes_read laws net now (finite.insert m r.prefix (hop_anew net.peers r.hop)) k peers ds rs told.1 can.2)

-- what the routes of the list are
abbrev rows : List Peer → List Route → List (List ℕ × Hop)
rows peers rs = map (λ (e : List ℕ × Hop). (e.0, hop_anew peers e.1)) (map entry_of rs)

tie : (a b : List ℕ) → eq_by_cmp (slice_cmp nat_cmp) a b ≡ bytes_eq a b
tie a b = is_eq-slice_cmp a b

not_in : (peers : List Peer) (b : List ℕ) (rs : List Route) → AllByRecursion (λ y. bytes_eq b y ≡ false) (map (λ r. r.prefix) rs) → found_in (slice_cmp nat_cmp) b (rows peers rs) ≡ None
not_in peers b [] away = refl
not_in peers b (r ∷ rs) away = rw (tie b r.prefix, away.0) (not_in peers b rs away.1)

or_none : {A : Type 0} (o : Option A) → option_or o None ≡ o
or_none None = refl
or_none (Some x) = refl

get_added : (peers : List Peer) (m : RouteMap) (rs : List Route) (q : List ℕ) → IsDistinct bytes_eq (map (λ r. r.prefix) rs)
    → finite.get (added peers m rs) q ≡ option_or (found_in (slice_cmp nat_cmp) q (rows peers rs)) (finite.get m q)
unfolding IsDistinct
get_added peers m [] q apart = refl
get_added peers m (r ∷ rs) q apart =
    let hop : Hop = hop_anew peers r.hop in
    let more = get_added peers (finite.insert m r.prefix hop) rs q apart.1 in
    let put = get-insert nat_list_cmp_total m r.prefix hop q in
    elim (cases_Bool (eq_by_cmp (slice_cmp nat_cmp) q r.prefix)) [
      | inl here ↦
          let same : q ≡ r.prefix = same_text q r.prefix (sym (tie q r.prefix) ∙ here) in
          let none : found_in (slice_cmp nat_cmp) q (rows peers rs) ≡ None = rw same (not_in peers r.prefix rs apart.0) in
          rw here (more ∙ rw (none, put, here) refl)
      | inr away ↦ rw away (more ∙ rw (put, away) refl)
    ]

pub same_routes : (m n : RouteMap) → ((q : List ℕ) → finite.get m q ≡ finite.get n q) → m ≡ n
same_routes = same_map nat_list_cmp_total (slice_cmp-IsAntisymmetric nat_cmp-IsAntisymmetric)

pub found_mapped : (peers : List Peer) (q : List ℕ) (es : List (List ℕ × Hop)) → found_in (slice_cmp nat_cmp) q (map (λ (e : List ℕ × Hop). (e.0, hop_anew peers e.1)) es) ≡ option_map (hop_anew peers) (found_in (slice_cmp nat_cmp) q es)
found_mapped peers q [] = refl
found_mapped peers q (e ∷ es) = elim (cases_Bool (eq_by_cmp (slice_cmp nat_cmp) q e.0)) [
  | inl here ↦ rw here refl
  | inr away ↦ rw away (found_mapped peers q es)
]

pub added_are : (peers : List Peer) (routes : RouteMap) (rs : List Route) → IsDistinct bytes_eq (map (λ r. r.prefix) rs) → from_entries (map entry_of rs) ≡ routes → added peers empty rs ≡ routes_anew peers routes
added_are peers routes rs apart all = same_routes _ _ (λ q.
    get_added peers empty rs q apart
    ∙ ap (option_or (found_in (slice_cmp nat_cmp) q (rows peers rs))) (get-empty (slice_cmp nat_cmp) q)
    ∙ or_none (found_in (slice_cmp nat_cmp) q (rows peers rs))
    ∙ found_mapped peers q (map entry_of rs)
    ∙ ap (option_map (hop_anew peers)) (sym (get-from_entries nat_list_cmp_total (map entry_of rs) q) ∙ ap (λ (m : RouteMap). finite.get m q) all ∙ get-entries routes q)
    ∙ sym (found_mapped peers q (entries routes))
    ∙ sym (get-from_entries nat_list_cmp_total (map (λ (e : List ℕ × Hop). (e.0, hop_anew peers e.1)) (entries routes)) q))

absent_later : (peers : List Peer) (m : RouteMap) (prefix : List ℕ) (hop : Hop) (rs : List Route) → AllByRecursion (λ y. bytes_eq prefix y ≡ false) (map (λ r. r.prefix) rs)
    → AllByRecursion (λ y. finite.contains_key m y ≡ false) (map (λ r. r.prefix) rs) → AllByRecursion (λ y. finite.contains_key (finite.insert m prefix hop) y ≡ false) (map (λ r. r.prefix) rs)
absent_later peers m prefix hop [] apart absent = tt
absent_later peers m prefix hop (r ∷ rs) apart absent =
    let away : bytes_eq r.prefix prefix ≡ false = elim (cases_Bool (bytes_eq r.prefix prefix)) [
      | inl e ↦ let back : bytes_eq prefix r.prefix ≡ true = (bytes_eq-Decides prefix r.prefix).1 (sym (same_text r.prefix prefix e)) in absurd cc
      | inr e ↦ e
    ] in
    (ap is_some (get-insert nat_list_cmp_total m prefix hop r.prefix) ∙ rw (tie r.prefix prefix, away) absent.0, absent_later peers m prefix hop rs apart.1 absent.1)

can_route : (peers : List Peer) (m : RouteMap) (rs : List Route) → IsDistinct bytes_eq (map (λ r. r.prefix) rs) → AllByRecursion (λ y. finite.contains_key m y ≡ false) (map (λ r. r.prefix) rs)
    → finite.len m + length rs ≤ max_routes → CanRoute peers m rs
unfolding IsDistinct
can_route peers m [] apart absent few = tt
can_route peers m (r ∷ rs) apart absent few =
    let hop : Hop = hop_anew peers r.hop in
    let longer : finite.len (finite.insert m r.prefix hop) ≡ finite.len m + 1 = len-insert nat_list_cmp_total m r.prefix hop ∙ rw absent.0 refl in
    (absent.0, omega arith, can_route peers (finite.insert m r.prefix hop) rs apart.1 (absent_later peers m r.prefix hop rs apart.0 absent.1) (omega arith))

empty_absent : (ps : List (List ℕ)) → AllByRecursion (λ y. finite.contains_key (empty {X = Hop} {R = slice_cmp nat_cmp}) y ≡ false) ps
empty_absent [] = tt
empty_absent (p ∷ ps) = (ap is_some (get-empty (slice_cmp nat_cmp) p), empty_absent ps)

pub all_route : (peers : List Peer) (rs : List Route) → IsDistinct bytes_eq (map (λ r. r.prefix) rs) → length rs ≤ max_routes → CanRoute peers empty rs
all_route peers rs apart few =
    let none = len-empty (slice_cmp nat_cmp) Hop in
    can_route peers empty rs apart (empty_absent (map (λ r. r.prefix) rs)) (omega arith)

-- ---- rates

abbrev net_rated : Net → List RateTerms → Net
net_rated net rates = record net { rates = rates }

-- each is for another pair than those before it
abbrev CanRate : List Peer → List RateTerms → List RateTerms → Type 0
CanRate peers there [] = Unit {0}
CanRate peers there (r ∷ rates) =
    (has_pair (rate_anew peers r) there ≡ false) × (length there < max_rates) × (eqb (number_anew peers r.from) (number_anew peers r.to) ≡ false) × CanRate peers (there ++ rate_anew peers r ∷ []) rates

no_rate_there : (net : Net) (there : List RateTerms) (r : RateTerms) → has_pair r there ≡ false → length there < max_rates → rate_refusal (net_rated net there) r ≡ None
no_rate_there net there r absent few =
    let b : nat_le max_rates (length there) ≡ false = grind (arith, nat_tests) in
    rw (absent, b) refl

fraction_read : (f : Fraction) → IsFraction f.numerator f.denominator → result_ok (rate_at f.numerator f.denominator) ≡ Some f
fraction_read f k =
    let a : eqb f.numerator 0 ≡ false = (let h = k.some_numerator in grind (arith, nat_tests)) in
    let b : eqb f.denominator 0 ≡ false = (let h = k.some_denominator in grind (arith, nat_tests)) in
    let c : nat_lt max_term f.numerator ≡ false = (let h = k.small_numerator in grind (arith, nat_tests)) in
    let d : nat_lt max_term f.denominator ≡ false = (let h = k.small_denominator in grind (arith, nat_tests)) in
    rw (a, b, c, d) refl

rate_read : (net now : Net) (there : List RateTerms) → IsNetwork net → now.peers ≡ peers_from 0 net.peers → (d : Data) (r : RateTerms) → TellsRate net.peers d r
    → has_pair (rate_anew net.peers r) there ≡ false → length there < max_rates → eqb (number_anew net.peers r.from) (number_anew net.peers r.to) ≡ false
    → (as_table d >>= with_rate_of (net_rated now there)) ≡ Some (net_rated now (there ++ rate_anew net.peers r ∷ []))
unfolding with_rate_of rate_of rate_members
rate_read net now there k peers d r t absent few apart =
    let ms : Members = rate_members t.from.terms.name t.to.terms.name r.rate in
    let f = t.fraction in
    let a = f.small_numerator in
    let b = f.small_denominator in
    rw (
      t.told,
      peer_read net (net_rated now there) k peers r.from t.from (codes "from") ms t.from_there t.from_name refl,
      peer_read net (net_rated now there) k peers r.to t.to (codes "to") ms t.to_there t.to_name refl,
      word_there (codes "num") ms r.rate.numerator refl (omega arith),
      word_there (codes "den") ms r.rate.denominator refl (omega arith),
      fraction_read r.rate f,
      apart,
      no_rate_there now there (rate_anew net.peers r) absent few,
      absent,
    ) refl

pub rates_read : (net now : Net) (there : List RateTerms) → IsNetwork net → now.peers ≡ peers_from 0 net.peers → (items : Items) (rates : List RateTerms) → AllTold (TellsRate net.peers) items rates
    → CanRate net.peers there rates → with_rates_of (net_rated now there) items ≡ Some (net_rated now (there ++ map (rate_anew net.peers) rates))
unfolding with_rates_of
rates_read net now there k peers no_items [] told can = ap (λ (rs : List RateTerms). Some (net_rated now rs)) (sym (append-nil there))
rates_read net now there k peers no_items (r ∷ rates) told can = absurd told
rates_read net now there k peers (item d ds) [] told can = absurd told
rates_read net now there k peers (item d ds) (r ∷ rates) told can =
    rw (rate_read net now there k peers d r told.0 can.0 can.1 can.2)
    (rates_read net now (there ++ rate_anew net.peers r ∷ []) k peers ds rates told.1 can.3
    ∙ ap (λ (rs : List RateTerms). Some (net_rated now rs)) (append_assoc there (rate_anew net.peers r ∷ []) (map (rate_anew net.peers) rates)))

some_of : {A : Type 0} (o : Option A) → IsSome o → (x : A) × (o ≡ Some x)
some_of None h = absurd cc
some_of (Some x) h = (x, refl)

same_place : (peers : List Peer) (n m : ℕ) → IsSome (peer_numbered n peers) → IsSome (peer_numbered m peers) → number_anew peers n ≡ number_anew peers m → n ≡ m
same_place peers n m a b e =
    let p = some_of (peer_numbered n peers) a in
    let q = some_of (peer_numbered m peers) b in
    same_number peers n m p.0 q.0 p.1 q.1 e

-- what is known of a rate of a network
record IsPresent (peers : List Peer) (r : RateTerms) : Type 0 where
  pub from : IsSome (peer_numbered r.from peers)
  pub to : IsSome (peer_numbered r.to peers)
  pub apart : eqb r.from r.to ≡ false

ends_apart : (peers : List Peer) (r : RateTerms) → IsPresent peers r → eqb (number_anew peers r.from) (number_anew peers r.to) ≡ false
ends_apart peers r k = elim (cases_Bool (eqb (number_anew peers r.from) (number_anew peers r.to))) [
  | inl e ↦
      let same : r.from ≡ r.to = same_place peers r.from r.to k.from k.to (eqb-true _ _ e) in
      let wrong : eqb r.from r.to ≡ true = (let t = same in grind (arith, nat_tests)) in
      absurd cc
  | inr e ↦ e
]

other_pair : (peers : List Peer) (x y : RateTerms) → IsPresent peers x → IsPresent peers y → pair_cmp (pair x) (pair y) ≢ Equal
    → is_for_pair (rate_anew peers y).from (rate_anew peers y).to (rate_anew peers x) ≡ false
other_pair peers x y kx ky other = elim (cases_Bool (is_for_pair (rate_anew peers y).from (rate_anew peers y).to (rate_anew peers x))) [
  | inl e ↦
      let both = and_parts (eqb (number_anew peers x.from) (number_anew peers y.from)) (eqb (number_anew peers x.to) (number_anew peers y.to)) e in
      let from : x.from ≡ y.from = same_place peers x.from y.from kx.from ky.from (eqb-true _ _ both.0) in
      let to : x.to ≡ y.to = same_place peers x.to y.to kx.to ky.to (eqb-true _ _ both.1) in
      absurd (other ((λ i. pair_cmp (pair x) (sym from i, sym to i)) ∙ pair_tied x.from x.to))
  | inr e ↦ e
]
  where
    pair_tied : (n m : ℕ) → pair_cmp (n, m) (n, m) ≡ Equal
    pair_tied n m = rw (tied_itself nat_cmp_total n, tied_itself nat_cmp_total m) refl

abbrev RatesApart : List Peer → List RateTerms → Type 0
RatesApart peers [] = Unit {0}
RatesApart peers (x ∷ rates) = AllByRecursion (λ y. is_for_pair (rate_anew peers y).from (rate_anew peers y).to (rate_anew peers x) ≡ false) rates × RatesApart peers rates

rates_apart : (peers : List Peer) (rates : List RateTerms) → All (IsPresent peers) rates → ArePairsApart rates → RatesApart peers rates
rates_apart peers [] known apart = tt
rates_apart peers (x ∷ rates) known apart = (
  recursion_from_All (λ y. is_for_pair (rate_anew peers y).from (rate_anew peers y).to (rate_anew peers x) ≡ false) rates
      (λ k d l. other_pair peers x (slice_index_or rates k d) (known 0 d (omega arith)) (known (suc k) d (omega arith)) (apart 0 (suc k) d (omega arith) (omega arith))),
  rates_apart peers rates (λ k d l. known (suc k) d (omega arith)) (λ i j d l m. apart (suc i) (suc j) d (omega arith) (omega arith)),
)

pair_later : (peers : List Peer) (there : List RateTerms) (x : RateTerms) (rates : List RateTerms) → AllByRecursion (λ y. has_pair (rate_anew peers y) there ≡ false) rates
    → AllByRecursion (λ y. is_for_pair (rate_anew peers y).from (rate_anew peers y).to (rate_anew peers x) ≡ false) rates
    → AllByRecursion (λ y. has_pair (rate_anew peers y) (there ++ rate_anew peers x ∷ []) ≡ false) rates
pair_later peers there x [] absent apart = tt
pair_later peers there x (y ∷ rates) absent apart =
    (list_any-append (is_for_pair (rate_anew peers y).from (rate_anew peers y).to) there (rate_anew peers x ∷ []) ∙ rw (absent.0, apart.0) refl, pair_later peers there x rates absent.1 apart.1)

can_rate : (peers : List Peer) (there rates : List RateTerms) → AllByRecursion (λ y. has_pair (rate_anew peers y) there ≡ false) rates → RatesApart peers rates → AllByRecursion (IsPresent peers) rates
    → length there + length rates ≤ max_rates → CanRate peers there rates
can_rate peers there [] absent apart known few = tt
can_rate peers there (x ∷ rates) absent apart known few =
    let longer = length_push there (rate_anew peers x) in
    (absent.0, omega arith, ends_apart peers x known.0, can_rate peers (there ++ rate_anew peers x ∷ []) rates (pair_later peers there x rates absent.1 apart.0) apart.1 known.1 (omega arith))

none_there : (peers : List Peer) (rates : List RateTerms) → AllByRecursion (λ y. has_pair (rate_anew peers y) [] ≡ false) rates
none_there peers [] = tt
none_there peers (x ∷ rates) = (refl, none_there peers rates)

pub all_rate : (net : Net) → IsNetwork net → ArePairsApart net.rates → CanRate net.peers [] net.rates
all_rate net k apart =
    let known : All (IsPresent net.peers) net.rates = λ i d l. record { from = k.senders i d l; to = k.receivers i d l; apart = k.apart i d l } in
    let few = k.few_rates in
    can_rate net.peers [] net.rates (none_there net.peers net.rates) (rates_apart net.peers net.rates known apart) (recursion_from_All (IsPresent net.peers) net.rates known) (omega arith)
