-- What is read as a setup is numbered as a written one is: to read, to write and to read again gives the same.
use Rattle.std.proofs.Common.{◌≡◌, ◌<◌, ◌≤◌, ◌+◌, ℕ, zero, suc, Bool, true, false, cond, eqb, List, [], ◌∷◌, ◌++◌, length, map, Option, Some, None, refl, sym, ap, subst, ◌∙◌, arith}
use Rattle.std.specs.Prelude.{codes, option_map}
use Rattle.std.specs.FinMap as finite
use Rattle.std.specs.FinMap.{entries, get-empty, get-entries, get-insert, get-from_entries}
use Rattle.std.specs.Cmp.Lexicographic.{slice_cmp}
use Rattle.std.specs.List.{AllByRecursion, find}
use Rattle.std.specs.Ordering.{nat_cmp, eq_by_cmp}
use Rattle.std.specs.Result.{result_ok}
use Rattle.std.specs.Str.{bytes_eq}
use Rattle.std.proofs.lemmas.Bool.Decides.{nat_tests}
use Rattle.std.proofs.lemmas.Cmp.{nat_list_cmp_total}
use Rattle.std.proofs.lemmas.List.{length_push}
use Rattle.toml.specs.Data.{Items, no_items, item, Members, as_table}
use Rattle.common_types.specs.OptionChain.{◌>>=◌}
use Rattle.money_core.specs.Price.{rate_at}
use Rattle.route_table.specs.declared.hop.Hop.{Hop}
use Rattle.tenant_core.specs.Network.{Net, nobody, peer_refusal, with_peer, route_refusal, with_route, rate_refusal, with_rate, has_pair, replaced_rate, is_for_pair, peer_named}
use Rattle.tenant_core.specs.Orders.{number_named}
use Rattle.tenant_core.specs.declared.faults.CommandFault.{CommandFault}
use Rattle.tenant_core.specs.declared.peer.Peer.{Peer}
use Rattle.tenant_core.specs.declared.terms.RateTerms.{RateTerms}
use Rattle.admin_text.specs.Anew.{peers_from, number_anew, hop_anew, routes_anew, rate_anew, net_anew}
use Rattle.admin_text.specs.Keys.{string_under, number_under, items_under}
use Rattle.admin_text.specs.Under.{name_under, peer_terms_of, starting_balance}
use Rattle.admin_text.specs.Networks.{no_level, unless, peer_under, fee_of, with_peer_in, with_peer_of, with_peers_of, with_route_of, with_route_in, with_routes_of, rate_of, with_rate_of, with_rate_in, with_rates_of, network_in_table}
use Rattle.admin_text.specs.Prefixes.{written_prefix}
use Rattle.admin_text.specs.declared.version.Version.{Version}
use Rattle.admin_text.proofs.TellsRoutes.{found_mapped, same_routes}

pub bound : {A B : Type 0} (o : Option A) (f : A → Option B) (b : B) → (o >>= f) ≡ Some b → (a : A) × (o ≡ Some a) × (f a ≡ Some b)
bound None f b e = absurd cc
bound (Some a) f b e = (a, refl, e)

allowed : (o : Option CommandFault) (net more : Net) → unless o net ≡ Some more → net ≡ more
allowed None net more e = cc
allowed (Some fault) net more e = absurd cc

-- ---- peers that are numbered from 0

is_number : (k n : ℕ) (ps : List Peer) → n < length ps → number_anew (peers_from k ps) (k + n) ≡ n
is_number k n [] h = absurd (omega arith)
is_number k zero (p ∷ ps) h =
    let here : eqb k (k + 0) ≡ true = grind (arith, nat_tests) in
    rw here refl
is_number k (suc n) (p ∷ ps) h =
    let away : eqb k (k + suc n) ≡ false = grind (arith, nat_tests) in
    let next : k + suc n ≡ (k + 1) + n = omega arith in
    let more : number_anew (peers_from (k + 1) ps) (k + suc n) ≡ n = ap (number_anew (peers_from (k + 1) ps)) next ∙ is_number (k + 1) n ps (omega arith) in
    rw away (omega (arith, more))

found_below : (k : ℕ) (ps : List Peer) (f : Peer → Bool) (n : ℕ) → option_map (λ (p : Peer). p.number) (find f (peers_from k ps)) ≡ Some n → n < k + length ps
found_below k [] f n e = absurd cc
found_below k (p ∷ ps) f n e = by (f (record p { number = k; bucket = no_level })) (λ h. found_below (k + 1) ps f n h) e
  where
    by : (b : Bool) → (option_map (λ (q : Peer). q.number) (find f (peers_from (k + 1) ps)) ≡ Some n → n < (k + 1) + length ps) → option_map (λ (q : Peer). q.number) (cond b (Some (record p { number = k; bucket = no_level })) (find f (peers_from (k + 1) ps))) ≡ Some n → n < k + length (p ∷ ps)
    by true rest e = let is : k ≡ n = cc in omega arith
    by false rest e = let more = rest e in omega arith

one_later : (k : ℕ) (ps : List Peer) (q : Peer) → peers_from k (ps ++ q ∷ []) ≡ peers_from k ps ++ (record q { number = k + length ps; bucket = no_level }) ∷ []
one_later k [] q =
    let e : k ≡ k + 0 = omega arith in
    λ i. (record q { number = e i; bucket = no_level }) ∷ []
one_later k (p ∷ ps) q =
    let e : (k + 1) + length ps ≡ k + length (p ∷ ps) = omega arith in
    ap (λ (qs : List Peer). (record p { number = k; bucket = no_level }) ∷ qs)
    (one_later (k + 1) ps q ∙ (λ i. peers_from (k + 1) ps ++ (record q { number = e i; bucket = no_level }) ∷ []))

-- ---- networks that are as they would be anew

abbrev IsBelow : ℕ → RateTerms → Type 0
IsBelow n r = (r.from < n) × (r.to < n)

pub record IsAnew (net : Net) : Type 0 where
  pub next : net.next_peer ≡ length net.peers
  pub peers : peers_from 0 net.peers ≡ net.peers
  pub hops : (prefix : List ℕ) (hop : Hop) → finite.get net.routes prefix ≡ Some hop → hop.peer < length net.peers
  pub rates : AllByRecursion (IsBelow (length net.peers)) net.rates

number_is : (net : Net) → IsAnew net → (n : ℕ) → n < length net.peers → number_anew net.peers n ≡ n
number_is net k n h =
    let e : n ≡ 0 + n = omega arith in
    subst (λ (ps : List Peer). number_anew ps n ≡ n) k.peers (ap (number_anew (peers_from 0 net.peers)) e ∙ is_number 0 n net.peers h)

same_hop : (net : Net) → IsAnew net → (o : Option Hop) → ((hop : Hop) → o ≡ Some hop → hop.peer < length net.peers) → option_map (hop_anew net.peers) o ≡ o
same_hop net k None below = refl
same_hop net k (Some hop) below =
    let n = number_is net k hop.peer (below hop refl) in
    λ i. Some (record { peer = n i; fee = hop.fee })

same_table : (net : Net) → IsAnew net → routes_anew net.peers net.routes ≡ net.routes
same_table net k = same_routes _ _ (λ q.
    get-from_entries nat_list_cmp_total (map (λ (e : List ℕ × Hop). (e.0, hop_anew net.peers e.1)) (entries net.routes)) q
    ∙ found_mapped net.peers q (entries net.routes)
    ∙ ap (option_map (hop_anew net.peers)) (sym (get-entries net.routes q))
    ∙ same_hop net k (finite.get net.routes q) (λ hop e. k.hops q hop e))

same_rates : (net : Net) → IsAnew net → (rates : List RateTerms) → AllByRecursion (IsBelow (length net.peers)) rates → map (rate_anew net.peers) rates ≡ rates
same_rates net k [] below = refl
same_rates net k (r ∷ rates) below =
    let from = number_is net k r.from below.0.0 in
    let to = number_is net k r.to below.0.1 in
    λ i. (record { from = from i; to = to i; rate = r.rate }) ∷ same_rates net k rates below.1 i

pub same_net : (net : Net) → IsAnew net → net_anew net ≡ net
same_net net k = λ i. record {
  next_peer = sym k.next i;
  peers = k.peers i;
  routes = same_table net k i;
  rates = same_rates net k net.rates k.rates i;
}

-- ---- they stay so

nobody_anew : IsAnew nobody
nobody_anew = record {
  next = refl;
  peers = refl;
  hops = λ prefix hop e. let none : None ≡ Some hop = sym (get-empty (slice_cmp nat_cmp) prefix) ∙ e in absurd cc;
  rates = tt;
}

weaker : (n m : ℕ) (rates : List RateTerms) → n ≤ m → AllByRecursion (IsBelow n) rates → AllByRecursion (IsBelow m) rates
weaker n m [] le h = tt
weaker n m (r ∷ rates) le h =
    let a = h.0.0 in
    let b = h.0.1 in
    ((omega arith, omega arith), weaker n m rates le h.1)

peer_anew : (net : Net) (p : Peer) → IsAnew net → p.number ≡ net.next_peer → p.bucket ≡ no_level → IsAnew (record net { next_peer = net.next_peer + 1; peers = net.peers ++ p ∷ [] })
peer_anew net p k number level =
    let longer = length_push net.peers p in
    let next = k.next in
    let e : 0 + length net.peers ≡ p.number = omega (arith, next, number) in
    record {
      next = omega arith;
      peers = one_later 0 net.peers p ∙ (λ i. k.peers i ++ (record p { number = e i; bucket = sym level i }) ∷ []);
      hops = λ prefix hop h. let less = k.hops prefix hop h in omega arith;
      rates = weaker (length net.peers) (length (net.peers ++ p ∷ [])) net.rates (omega arith) k.rates;
    }

pub peers_anew : (net : Net) (items : Items) (more : Net) → IsAnew net → with_peers_of net items ≡ Some more → IsAnew more
unfolding with_peers_of
peers_anew net no_items more k e = let same : net ≡ more = cc in subst IsAnew same k
peers_anew net (item d ds) more k e =
    let a = bound (with_peer_in net d) (λ x. with_peers_of x ds) more e in
    let t = bound (as_table d) (with_peer_of net) a.0 a.1 in
    let terms = bound (peer_terms_of t.0) _ a.0 t.2 in
    let balance = bound (starting_balance t.0) _ a.0 terms.2 in
    let is = allowed (peer_refusal net terms.0) (with_peer net terms.0 balance.0 no_level) a.0 balance.2 in
    peers_anew a.0 ds more (subst IsAnew is (peer_anew net (record { number = net.next_peer; terms = terms.0; balance = balance.0; bucket = no_level }) k refl refl)) a.2

number_below : (net : Net) → IsAnew net → (key : List ℕ) (t : Members) (n : ℕ) → peer_under net key t ≡ Some n → n < length net.peers
unfolding peer_under
number_below net k key t n e =
    let name = bound (name_under key t) (number_named net) n e in
    let named : option_map (λ (p : Peer). p.number) (peer_named name.0 (peers_from 0 net.peers)) ≡ Some n =
    ap (λ (ps : List Peer). option_map (λ (p : Peer). p.number) (peer_named name.0 ps)) k.peers ∙ name.2 in
    let less = found_below 0 net.peers (λ p. bytes_eq p.terms.name name.0) n named in
    omega arith

route_anew : (net : Net) (prefix : List ℕ) (hop : Hop) → IsAnew net → hop.peer < length net.peers → IsAnew (with_route net prefix hop)
route_anew net prefix hop k less = record {
  next = k.next;
  peers = k.peers;
  hops = λ q h e. by (eq_by_cmp (slice_cmp nat_cmp) q prefix) q h (sym (get-insert nat_list_cmp_total net.routes prefix hop q) ∙ e);
  rates = k.rates;
}
  where
    by : (b : Bool) (q : List ℕ) (h : Hop) → cond b (Some hop) (finite.get net.routes q) ≡ Some h → h.peer < length net.peers
    by true q h e = let same : hop ≡ h = cc in subst (λ (x : Hop). x.peer < length net.peers) same less
    by false q h e = k.hops q h e

pub routes_anew_still : (version : Version) (net : Net) (items : Items) (more : Net) → IsAnew net → with_routes_of version net items ≡ Some more → IsAnew more
unfolding with_routes_of with_route_of
routes_anew_still version net no_items more k e = let same : net ≡ more = cc in subst IsAnew same k
routes_anew_still version net (item d ds) more k e =
    let a = bound (with_route_in version net d) (λ x. with_routes_of version x ds) more e in
    let t = bound (as_table d) (with_route_of version net) a.0 a.1 in
    let text = bound (string_under (codes "prefix") t.0) _ a.0 t.2 in
    let prefix = bound (written_prefix text.0) _ a.0 text.2 in
    let peer = bound (peer_under net (codes "peer") t.0) _ a.0 prefix.2 in
    let fee = bound (fee_of version t.0) _ a.0 peer.2 in
    let hop : Hop = record { peer = peer.0; fee = fee.0 } in
    let is = allowed (route_refusal net prefix.0) (with_route net prefix.0 hop) a.0 fee.2 in
    routes_anew_still version a.0 ds more (subst IsAnew is (route_anew net prefix.0 hop k (number_below net k (codes "peer") t.0 peer.0 peer.1))) a.2

replaced_below : (n : ℕ) (r : RateTerms) (rates : List RateTerms) → IsBelow n r → AllByRecursion (IsBelow n) rates → AllByRecursion (IsBelow n) (replaced_rate r rates)
replaced_below n r [] below h = tt
replaced_below n r (q ∷ rates) below h = (by (is_for_pair r.from r.to q), replaced_below n r rates below h.1)
  where
    by : (b : Bool) → IsBelow n (cond b r q)
    by true = below
    by false = h.0

pushed_below : (n : ℕ) (r : RateTerms) (rates : List RateTerms) → IsBelow n r → AllByRecursion (IsBelow n) rates → AllByRecursion (IsBelow n) (rates ++ r ∷ [])
pushed_below n r [] below h = (below, tt)
pushed_below n r (q ∷ rates) below h = (h.0, pushed_below n r rates below h.1)

rate_still : (net : Net) (r : RateTerms) → IsAnew net → IsBelow (length net.peers) r → IsAnew (with_rate net r)
rate_still net r k below = record { next = k.next; peers = k.peers; hops = k.hops; rates = by (has_pair r net.rates) }
  where
    by : (b : Bool) → AllByRecursion (IsBelow (length net.peers)) (cond b (replaced_rate r net.rates) (net.rates ++ r ∷ []))
    by true = replaced_below (length net.peers) r net.rates below k.rates
    by false = pushed_below (length net.peers) r net.rates below k.rates

chosen : (b : Bool) (x r : RateTerms) → cond b None (Some x) ≡ Some r → x ≡ r
chosen true x r e = absurd cc
chosen false x r e = cc

rate_below : (net : Net) → IsAnew net → (t : Members) (r : RateTerms) → rate_of net t ≡ Some r → IsBelow (length net.peers) r
unfolding rate_of
rate_below net k t r e =
    let from = bound (peer_under net (codes "from") t) _ r e in
    let to = bound (peer_under net (codes "to") t) _ r from.2 in
    let num = bound (number_under (codes "num") t) _ r to.2 in
    let den = bound (number_under (codes "den") t) _ r num.2 in
    let rate = bound (result_ok (rate_at num.0 den.0)) _ r den.2 in
    let is = chosen (eqb from.0 to.0) (record { from = from.0; to = to.0; rate = rate.0 }) r rate.2 in
    subst (IsBelow (length net.peers)) is (number_below net k (codes "from") t from.0 from.1, number_below net k (codes "to") t to.0 to.1)

pub rates_still : (net : Net) (items : Items) (more : Net) → IsAnew net → with_rates_of net items ≡ Some more → IsAnew more
unfolding with_rates_of with_rate_of
rates_still net no_items more k e = let same : net ≡ more = cc in subst IsAnew same k
rates_still net (item d ds) more k e =
    let a = bound (with_rate_in net d) (λ x. with_rates_of x ds) more e in
    let t = bound (as_table d) (with_rate_of net) a.0 a.1 in
    let r = bound (rate_of net t.0) _ a.0 t.2 in
    let is = allowed (rate_refusal net r.0) (with_rate net r.0) a.0 r.2 in
    rates_still a.0 ds more (subst IsAnew is (rate_still net r.0 k (rate_below net k t.0 r.0 r.1))) a.2

pub network_anew : (version : Version) (t : Members) (net : Net) → network_in_table version t ≡ Some net → net_anew net ≡ net
unfolding network_in_table
network_anew version t net e =
    let peers = bound (items_under (codes "peer") t) _ net e in
    let routes = bound (items_under (codes "route") t) _ net peers.2 in
    let rates = bound (items_under (codes "rate") t) _ net routes.2 in
    let reached = bound (with_peers_of nobody peers.0) _ net rates.2 in
    let routed = bound (with_routes_of version reached.0 routes.0) _ net reached.2 in
    same_net net (rates_still routed.0 rates.0 net (routes_anew_still version reached.0 routes.0 routed.0 (peers_anew nobody peers.0 reached.0 nobody_anew reached.1) routed.1) routed.2)
