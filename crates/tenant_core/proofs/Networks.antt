-- What changes a network leaves its type's facts.
use Rattle.std.proofs.Common.{◌≡◌, ℕ, ◌+◌, ◌<◌, ◌≤◌, Bool, true, false, not, cond, eqb, List, [], ◌∷◌, ◌++◌, length, get_or, map, arith, refl, sym, ap, subst, ◌∙◌, ℤ, pos, ◌+ℤ◌, ◌-ℤ◌, ◌≤ℤ◌}
use Rattle.std.specs.Prelude.{neg_ℤ, unsigned_abs, Result, Ok, Err, OnOk, OnErr, Option, Some, None, IsSome, find, All, ◌&&◌, ◌||◌, option_map}
use Rattle.std.specs.Option.{option_or}
use Rattle.std.specs.FinMap.{empty, get, insert, remove, get-empty, get-insert, get-remove}
use Rattle.std.specs.List.{filter, list_any, AllPairs}
use Rattle.std.specs.Ordering.{eq_by_cmp, nat_cmp}
use Rattle.std.specs.Cmp.Lexicographic.{slice_cmp}
use Rattle.std.specs.Str.{bytes_eq}
use Rattle.std.proofs.lemmas.Bool.{and_parts, or_parts, not-true, ne_eqb, eq-eqb, eqb-true, le-leb}
use Rattle.std.proofs.lemmas.Int.{ints}
use Rattle.std.proofs.lemmas.Cmp.{nat_list_cmp_total}
use Rattle.std.proofs.lemmas.List.{length_push, length-map, get_or-map}
use Rattle.std.proofs.lemmas.List.Elements.{All-nil, All-tail, All-push, All-map, All-filter, filter_passes}
use Rattle.std.proofs.lemmas.List.Folds.{find-append}
use Rattle.std.proofs.lemmas.List.Kept.{AllPairs-filter}
use Rattle.std.proofs.lemmas.List.Quantifiers.{all_pairs_push}
use Rattle.std.proofs.lemmas.List.Sums.{length-filter, count_by-le-length}
use Rattle.std.proofs.lemmas.Slice.Eq.{bytes_eq-Decides}
use Rattle.tenant_core.specs.declared.peer.Level.{Level}
use Rattle.tenant_core.specs.declared.peer.Peer.{Peer}
use Rattle.tenant_core.specs.declared.terms.PeerTerms.{PeerTerms}
use Rattle.tenant_core.specs.declared.terms.RateTerms.{RateTerms}
use Rattle.tenant_core.proofs.Courses.{find_passes}
use Rattle.tenant_core.specs.Limits.{max_peers, max_peer_numbers, max_rates}
use Rattle.route_table.specs.Routes.{NamesPeer, RouteMap}
use Rattle.route_table.specs.declared.hop.Hop.{Hop}
use Rattle.tenant_core.specs.Terms.{are_terms_within, is_balance_within}
use Rattle.money_core.specs.Account.{max_money}
use Rattle.tenant_core.specs.Periods.{carried, carried_net}
use Rattle.tenant_core.specs.Purse.{IsWithinBounds, balance_of, held_in_of, held_out_of}
use Rattle.tenant_core.specs.State.{State}
use Rattle.tenant_core.specs.Network.{Net, IsNetwork, nobody, peer_numbered, peer_with_token, peer_named, is_present, is_for_pair, names_peer, has_pair, replaced_rate}
use Rattle.tenant_core.specs.Network.{with_peer, without_peer, changed_peer, with_route, without_route, with_rate}

-- ---- elements that are found by their keys

-- each is the first of its key
abbrev AreFound : {A K : Type 0} → (A → K) → (K → K → Bool) → List A → Type 0
AreFound key test xs = All (λ p. find (λ q. test (key q) (key p)) xs ≡ Some p) xs

some_or : {A : Type 0} (o p : Option A) → IsSome o → IsSome (option_or o p)
some_or None p e = absurd cc
some_or (Some x) p e = refl

found_push : {A K : Type 0} (key : A → K) (test : K → K → Bool) (xs : List A) (x : A) → AreFound key test xs
    → find (λ q. test (key q) (key x)) xs ≡ None → test (key x) (key x) ≡ true → AreFound key test (xs ++ x ∷ [])
found_push {A} key test xs x each none same =
    All-push (λ p. find (λ q. test (key q) (key p)) (xs ++ x ∷ []) ≡ Some p) xs x old new
  where
    old : All (λ p. find (λ q. test (key q) (key p)) (xs ++ x ∷ []) ≡ Some p) xs
    old k d l = find-append (λ q. test (key q) (key (get_or xs k d))) xs (x ∷ []) ∙ ap (λ o. option_or o (find (λ q. test (key q) (key (get_or xs k d))) (x ∷ []))) (each k d l)

    new : find (λ q. test (key q) (key x)) (xs ++ x ∷ []) ≡ Some x
    new = find-append (λ q. test (key q) (key x)) xs (x ∷ []) ∙ (ap (λ o. option_or o (cond (test (key x) (key x)) (Some x) None)) none ∙ rw same refl)

some_push : {A : Type 0} (test : A → Bool) (xs : List A) (x : A) → IsSome (find test xs) → IsSome (find test (xs ++ x ∷ []))
some_push test xs x some = subst IsSome (sym (find-append test xs (x ∷ []))) (some_or (find test xs) (find test (x ∷ [])) some)

-- ---- nobody, and a peer more

is_none : (n : Hop) → None ≡ Some n → ⊥
is_none n e = absurd cc

pub nobody_is : IsNetwork nobody
nobody_is =
    record {
      peers = omega arith;
      numbers = All-nil (λ (p : Peer). peer_numbered p.number [] ≡ Some p);
      tokens = All-nil (λ (p : Peer). peer_with_token p.terms.token [] ≡ Some p);
      names = All-nil (λ (p : Peer). peer_named p.terms.name [] ≡ Some p);
      rising = λ i j d lt h. absurd (omega arith);
      next = All-nil (λ (p : Peer). p.number < 0);
      few = omega arith;
      routes = λ prefix n e. let none : get {R = slice_cmp nat_cmp} (empty {X = Hop}) prefix ≡ None = get-empty (slice_cmp nat_cmp) prefix in absurd (is_none n (sym none ∙ e));
      senders = All-nil (λ (r : RateTerms). IsSome (peer_numbered r.from []));
      receivers = All-nil (λ (r : RateTerms). IsSome (peer_numbered r.to []));
      rates = All-nil (λ (r : RateTerms). None ≡ Some r);
      apart = All-nil (λ (r : RateTerms). eqb r.from r.to ≡ false);
      few_rates = omega arith;
      terms = All-nil (λ (p : Peer). are_terms_within p.terms ≡ true);
      balances = All-nil (λ (p : Peer). is_balance_within p.balance ≡ true);
    }

pub is_network : (a b : Net) → a ≡ b → IsNetwork b → IsNetwork a
is_network a b e is = subst (λ (n : Net). IsNetwork n) (sym e) is

none_numbered : (next : ℕ) (ps : List Peer) → All (λ p. p.number < next) ps → peer_numbered next ps ≡ None
none_numbered next [] below = refl
none_numbered next (p ∷ ps) below =
    let less : p.number < next = below 0 p (omega arith) in
    let other : eqb p.number next ≡ false = ne_eqb p.number next (λ same. omega arith) in
    rw other (none_numbered next ps (All-tail (λ (q : Peer). q.number < next) p ps below))

pub with_peer_is : (net : Net) (t : PeerTerms) (balance : ℤ) (level : Level) → IsNetwork net → is_present net.peers t ≡ false
    → length net.peers < max_peers → net.next_peer < max_peer_numbers → are_terms_within t ≡ true → is_balance_within balance ≡ true
    → IsNetwork (with_peer net t balance level)
with_peer_is net t balance level is absent few numbers within small =
    let peer : Peer = record { number = net.next_peer; terms = t; balance = balance; bucket = level } in
    let count = length_push net.peers peer in
    let texts = none_like t net.peers absent in
    record {
      peers = omega arith;
      numbers = found_push (λ (p : Peer). p.number) eqb net.peers peer is.numbers (none_numbered net.next_peer net.peers is.next) (eq-eqb net.next_peer net.next_peer refl);
      tokens = found_push (λ (p : Peer). p.terms.token) bytes_eq net.peers peer is.tokens texts.1 ((bytes_eq-Decides t.token t.token).1 refl);
      names = found_push (λ (p : Peer). p.terms.name) bytes_eq net.peers peer is.names texts.0 ((bytes_eq-Decides t.name t.name).1 refl);
      rising = all_pairs_push (λ p q. p.number < q.number) net.peers peer is.rising is.next;
      next = All-push (λ p. p.number < net.next_peer + 1) net.peers peer (λ k d l. let less = is.next k d l in omega arith) (omega arith);
      few = omega arith;
      routes = λ prefix h e. some_push (λ p. eqb p.number h.peer) net.peers peer (is.routes prefix h e);
      senders = λ k d l. some_push (λ p. eqb p.number (get_or net.rates k d).from) net.peers peer (is.senders k d l);
      receivers = λ k d l. some_push (λ p. eqb p.number (get_or net.rates k d).to) net.peers peer (is.receivers k d l);
      rates = is.rates;
      apart = is.apart;
      few_rates = is.few_rates;
      terms = All-push (λ p. are_terms_within p.terms ≡ true) net.peers peer is.terms within;
      balances = All-push (λ p. is_balance_within p.balance ≡ true) net.peers peer is.balances small;
    }
  where
    none_like : (t : PeerTerms) (ps : List Peer) → is_present ps t ≡ false → (peer_named t.name ps ≡ None) × (peer_with_token t.token ps ≡ None)
    none_like t [] e = (refl, refl)
    none_like t (p ∷ ps) e =
        let parts = or_parts (bytes_eq p.terms.name t.name || bytes_eq p.terms.token t.token) (is_present ps t) e in
        let both = or_parts (bytes_eq p.terms.name t.name) (bytes_eq p.terms.token t.token) parts.0 in
        let rest = none_like t ps parts.1 in
        (rw both.0 rest.0, rw both.1 rest.1)

-- ---- changed peers

find_map_same : {A : Type 0} (t : A → Bool) (g : A → A) → ((x : A) → t (g x) ≡ t x) → (xs : List A) → find t (map g xs) ≡ option_map g (find t xs)
find_map_same t g same [] = refl
find_map_same {A} t g same (x ∷ xs) = rw (same x) (by (t x) (find_map_same t g same xs))
  where
    by : (b : Bool) → find t (map g xs) ≡ option_map g (find t xs) → cond b (Some (g x)) (find t (map g xs)) ≡ option_map g (cond b (Some x) (find t xs))
    by true e = refl
    by false e = e

found_map : {A K : Type 0} (key : A → K) (test : K → K → Bool) (g : A → A) → ((x : A) → key (g x) ≡ key x) → (xs : List A)
    → AreFound key test xs → AreFound key test (map g xs)
found_map {A} key test g same xs each = All-map (λ p. find (λ q. test (key q) (key p)) (map g xs) ≡ Some p) g xs moved
  where
    moved : All (λ y. find (λ q. test (key q) (key (g y))) (map g xs) ≡ Some (g y)) xs
    moved k d l =
        let y : A = get_or xs k d in
        find_map_same (λ q. test (key q) (key (g y))) g (λ x. ap (λ a. test a (key (g y))) (same x)) xs
        ∙ ap (option_map g) (ap (λ a. find (λ q. test (key q) a) xs) (same y) ∙ each k d l)

some_map : {A : Type 0} (t : A → Bool) (g : A → A) → ((x : A) → t (g x) ≡ t x) → (xs : List A) → IsSome (find t xs) → IsSome (find t (map g xs))
some_map {A} t g same xs some = subst IsSome (sym (find_map_same t g same xs)) (by (find t xs) some)
  where
    by : (o : Option A) → IsSome o → IsSome (option_map g o)
    by None e = absurd cc
    by (Some x) e = refl

pub changed_is : (net : Net) (g : Peer → Peer) → ((p : Peer) → (g p).number ≡ p.number) → ((p : Peer) → (g p).terms.name ≡ p.terms.name)
    → ((p : Peer) → (g p).terms.token ≡ p.terms.token) → ((p : Peer) → are_terms_within p.terms ≡ true → are_terms_within (g p).terms ≡ true)
    → ((p : Peer) → is_balance_within p.balance ≡ true → is_balance_within (g p).balance ≡ true) → IsNetwork net → IsNetwork (record net { peers = map g net.peers })
changed_is net g number name token within balance is =
    let count = length-map net.peers g in
    record {
      peers = omega arith;
      numbers = found_map (λ (p : Peer). p.number) eqb g number net.peers is.numbers;
      tokens = found_map (λ (p : Peer). p.terms.token) bytes_eq g token net.peers is.tokens;
      names = found_map (λ (p : Peer). p.terms.name) bytes_eq g name net.peers is.names;
      rising = rising_map;
      next = All-map (λ p. p.number < net.next_peer) g net.peers (λ k d l. let less = is.next k d l in let same = number (get_or net.peers k d) in omega arith);
      few = is.few;
      routes = λ prefix h e. some_map (λ p. eqb p.number h.peer) g (λ x. ap (λ a. eqb a h.peer) (number x)) net.peers (is.routes prefix h e);
      senders = λ k d l. some_map (λ p. eqb p.number (get_or net.rates k d).from) g (λ x. ap (λ a. eqb a (get_or net.rates k d).from) (number x)) net.peers (is.senders k d l);
      receivers = λ k d l. some_map (λ p. eqb p.number (get_or net.rates k d).to) g (λ x. ap (λ a. eqb a (get_or net.rates k d).to) (number x)) net.peers (is.receivers k d l);
      rates = is.rates;
      apart = is.apart;
      few_rates = is.few_rates;
      terms = All-map (λ p. are_terms_within p.terms ≡ true) g net.peers (λ k d l. within (get_or net.peers k d) (is.terms k d l));
      balances = All-map (λ p. is_balance_within p.balance ≡ true) g net.peers (λ k d l. balance (get_or net.peers k d) (is.balances k d l));
    }
  where
    rising_map : AllPairs (λ p q. p.number < q.number) (map g net.peers)
    rising_map i j d lt h =
        let inside : j < length net.peers = omega (arith, length-map net.peers g) in
        let first : (get_or (map g net.peers) i d).number ≡ (get_or net.peers i d).number =
        ap (λ (p : Peer). p.number) (get_or-map g net.peers i d d (omega arith)) ∙ number (get_or net.peers i d) in
        let second : (get_or (map g net.peers) j d).number ≡ (get_or net.peers j d).number =
        ap (λ (p : Peer). p.number) (get_or-map g net.peers j d d inside) ∙ number (get_or net.peers j d) in
        rw (first, second) (is.rising i j d lt inside)

-- one peer of them changed
pub one_changed_is : (net : Net) (n : ℕ) (change : Peer → Peer) → ((p : Peer) → (change p).number ≡ p.number)
    → ((p : Peer) → (change p).terms.name ≡ p.terms.name) → ((p : Peer) → (change p).terms.token ≡ p.terms.token)
    → ((p : Peer) → are_terms_within p.terms ≡ true → are_terms_within (change p).terms ≡ true) → ((p : Peer) → (change p).balance ≡ p.balance)
    → IsNetwork net → IsNetwork (record net { peers = changed_peer change n net.peers })
one_changed_is net n change number name token within balance is =
    changed_is net (λ p. cond (eqb p.number n) (change p) p)
    (λ p. chosen (λ (q : Peer). q.number) (eqb p.number n) p (number p))
    (λ p. chosen (λ (q : Peer). q.terms.name) (eqb p.number n) p (name p))
    (λ p. chosen (λ (q : Peer). q.terms.token) (eqb p.number n) p (token p))
    (λ p e. either (eqb p.number n) p e)
    (λ p e. ap is_balance_within (chosen (λ (q : Peer). q.balance) (eqb p.number n) p (balance p)) ∙ e) is
  where
    either : (b : Bool) (p : Peer) → are_terms_within p.terms ≡ true → are_terms_within (cond b (change p) p).terms ≡ true
    either true p e = within p e
    either false p e = e

    chosen : {K : Type 0} (f : Peer → K) (b : Bool) (p : Peer) → f (change p) ≡ f p → f (cond b (change p) p) ≡ f p
    chosen f true p e = e
    chosen f false p e = refl

-- ---- a peer less

true_or_false : (b : Bool) → b ≡ true → b ≡ false → ⊥
true_or_false b e f = absurd cc

find_filter : {A : Type 0} (t keep : A → Bool) (xs : List A) (p : A) → find t xs ≡ Some p → keep p ≡ true → find t (filter keep xs) ≡ Some p
find_filter {A} t keep [] p e k = absurd (none_some p e)
  where
    none_some : (q : A) → None ≡ Some q → ⊥
    none_some q f = absurd cc
find_filter {A} t keep (x ∷ xs) p e k = by (t x) (keep x) refl refl e (find_filter t keep xs p)
  where
    same : Some x ≡ Some p → x ≡ p
    same f = cc

    by : (b c : Bool) → t x ≡ b → keep x ≡ c → cond b (Some x) (find t xs) ≡ Some p
        → (find t xs ≡ Some p → keep p ≡ true → find t (filter keep xs) ≡ Some p) → find t (cond c (x ∷ filter keep xs) (filter keep xs)) ≡ Some p
    by true true tx kx f rest = rw tx f
    by true false tx kx f rest = absurd (true_or_false (keep x) (ap keep (same f) ∙ k) kx)
    by false true tx kx f rest = rw tx (rest f k)
    by false false tx kx f rest = rest f k

length-filter_le : {A : Type 0} (keep : A → Bool) (xs : List A) → length (filter keep xs) ≤ length xs
length-filter_le keep xs = subst (λ n. n ≤ length xs) (sym (length-filter keep xs)) (count_by-le-length keep xs)

found_filter : {A K : Type 0} (key : A → K) (test : K → K → Bool) (keep : A → Bool) (xs : List A) → AreFound key test xs → AreFound key test (filter keep xs)
found_filter {A} key test keep xs each k d l =
    let p : A = get_or (filter keep xs) k d in
    let here : find (λ q. test (key q) (key p)) xs ≡ Some p = All-filter keep (λ x. find (λ q. test (key q) (key x)) xs ≡ Some x) xs each k d l in
    find_filter (λ q. test (key q) (key p)) keep xs p here (filter_passes keep xs k d l)

some_filter : {A : Type 0} (t keep : A → Bool) → ((x : A) → t x ≡ true → keep x ≡ true) → (xs : List A) → IsSome (find t xs) → IsSome (find t (filter keep xs))
some_filter {A} t keep kept xs some = by (find t xs) refl some
  where
    by : (o : Option A) → find t xs ≡ o → IsSome o → IsSome (find t (filter keep xs))
    by None e f = absurd cc
    by (Some x) e f = subst IsSome (sym (find_filter t keep xs x e (kept x (find_passes t xs x e)))) refl

other_kept : (m n : ℕ) → (m ≡ n → ⊥) → (p : Peer) → eqb p.number m ≡ true → not (eqb p.number n) ≡ true
other_kept m n other p e =
    let is : p.number ≡ m = eqb-true p.number m e in
    let apart : eqb p.number n ≡ false = ne_eqb p.number n (λ same. other (sym is ∙ same)) in
    rw apart refl

abbrev pair_of : RateTerms → ℕ × ℕ
pair_of r = (r.from, r.to)

abbrev same_pair : ℕ × ℕ → ℕ × ℕ → Bool
same_pair a b = eqb a.0 b.0 && eqb a.1 b.1

pub without_peer_is : (net : Net) (n : ℕ) → IsNetwork net → (NamesPeer net.routes n → ⊥) → IsNetwork (without_peer net n)
without_peer_is net n is free =
    let keep : Peer → Bool = λ p. not (eqb p.number n) in
    let keep_rate : RateTerms → Bool = λ r. not (names_peer n r) in
    let fewer = length-filter_le keep net.peers in
    let fewer_rates = length-filter_le keep_rate net.rates in
    let short = is.peers in
    let short_rates = is.few_rates in
    record {
      peers = omega arith;
      numbers = found_filter (λ (p : Peer). p.number) eqb keep net.peers is.numbers;
      tokens = found_filter (λ (p : Peer). p.terms.token) bytes_eq keep net.peers is.tokens;
      names = found_filter (λ (p : Peer). p.terms.name) bytes_eq keep net.peers is.names;
      rising = AllPairs-filter (λ p q. p.number < q.number) keep net.peers is.rising;
      next = All-filter keep (λ p. p.number < net.next_peer) net.peers is.next;
      few = is.few;
      routes = λ prefix h e. some_filter (λ p. eqb p.number h.peer) keep (other_kept h.peer n (λ same. free (prefix, h, e, same))) net.peers (is.routes prefix h e);
      senders = λ k d l.
          let r : RateTerms = get_or (filter keep_rate net.rates) k d in
          let passes : not (eqb r.from n || eqb r.to n) ≡ true = filter_passes keep_rate net.rates k d l in
          some_filter (λ p. eqb p.number r.from) keep (other_kept r.from n (not_from r passes)) net.peers
          (All-filter keep_rate (λ x. IsSome (peer_numbered x.from net.peers)) net.rates is.senders k d l);
      receivers = λ k d l.
          let r : RateTerms = get_or (filter keep_rate net.rates) k d in
          let passes : not (eqb r.from n || eqb r.to n) ≡ true = filter_passes keep_rate net.rates k d l in
          some_filter (λ p. eqb p.number r.to) keep (other_kept r.to n (not_to r passes)) net.peers
          (All-filter keep_rate (λ x. IsSome (peer_numbered x.to net.peers)) net.rates is.receivers k d l);
      rates = found_filter pair_of same_pair keep_rate net.rates is.rates;
      apart = All-filter keep_rate (λ x. eqb x.from x.to ≡ false) net.rates is.apart;
      few_rates = omega arith;
      terms = All-filter keep (λ p. are_terms_within p.terms ≡ true) net.peers is.terms;
      balances = All-filter keep (λ p. is_balance_within p.balance ≡ true) net.peers is.balances;
    }
  where
    not_from : (r : RateTerms) → not (eqb r.from n || eqb r.to n) ≡ true → r.from ≡ n → ⊥
    not_from r e same = let yes' : eqb r.from n ≡ true = eq-eqb r.from n same in true_or_false (eqb r.from n || eqb r.to n) (rw yes' refl) (not-true _ e)

    not_to : (r : RateTerms) → not (eqb r.from n || eqb r.to n) ≡ true → r.to ≡ n → ⊥
    not_to r e same = true_or_false (eqb r.to n) (eq-eqb r.to n same) (or_parts (eqb r.from n) (eqb r.to n) (not-true _ e)).1

-- ---- routes

-- rates between peers, one for each pair
record AreRates (peers : List Peer) (all : List RateTerms) : Type 0 where
  senders : All (λ r. IsSome (peer_numbered r.from peers)) all
  receivers : All (λ r. IsSome (peer_numbered r.to peers)) all
  rates : AreFound pair_of same_pair all
  apart : All (λ r. eqb r.from r.to ≡ false) all
  few_rates : length all ≤ max_rates

rates_of : (net : Net) → IsNetwork net → AreRates net.peers net.rates
rates_of net is = record { senders = is.senders; receivers = is.receivers; rates = is.rates; apart = is.apart; few_rates = is.few_rates }

-- the same peers, with other routes that lead to them, and other rates between them
among_peers : (net : Net) (next : ℕ) (routes : RouteMap) (rates : List RateTerms) → IsNetwork net → net.next_peer ≤ next → next ≤ max_peer_numbers
    → ((q : List ℕ) (m : Hop) → get routes q ≡ Some m → IsSome (peer_numbered m.peer net.peers)) → AreRates net.peers rates
    → IsNetwork (record net { next_peer = next; routes = routes; rates = rates })
among_peers net next routes rates is later few leads paid =
    record {
      peers = is.peers;
      numbers = is.numbers;
      tokens = is.tokens;
      names = is.names;
      rising = is.rising;
      next = λ k d l. let less = is.next k d l in omega arith;
      few = few;
      routes = leads;
      senders = paid.senders;
      receivers = paid.receivers;
      rates = paid.rates;
      apart = paid.apart;
      few_rates = paid.few_rates;
      terms = is.terms;
      balances = is.balances;
    }

as_before : (n : ℕ) → n ≤ n
as_before n = omega arith

-- a later number for the next peer
pub skipped_is : (net : Net) (next : ℕ) → IsNetwork net → net.next_peer ≤ next → next ≤ max_peer_numbers → IsNetwork (record net { next_peer = next })
skipped_is net next is later few = among_peers net next net.routes net.rates is later few is.routes (rates_of net is)

pub with_route_is : (net : Net) (prefix : List ℕ) (hop : Hop) → IsNetwork net → IsSome (peer_numbered hop.peer net.peers) → IsNetwork (with_route net prefix hop)
with_route_is net prefix hop is there =
    among_peers net net.next_peer (insert net.routes prefix hop) net.rates is (as_before net.next_peer) is.few leads (rates_of net is)
  where
    leads : (q : List ℕ) (m : Hop) → get (insert net.routes prefix hop) q ≡ Some m → IsSome (peer_numbered m.peer net.peers)
    leads q m e = by (eq_by_cmp (slice_cmp nat_cmp) q prefix) (sym (get-insert nat_list_cmp_total net.routes prefix hop q) ∙ e)
      where
        same : Some hop ≡ Some m → hop ≡ m
        same f = cc

        by : (b : Bool) → cond b (Some hop) (get net.routes q) ≡ Some m → IsSome (peer_numbered m.peer net.peers)
        by true f = subst (λ (h : Hop). IsSome (peer_numbered h.peer net.peers)) (same f) there
        by false f = is.routes q m f

pub without_route_is : (net : Net) (prefix : List ℕ) → IsNetwork net → IsNetwork (without_route net prefix)
without_route_is net prefix is =
    among_peers net net.next_peer (remove net.routes prefix) net.rates is (as_before net.next_peer) is.few leads (rates_of net is)
  where
    leads : (q : List ℕ) (m : Hop) → get (remove net.routes prefix) q ≡ Some m → IsSome (peer_numbered m.peer net.peers)
    leads q m e = by (eq_by_cmp (slice_cmp nat_cmp) q prefix) (sym (get-remove nat_list_cmp_total net.routes prefix q) ∙ e)
      where
        by : (b : Bool) → cond b None (get net.routes q) ≡ Some m → IsSome (peer_numbered m.peer net.peers)
        by true f = absurd cc
        by false f = is.routes q m f

-- ---- rates

same_itself : (r : RateTerms) → same_pair (pair_of r) (pair_of r) ≡ true
same_itself r = rw (eq-eqb r.from r.from refl, eq-eqb r.to r.to refl) refl

none_found : (t : RateTerms → Bool) (rs : List RateTerms) → list_any t rs ≡ false → find t rs ≡ None
none_found t [] e = refl
none_found t (r ∷ rs) e = let parts = or_parts (t r) (list_any t rs) e in rw parts.0 (none_found t rs parts.1)

pub pushed_rate_is : (net : Net) (r : RateTerms) → IsNetwork net → IsSome (peer_numbered r.from net.peers) → IsSome (peer_numbered r.to net.peers)
    → eqb r.from r.to ≡ false → has_pair r net.rates ≡ false → length net.rates < max_rates → IsNetwork (record net { rates = net.rates ++ r ∷ [] })
pushed_rate_is net r is from to apart other room =
    let count = length_push net.rates r in
    among_peers net net.next_peer net.routes (net.rates ++ r ∷ []) is (as_before net.next_peer) is.few is.routes (record {
      senders = All-push (λ x. IsSome (peer_numbered x.from net.peers)) net.rates r is.senders from;
      receivers = All-push (λ x. IsSome (peer_numbered x.to net.peers)) net.rates r is.receivers to;
      rates = found_push pair_of same_pair net.rates r is.rates (none_found (is_for_pair r.from r.to) net.rates other) (same_itself r);
      apart = All-push (λ x. eqb x.from x.to ≡ false) net.rates r is.apart apart;
      few_rates = omega arith;
    })

pub replaced_rate_is : (net : Net) (r : RateTerms) → IsNetwork net → IsSome (peer_numbered r.from net.peers) → IsSome (peer_numbered r.to net.peers)
    → eqb r.from r.to ≡ false → IsNetwork (record net { rates = replaced_rate r net.rates })
replaced_rate_is net r is from to apart =
    let put : RateTerms → RateTerms = λ q. cond (is_for_pair r.from r.to q) r q in
    let count = length-map net.rates put in
    let short = is.few_rates in
    among_peers net net.next_peer net.routes (map put net.rates) is (as_before net.next_peer) is.few is.routes (record {
      senders = All-map (λ x. IsSome (peer_numbered x.from net.peers)) put net.rates (λ k d l. either (λ x. IsSome (peer_numbered x.from net.peers)) (get_or net.rates k d) from (is.senders k d l));
      receivers = All-map (λ x. IsSome (peer_numbered x.to net.peers)) put net.rates (λ k d l. either (λ x. IsSome (peer_numbered x.to net.peers)) (get_or net.rates k d) to (is.receivers k d l));
      rates = found_map pair_of same_pair put same net.rates is.rates;
      apart = All-map (λ x. eqb x.from x.to ≡ false) put net.rates (λ k d l. either (λ x. eqb x.from x.to ≡ false) (get_or net.rates k d) apart (is.apart k d l));
      few_rates = omega arith;
    })
  where
    either : (P : RateTerms → Type 0) (q : RateTerms) → P r → P q → P (cond (is_for_pair r.from r.to q) r q)
    either P q a b = by (is_for_pair r.from r.to q)
      where
        by : (c : Bool) → P (cond c r q)
        by true = a
        by false = b

    same : (q : RateTerms) → pair_of (cond (is_for_pair r.from r.to q) r q) ≡ pair_of q
    same q = by (is_for_pair r.from r.to q) refl
      where
        by : (c : Bool) → is_for_pair r.from r.to q ≡ c → pair_of (cond c r q) ≡ pair_of q
        by true e =
            let both = and_parts (eqb q.from r.from) (eqb q.to r.to) e in
            let left : (r.from, r.to) ≡ (q.from, r.to) = ap (λ (x : ℕ). (x, r.to)) (sym (eqb-true q.from r.from both.0)) in
            left ∙ ap (λ (y : ℕ). (q.from, y)) (sym (eqb-true q.to r.to both.1))
        by false e = refl

-- a rate set
pub with_rate_is : (net : Net) (r : RateTerms) → IsNetwork net → IsSome (peer_numbered r.from net.peers) → IsSome (peer_numbered r.to net.peers)
    → eqb r.from r.to ≡ false → (has_pair r net.rates ≡ false → length net.rates < max_rates) → IsNetwork (with_rate net r)
with_rate_is net r is from to apart room = by (has_pair r net.rates) refl
  where
    by : (there : Bool) → has_pair r net.rates ≡ there → IsNetwork (with_rate net r)
    by true e = rw e (replaced_rate_is net r is from to apart)
    by false e = rw e (pushed_rate_is net r is from to apart e (room e))

-- ---- calls that may have changed the routes

pub either_routes_is : {A E : Type 0} (net : Net) (changed m : RouteMap) (r : Result A E) → IsNetwork net → IsNetwork (record net { routes = changed })
    → OnOk r (m ≡ changed) → OnErr r (m ≡ net.routes) → IsNetwork (record net { routes = m })
either_routes_is net changed m (Ok x) before after done kept = subst (λ (t : RouteMap). IsNetwork (record net { routes = t })) (sym done) after
either_routes_is net changed m (Err x) before after done kept = subst (λ (t : RouteMap). IsNetwork (record net { routes = t })) (sym kept) before

-- ---- the next period

abs_within : (b : ℤ) → b ≤ℤ pos max_money → neg_ℤ (pos max_money) ≤ℤ b → is_balance_within b ≡ true
abs_within b e f = le-leb (unsigned_abs b) max_money (omega (arith, ints))

owed_within : (s : State) (n : ℕ) → IsWithinBounds s n → is_balance_within (balance_of s n) ≡ true
owed_within s n w = abs_within (balance_of s n) (less (balance_of s n) (held_in_of s n) w.most) (more (balance_of s n) (held_out_of s n) w.least)
  where
    less : (b : ℤ) (h : ℕ) → (b +ℤ pos h) ≤ℤ pos max_money → b ≤ℤ pos max_money
    less b h e = omega (arith, ints)

    more : (b : ℤ) (h : ℕ) → neg_ℤ (pos max_money) ≤ℤ (b -ℤ pos h) → neg_ℤ (pos max_money) ≤ℤ b
    more b h e = omega (arith, ints)

pub carried_is : (s : State) (clock : ℕ) (net : Net) → ((n : ℕ) → IsWithinBounds s n) → IsNetwork net → IsNetwork (carried_net s clock net)
carried_is s clock net within is =
    changed_is net (carried s clock) (λ p. refl) (λ p. refl) (λ p. refl) (λ p e. e) (λ p e. owed_within s p.number (within p.number)) is
