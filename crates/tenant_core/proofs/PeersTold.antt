-- The peers that records leave, read off the records.
use Rattle.std.proofs.Common.{◌≡◌, ℕ, true, false, not, cond, eqb, ◌||◌, List, [], ◌∷◌, ◌++◌, map, refl, sym, ap, ◌∙◌}
use Rattle.std.specs.Prelude.{fold}
use Rattle.std.specs.List.{filter, flat_map, list_any}
use Rattle.std.proofs.lemmas.Grind.{flat_map-append}
use Rattle.std.proofs.lemmas.List.{append-nil, append_assoc, map-append}
use Rattle.tenant_core.specs.Network.{Net, changed_peer}
use Rattle.tenant_core.specs.Peers.{Agreed, agreed_with, is_removal, takes_away, limits_set, limits_by, bucket_set, bucket_by, agreed_after, left_by, added_in, added_by}
use Rattle.tenant_core.specs.Peers.{next_in, next_by, peers_added, PeerLaw}
use Rattle.tenant_core.specs.Present.{Told, told_after, network_of, changed, net_after}
use Rattle.tenant_core.specs.State.{State, opened}
use Rattle.tenant_core.specs.declared.journal.Change.{Change as Changed}
use Rattle.tenant_core.specs.declared.journal.Change.TheVariants.{PeerAdded, PeerRemoved, LimitsSet, BucketSet, RouteAdded, RouteRemoved, RateSet, Settled}
use Rattle.tenant_core.specs.declared.journal.Entry.{Entry}
use Rattle.tenant_core.specs.declared.journal.Entry.TheVariants.{Decide, Answer, Tick, Change, Roll}
use Rattle.tenant_core.specs.declared.journal.Record.{Record}
use Rattle.tenant_core.specs.declared.peer.Level.{Level}
use Rattle.tenant_core.specs.declared.peer.Peer.{Peer}

-- ---- one entry

-- a peer after one entry, unless that takes it away
abbrev once : Entry → Agreed → Agreed
once e p =
    record p {
      terms = record p.terms {
        limits = limits_by p.number p.terms.limits e;
        bucket = bucket_by p.number p.terms.bucket e;
      };
    }

abbrev one : Entry → Agreed → List Agreed
one e p = cond (takes_away p.number e) [] (once e p ∷ [])

-- the peer that an entry adds, as it comes
abbrev new_in : ℕ → Changed → List Agreed
new_in next (PeerAdded t) = record { number = next; terms = t } ∷ []
new_in next _ = []

abbrev new_by : ℕ → Entry → List Agreed
new_by next (Change c) = new_in next c.change
new_by next _ = []

singles : (ps : List Agreed) → flat_map (λ (p : Agreed). p ∷ []) ps ≡ ps
singles [] = refl
singles (p ∷ ps) = ap (λ qs. p ∷ qs) (singles ps)

-- an entry, and those behind it
first : (r : Record) (rs : List Record) (p : Agreed) → left_by (r ∷ rs) p ≡ flat_map (left_by rs) (one r.entry p)
first r rs p =
    elim (takes_away p.number r.entry) as (λ b. cond (b || list_any (λ (q : Record). takes_away p.number q.entry) rs) [] (agreed_after (r ∷ rs) p ∷ []) ≡ flat_map (left_by rs) (cond b [] (once r.entry p ∷ []))) [
      | true ↦ refl
      | false ↦ sym (append-nil (left_by rs (once r.entry p)))
    ]

each_first : (r : Record) (rs : List Record) (ps : List Agreed) → flat_map (left_by (r ∷ rs)) ps ≡ flat_map (left_by rs) (flat_map (one r.entry) ps)
each_first r rs [] = refl
each_first r rs (p ∷ ps) =
    (λ i. first r rs p i ++ each_first r rs ps i)
    ∙ sym (flat_map-append (left_by rs) (one r.entry p) (flat_map (one r.entry) ps))

new_left : (next : ℕ) (e : Entry) (rs : List Record) → flat_map (left_by rs) (new_by next e) ≡ added_by next e rs
new_left next (Decide d) rs = refl
new_left next (Answer a) rs = refl
new_left next (Tick t) rs = refl
new_left next (Roll r) rs = refl
new_left next (Change c) rs = in_change c.change
  where
    in_change : (c : Changed) → flat_map (left_by rs) (new_in next c) ≡ added_in next c rs
    in_change (PeerAdded t) = append-nil (left_by rs (record { number = next; terms = t }))
    in_change (PeerRemoved n) = refl
    in_change (LimitsSet n limits) = refl
    in_change (BucketSet n bucket) = refl
    in_change (RouteAdded prefix hop) = refl
    in_change (RouteRemoved prefix) = refl
    in_change (RateSet rate) = refl
    in_change (Settled n side amount) = refl

-- ---- what an entry makes of a network

-- what a change makes of each peer
abbrev by_change : Changed → Agreed → List Agreed
by_change c p =
    cond (is_removal p.number c) []
    (record p { terms = record p.terms { limits = limits_set p.number p.terms.limits c; bucket = bucket_set p.number p.terms.bucket c } } ∷ [])

removed : (n : ℕ) (ps : List Peer) → map agreed_with (filter (λ p. not (eqb p.number n)) ps) ≡ flat_map (by_change (PeerRemoved n)) (map agreed_with ps)
removed n [] = refl
removed n (p ∷ ps) =
    elim (eqb p.number n) as
    (λ b. map agreed_with (cond (not b) (p ∷ filter (λ q. not (eqb q.number n)) ps) (filter (λ q. not (eqb q.number n)) ps))
    ≡ cond b [] (agreed_with p ∷ []) ++ flat_map (by_change (PeerRemoved n)) (map agreed_with ps)) [
      | true ↦ removed n ps
      | false ↦ ap (λ qs. agreed_with p ∷ qs) (removed n ps)
    ]

-- a change of one peer
mapped : (f : Peer → Peer) (n : ℕ) (c : Changed) (ps : List Peer)
    → ((p : Peer) → agreed_with (cond (eqb p.number n) (f p) p) ∷ [] ≡ by_change c (agreed_with p))
    → map agreed_with (changed_peer f n ps) ≡ flat_map (by_change c) (map agreed_with ps)
mapped f n c [] each = refl
mapped f n c (p ∷ ps) each = λ i. each p i ++ mapped f n c ps each i

peers_after : (net : Net) (c : Changed) (level : Level) → map agreed_with (changed net c level).peers ≡ flat_map (by_change c) (map agreed_with net.peers) ++ new_in net.next_peer c
peers_after net (PeerAdded t) level =
    map-append agreed_with net.peers _ ∙ ap (λ ps. ps ++ record { number = net.next_peer; terms = t } ∷ []) (sym (singles (map agreed_with net.peers)))
peers_after net (PeerRemoved n) level = removed n net.peers ∙ sym (append-nil _)
peers_after net (LimitsSet n limits) level =
    mapped (λ p. record p { terms = record p.terms { limits = limits } }) n (LimitsSet n limits) net.peers
    (λ p. elim (eqb p.number n) as
    (λ b. agreed_with (cond b (record p { terms = record p.terms { limits = limits } }) p) ∷ []
    ≡ record { number = p.number; terms = record p.terms { limits = cond b limits p.terms.limits } } ∷ []) [ true ↦ refl | false ↦ refl ])
    ∙ sym (append-nil _)
peers_after net (BucketSet n bucket) level =
    mapped (λ p. record p { terms = record p.terms { bucket = bucket }; bucket = level }) n (BucketSet n bucket) net.peers
    (λ p. elim (eqb p.number n) as
    (λ b. agreed_with (cond b (record p { terms = record p.terms { bucket = bucket }; bucket = level }) p) ∷ []
    ≡ record { number = p.number; terms = record p.terms { bucket = cond b bucket p.terms.bucket } } ∷ []) [ true ↦ refl | false ↦ refl ])
    ∙ sym (append-nil _)
peers_after net (RouteAdded prefix hop) level = sym (append-nil _ ∙ singles (map agreed_with net.peers))
peers_after net (RouteRemoved prefix) level = sym (append-nil _ ∙ singles (map agreed_with net.peers))
peers_after net (RateSet rate) level = sym (append-nil _ ∙ singles (map agreed_with net.peers))
peers_after net (Settled n side amount) level = sym (append-nil _ ∙ singles (map agreed_with net.peers))

next_is : (net : Net) (c : Changed) (level : Level) → (changed net c level).next_peer ≡ next_in net.next_peer c
next_is net (PeerAdded t) level = refl
next_is net (PeerRemoved n) level = refl
next_is net (LimitsSet n limits) level = refl
next_is net (BucketSet n bucket) level = refl
next_is net (RouteAdded prefix hop) level = refl
next_is net (RouteRemoved prefix) level = refl
next_is net (RateSet rate) level = refl
next_is net (Settled n side amount) level = refl

-- what an entry makes of the peers, and of the next one's number
pub record IsEntered (before after : Net) (e : Entry) : Type 0 where
  pub peers : map agreed_with after.peers ≡ flat_map (one e) (map agreed_with before.peers) ++ new_by before.next_peer e
  pub next : after.next_peer ≡ next_by before.next_peer e

unchanged : (net : Net) → map agreed_with net.peers ≡ flat_map (λ (p : Agreed). p ∷ []) (map agreed_with net.peers) ++ []
unchanged net = sym (append-nil _ ∙ singles (map agreed_with net.peers))

entered : (s : State) (net : Net) (clock : ℕ) (e : Entry) → IsEntered net (net_after s net clock e) e
entered s net clock (Decide d) = record { peers = unchanged net; next = refl }
entered s net clock (Answer a) = record { peers = unchanged net; next = refl }
entered s net clock (Tick t) = record { peers = unchanged net; next = refl }
entered s net clock (Roll r) = record { peers = unchanged net; next = refl }
entered s net clock (Change c) = record { peers = peers_after net c.change _; next = next_is net c.change _ }

-- ---- all records

from_here : (rs : List Record) (t : Told) → map agreed_with (fold told_after t rs).net.peers
    ≡ flat_map (left_by rs) (map agreed_with t.net.peers) ++ peers_added t.net.next_peer rs
from_here [] t = unchanged t.net
from_here (r ∷ rs) t =
    let is : IsEntered t.net (told_after t r).net r.entry = entered t.state t.net _ r.entry in
    from_here rs (told_after t r)
    ∙ (λ i. flat_map (left_by rs) (is.peers i) ++ peers_added (is.next i) rs)
    ∙ ap (λ ps. ps ++ peers_added (next_by t.net.next_peer r.entry) rs)
    (flat_map-append (left_by rs) (flat_map (one r.entry) (map agreed_with t.net.peers)) (new_by t.net.next_peer r.entry)
    ∙ (λ i. sym (each_first r rs (map agreed_with t.net.peers)) i ++ new_left t.net.next_peer r.entry rs i))
    ∙ append_assoc (flat_map (left_by (r ∷ rs)) (map agreed_with t.net.peers)) (added_by t.net.next_peer r.entry rs) (peers_added (next_by t.net.next_peer r.entry) rs)

pub peer_law : PeerLaw
unfolding network_of
peer_law s = from_here s.records (record { state = opened s.opening; net = s.opening.network })
