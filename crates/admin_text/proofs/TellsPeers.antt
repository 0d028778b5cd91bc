-- What readers find in the tables of peers.
use Rattle.std.proofs.Common.{◌≡◌, ◌<◌, ◌≤◌, ◌+◌, ◌^◌, ℕ, Bool, true, false, suc, List, [], ◌∷◌, ◌++◌, length, Option, Some, None, refl, sym, ap, ◌∙◌, arith, inl, inr}
use Rattle.std.specs.Prelude.{codes, nat_lt, nat_le, ◌||◌}
use Rattle.std.specs.FinMap.{empty}
use Rattle.std.specs.List.{AllByRecursion, AllPairs, find, slice_index_or}
use Rattle.std.specs.Option.{option_map_or}
use Rattle.std.proofs.lemmas.List.{append-nil, append_assoc, length_push}
use Rattle.std.proofs.lemmas.List.Elements.{recursion_from_All}
use Rattle.std.proofs.lemmas.Slice.Eq.{bytes_eq-Decides}
use Rattle.route_table.specs.Routes.{RouteMap}
use Rattle.tenant_core.specs.declared.terms.RateTerms.{RateTerms}
use Rattle.std.specs.Str.{bytes_eq}
use Rattle.std.proofs.lemmas.Bool.{cases_Bool}
use Rattle.std.proofs.lemmas.Bool.Decides.{nat_tests}
use Rattle.std.proofs.lemmas.List.Folds.{list_any-append}
use Rattle.toml.specs.Data.{string, Items, no_items, item, Members, get_member}
use Rattle.common_types.specs.Numbers.{is_between}
use Rattle.ilp_addr.specs.Laws.{TargetLaws}
use Rattle.ildcp_core.specs.declared.child.Role.{Role}
use Rattle.ildcp_core.specs.declared.child.Role.TheVariants.{Child, Peer as PeerRole}
use Rattle.money_core.specs.Account.{max_money}
use Rattle.tenant_core.specs.Limits.{max_peers, max_peer_numbers}
use Rattle.tenant_core.specs.Network.{Net, nobody, IsNetwork, is_present, peer_refusal, with_peer}
use Rattle.tenant_core.specs.declared.peer.Peer.{Peer}
use Rattle.tenant_core.specs.declared.terms.PeerTerms.{PeerTerms}
use Rattle.admin_text.specs.Anew.{peers_from}
use Rattle.admin_text.specs.Fields.{role_word}
use Rattle.admin_text.specs.Keys.{string_under, integer_under, number_under, between_under, integer_or}
use Rattle.admin_text.specs.Fields.{role_of}
use Rattle.admin_text.specs.Under.{under, peer_terms_of, starting_balance}
use Rattle.admin_text.specs.Made.{peer_members, number_data}
use Rattle.admin_text.specs.Networks.{no_level, with_peers_of}
use Rattle.admin_text.specs.Told.{AllTold, IsKnown, TellsPeer}

-- ---- one key

pub text_there : (key : List ℕ) (ms : Members) (s : List ℕ) → get_member key ms ≡ Some (string s) → string_under key ms ≡ Some s
unfolding string_under
text_there key ms s e = rw e refl

pub word_there : (key : List ℕ) (ms : Members) (n : ℕ) → get_member key ms ≡ Some (number_data n) → n ≤ max_money → number_under key ms ≡ Some n
unfolding number_under integer_under
word_there key ms n e h =
    let below : nat_lt n (2 ^ 64) ≡ true = grind (arith, nat_tests) in
    rw (e, below) refl

pub most : (low high n : ℕ) → is_between low high n ≡ true → n ≤ high
most low high n e = grind (arith, nat_tests)

pub between_there : (low high : ℕ) (key : List ℕ) (ms : Members) (n : ℕ) → get_member key ms ≡ Some (number_data n) → is_between low high n ≡ true → high ≤ max_money → between_under low high key ms ≡ Some n
unfolding between_under
between_there low high key ms n e h fits =
    let small = most low high n h in
    rw (word_there key ms n e (omega arith), h) refl

role_again : (r : Role) → role_of (role_word r) ≡ Some r
role_again Child = refl
role_again PeerRole = refl

-- ---- one peer

pub terms_read : TargetLaws → (p : Peer) → IsKnown p → peer_terms_of (peer_members p) ≡ Some p.terms
unfolding peer_terms_of under peer_members
terms_read laws p k =
    let ms : Members = peer_members p in
    let name = k.0 in
    let token = name.1.1 in
    let target = token.1 in
    let asset = target.1 in
    let scale = asset.1 in
    let limits = scale.1.0 in
    let bucket = scale.1.1.0 in
    rw (
      text_there (codes "name") ms p.terms.name refl,
      name.0,
      text_there (codes "role") ms (role_word p.terms.role) refl,
      role_again p.terms.role,
      text_there (codes "token") ms p.terms.token refl,
      token.0,
      text_there (codes "url") ms p.terms.target.url refl,
      text_there (codes "out_token") ms p.terms.target.token refl,
      laws.target_is_read p.terms.target.url p.terms.target.token p.terms.target target.0,
      text_there (codes "asset") ms p.terms.asset refl,
      asset.0,
      between_there 0 255 (codes "scale") ms p.terms.scale refl scale.0 (omega arith),
      between_there 0 max_money (codes "cap") ms p.terms.limits.cap refl limits.0 (omega arith),
      between_there 0 max_money (codes "ceiling") ms p.terms.limits.ceiling refl limits.1.0 (omega arith),
      between_there 0 max_money (codes "credit") ms p.terms.limits.credit refl limits.1.1.0 (omega arith),
      between_there 1 1_000_000 (codes "burst") ms p.terms.bucket.burst refl bucket.0 (omega arith),
      between_there 0 1_000_000 (codes "per_second") ms p.terms.bucket.per_second refl bucket.1 (omega arith),
    ) refl

pub balance_read : (p : Peer) → IsKnown p → starting_balance (peer_members p) ≡ Some p.balance
unfolding starting_balance integer_or integer_under peer_members
balance_read p k = rw k.1 refl

-- ---- all peers

-- no two have one name or one token
abbrev pub clash : PeerTerms → Peer → Bool
clash t p = bytes_eq p.terms.name t.name || bytes_eq p.terms.token t.token

-- each may be added behind those before it
abbrev pub CanFollow : Net → List Peer → Type 0
CanFollow net [] = Unit {0}
CanFollow net (p ∷ peers) = (peer_refusal net p.terms ≡ None) × CanFollow (with_peer net p.terms p.balance no_level) peers

-- the network with peers more
abbrev pub with_peers : Net → List Peer → Net
with_peers net [] = net
with_peers net (p ∷ peers) = with_peers (with_peer net p.terms p.balance no_level) peers

pub peers_read : TargetLaws → (net : Net) (items : Items) (peers : List Peer) → AllTold TellsPeer items peers → CanFollow net peers → with_peers_of net items ≡ Some (with_peers net peers)
unfolding with_peers_of
peers_read laws net no_items [] told can = refl
peers_read laws net no_items (p ∷ peers) told can = absurd told
peers_read laws net (item d ds) [] told can = absurd told
peers_read laws net (item d ds) (p ∷ peers) told can =
    rw (told.0.0, terms_read laws p told.0.1, balance_read p told.0.1, can.0)
    (peers_read laws (with_peer net p.terms p.balance no_level) ds peers told.1 can.1)

-- ---- how they are numbered

abbrev net_with : ℕ → List Peer → RouteMap → List RateTerms → Net
net_with next peers routes rates = record { next_peer = next; peers = peers; routes = routes; rates = rates }

with_all : (next : ℕ) (there peers : List Peer) (routes : RouteMap) (rates : List RateTerms)
    → with_peers (net_with next there routes rates) peers ≡ net_with (next + length peers) (there ++ peers_from next peers) routes rates
with_all next there [] routes rates =
    let n : next ≡ next + 0 = omega arith in
    λ i. net_with (n i) (sym (append-nil there) i) routes rates
with_all next there (p ∷ peers) routes rates =
    let q : Peer = record p { number = next; bucket = no_level } in
    let n : (next + 1) + length peers ≡ next + length (p ∷ peers) = omega arith in
    let list : (there ++ q ∷ []) ++ peers_from (next + 1) peers ≡ there ++ peers_from next (p ∷ peers) = append_assoc there (q ∷ []) (peers_from (next + 1) peers) in
    with_all (next + 1) (there ++ q ∷ []) peers routes rates ∙ (λ i. net_with (n i) (list i) routes rates)

pub from_nobody : (peers : List Peer) → with_peers nobody peers ≡ net_with (length peers) (peers_from 0 peers) empty []
from_nobody peers =
    let n : 0 + length peers ≡ length peers = omega arith in
    with_all 0 [] peers empty [] ∙ (λ i. net_with (n i) (peers_from 0 peers) empty [])

-- ---- none is refused

-- no two clash
abbrev Apart : List Peer → Type 0
Apart [] = Unit {0}
Apart (p ∷ peers) = AllByRecursion (λ q. clash q.terms p ≡ false) peers × Apart peers

no_refusal : (net : Net) (t : PeerTerms) → is_present net.peers t ≡ false → length net.peers < max_peers → net.next_peer < max_peer_numbers → peer_refusal net t ≡ None
no_refusal net t absent few numbers =
    let a : nat_le max_peers (length net.peers) ≡ false = grind (arith, nat_tests) in
    let b : nat_le max_peer_numbers net.next_peer ≡ false = grind (arith, nat_tests) in
    rw (absent, a, b) refl

present_later : (there : List Peer) (p : Peer) (peers : List Peer) → AllByRecursion (λ q. is_present there q.terms ≡ false) peers → AllByRecursion (λ q. clash q.terms p ≡ false) peers
    → AllByRecursion (λ q. is_present (there ++ p ∷ []) q.terms ≡ false) peers
present_later there p [] absent apart = tt
present_later there p (q ∷ peers) absent apart =
    (list_any-append (clash q.terms) there (p ∷ []) ∙ rw (absent.0, apart.0) refl, present_later there p peers absent.1 apart.1)

can_follow : (net : Net) (peers : List Peer) → AllByRecursion (λ q. is_present net.peers q.terms ≡ false) peers → Apart peers → length net.peers + length peers ≤ max_peers
    → net.next_peer ≡ length net.peers → CanFollow net peers
can_follow net [] absent apart few next = tt
can_follow net (p ∷ peers) absent apart few next =
    let q : Peer = record p { number = net.next_peer; bucket = no_level } in
    let longer = length_push net.peers q in (
      no_refusal net p.terms absent.0 (omega arith) (omega arith),
      can_follow (with_peer net p.terms p.balance no_level) peers (present_later net.peers q peers absent.1 apart.0) apart.1 (omega arith) (omega arith),
    )

nobody_present : (peers : List Peer) → AllByRecursion (λ q. is_present [] q.terms ≡ false) peers
nobody_present [] = tt
nobody_present (p ∷ peers) = (refl, nobody_present peers)

-- the peers of a network are told apart by their names and by their tokens
pub same_text : (a b : List ℕ) → bytes_eq a b ≡ true → a ≡ b
same_text a b e = (bytes_eq-Decides a b).0 e

not_one : (f g : Peer → Bool) (all : List Peer) (p q : Peer) → f ≡ g → find f all ≡ Some p → find g all ≡ Some q → p.number < q.number → ⊥
not_one f g all p q same a b less =
    let e : Some p ≡ Some q = sym a ∙ ap (λ (h : Peer → Bool). find h all) same ∙ b in
    let n : p.number ≡ q.number = ap (λ (o : Option Peer). option_map_or (λ (x : Peer). x.number) o 0) e in
    omega arith

no_clash : (net : Net) → IsNetwork net → (i j : ℕ) (d : Peer) → i < j → j < length net.peers → clash (slice_index_or net.peers j d).terms (slice_index_or net.peers i d) ≡ false
no_clash net k i j d less inside =
    let p : Peer = slice_index_or net.peers i d in
    let q : Peer = slice_index_or net.peers j d in
    let before : p.number < q.number = k.rising i j d less inside in
    let first : i < length net.peers = omega arith in
    let names : bytes_eq p.terms.name q.terms.name ≡ false =
    elim (cases_Bool (bytes_eq p.terms.name q.terms.name)) [
      | inl e ↦ absurd (not_one (λ x. bytes_eq x.terms.name p.terms.name) (λ x. bytes_eq x.terms.name q.terms.name) net.peers p q
          (ap {B = Peer → Bool} (λ n x. bytes_eq x.terms.name n) (same_text _ _ e)) (k.names i d first) (k.names j d inside) before)
      | inr e ↦ e
    ] in
    let tokens : bytes_eq p.terms.token q.terms.token ≡ false =
    elim (cases_Bool (bytes_eq p.terms.token q.terms.token)) [
      | inl e ↦ absurd (not_one (λ x. bytes_eq x.terms.token p.terms.token) (λ x. bytes_eq x.terms.token q.terms.token) net.peers p q
          (ap {B = Peer → Bool} (λ n x. bytes_eq x.terms.token n) (same_text _ _ e)) (k.tokens i d first) (k.tokens j d inside) before)
      | inr e ↦ e
    ] in
    rw (names, tokens) refl

apart_from : (peers : List Peer) → AllPairs (λ p q. clash q.terms p ≡ false) peers → Apart peers
apart_from [] h = tt
apart_from (p ∷ peers) h = (
  recursion_from_All (λ q. clash q.terms p ≡ false) peers (λ k d l. h 0 (suc k) d (omega arith) (omega arith)),
  apart_from peers (λ i j d l m. h (suc i) (suc j) d (omega arith) (omega arith)),
)

pub all_follow : (net : Net) → IsNetwork net → CanFollow nobody net.peers
all_follow net k =
    let few = k.peers in
    can_follow nobody net.peers (nobody_present net.peers) (apart_from net.peers (λ i j d l m. no_clash net k i j d l m)) (omega arith) refl
