-- Peers by their tokens.
use Rattle.std.proofs.Common.{arith, ◌≡◌, ◌<◌, ℕ, List, [], ◌∷◌, length, get_or, map, true, false, ◌||◌, cond, eqb, Bool, Result, Ok, Err, ap, sym, subst, ◌∙◌, refl}
use Rattle.std.specs.Prelude.{Option, Some, None, IfSome, is_some, is_ok, find, not, unwrap_or, option_map}
use Rattle.std.specs.Result.{result_err}
use Rattle.std.specs.Cmp.Lexicographic.{slice_cmp}
use Rattle.std.specs.List.{list_any, slice_get}
use Rattle.std.specs.List.Sorted.{IsBinarySearchResult, IsSearchInRange}
use Rattle.std.specs.Option.{option_map_or}
use Rattle.std.specs.Ordering.{nat_cmp, is_eq}
use Rattle.std.specs.Str.{bytes_eq}
use Rattle.std.specs.declared.cmp.Ordering.TheVariants.{Equal}
use Rattle.std.proofs.lemmas.Cmp.{nat_list_cmp_total, tied_itself}
use Rattle.std.proofs.lemmas.List.{length-map}
use Rattle.std.proofs.lemmas.Map.Text.{is_eq-slice_cmp}
use Rattle.std.proofs.lemmas.Option.{slice_get-map}
use Rattle.std.proofs.lemmas.Slice.Eq.{bytes_eq-Decides}
use Rattle.tenant_core.specs.declared.peer.Peer.{Peer}
use Rattle.tenant_core.specs.declared.terms.PeerTerms.{PeerTerms}
use Rattle.tenant_core.specs.Network.{Net, IsNetwork, is_present, peer_with_token, changed_peer}
use Rattle.tenant_core.specs.Index.{IsIndex}
use Rattle.tenant_core.specs.Places.{token, token_at, IsByToken, AreTokensApart, IsFreePlace}
use Rattle.tenant_core.proofs.Indexes.{same_keys}
use Rattle.tenant_core.proofs.Keyed.{Tests, place_within, found_place, is_found, no_item, added_index}

-- tokens compare alike where they are the same
pub token_tests : (t : List ℕ) → Tests (slice_cmp nat_cmp) token t (λ p. bytes_eq p.terms.token t)
token_tests t =
    record {
      says = λ x e. subst (λ k. slice_cmp nat_cmp x.terms.token k ≡ Equal) ((bytes_eq-Decides x.terms.token t).0 e) (tied_itself nat_list_cmp_total x.terms.token);
      passes = λ x tie. sym (is_eq-slice_cmp x.terms.token t) ∙ ap is_eq tie;
    }

-- no two peers of a network have one token: each would be found by it, and their numbers differ
pub tokens_apart : (net : Net) → IsNetwork net → AreTokensApart net.peers
tokens_apart net is i j d lt h tie =
    let p : Peer = get_or net.peers i d in
    let q : Peer = get_or net.peers j d in
    let one : find (λ x. bytes_eq x.terms.token p.terms.token) net.peers ≡ Some p = is.tokens i d (omega arith) in
    let two : find (λ x. bytes_eq x.terms.token q.terms.token) net.peers ≡ Some q = is.tokens j d h in
    let same : p.terms.token ≡ q.terms.token = (bytes_eq-Decides p.terms.token q.terms.token).0 ((token_tests q.terms.token).passes p tie) in
    let found : Some p ≡ Some q = sym one ∙ (ap (λ t. find (λ x. bytes_eq x.terms.token t) net.peers) same ∙ two) in
    let number : p.number ≡ q.number = cc in
    let less : p.number < q.number = is.rising i j d lt h in
    omega arith

-- the token at a place of a list of them
token_of_map : (peers : List Peer) (k : ℕ) → token_at peers k ≡ unwrap_or (slice_get (map token peers) k) []
token_of_map peers k = rw (slice_get-map token peers k) (by (slice_get peers k))
  where
    by : (o : Option Peer) → option_map_or token o [] ≡ unwrap_or (option_map token o) []
    by None = refl
    by (Some p) = refl

-- other peers with the same tokens have the same index
pub same_tokens : (peers others : List Peer) (order : List ℕ) → map token others ≡ map token peers → IsByToken peers order → IsByToken others order
same_tokens peers others order same index =
    let long : length others ≡ length peers = sym (length-map others token) ∙ (ap length same ∙ length-map peers token) in
    subst (λ n. IsIndex (slice_cmp nat_cmp) (token_at others) n order) (sym long)
    (same_keys nat_list_cmp_total (token_at peers) (length peers) order index (token_at others) (λ p l.
    token_of_map others p ∙ (ap (λ ts. unwrap_or (slice_get ts p) []) same ∙ sym (token_of_map peers p))))

-- changes that keep tokens
pub tokens_stay : (change : Peer → Peer) → ((p : Peer) → token (change p) ≡ token p) → (peers : List Peer) → map token (map change peers) ≡ map token peers
tokens_stay change same [] = refl
tokens_stay change same (p ∷ peers) = rw (same p, tokens_stay change same peers) refl

-- a change of one peer that keeps its token
pub token_stays : (change : Peer → Peer) (n : ℕ) → ((p : Peer) → token (change p) ≡ token p) → (peers : List Peer)
    → map token (changed_peer change n peers) ≡ map token peers
token_stays change n same peers = tokens_stay (λ p. cond (eqb p.number n) (change p) p) (λ p. by (eqb p.number n) p) peers
  where
    by : (b : Bool) (p : Peer) → token (cond b (change p) p) ≡ token p
    by true p = same p
    by false p = refl

-- a peer is like these terms where one has the name, or one has the token
present_is : (peers : List Peer) (t : PeerTerms)
    → is_present peers t ≡ (list_any (λ p. bytes_eq p.terms.name t.name) peers || list_any (λ p. bytes_eq p.terms.token t.token) peers)
present_is [] t = refl
present_is (p ∷ peers) t =
    by (bytes_eq p.terms.name t.name) (bytes_eq p.terms.token t.token) (list_any (λ q. bytes_eq q.terms.name t.name) peers)
    (list_any (λ q. bytes_eq q.terms.token t.token) peers) (is_present peers t) (present_is peers t)
  where
    by : (a b x y rest : Bool) → rest ≡ (x || y) → ((a || b) || rest) ≡ ((a || x) || (b || y))
    by true b x y rest e = refl
    by false true true y rest e = refl
    by false true false y rest e = refl
    by false false x y rest e = e

-- the name is there
pub present_name : (peers : List Peer) (t : PeerTerms) → list_any (λ p. bytes_eq p.terms.name t.name) peers ≡ true → is_present peers t ≡ true
present_name peers t e = present_is peers t ∙ ap (λ b. b || list_any (λ p. bytes_eq p.terms.token t.token) peers) e

-- ---- a search by a token

module _ (peers : List Peer) (order : List ℕ) (index : IsByToken peers order) where
  -- an entry of the order is a place
  pub token_within : (at p : ℕ) → at < length order → p ≡ get_or order at p → p < length peers
  token_within at p h entry =
      subst (λ q. q < length peers) (sym entry) (place_within nat_list_cmp_total token [] peers order index at p h)

  module _ (t : List ℕ) where
    -- the peer at the place that was found is the one that shows the token
    pub token_here : AreTokensApart peers → (at p : ℕ) → at < length order → p ≡ get_or order at p
        → slice_cmp nat_cmp (token_at peers (get_or order at p)) t ≡ Equal → slice_get peers p ≡ peer_with_token t peers
    token_here = found_place nat_list_cmp_total token [] peers order index t (λ p. bytes_eq p.terms.token t) (token_tests t)

    -- where no place was found, no peer shows the token
    pub token_nowhere : (at : ℕ) → IsBinarySearchResult (λ p. slice_cmp nat_cmp (token_at peers p) t) order (Err at)
        → peer_with_token t peers ≡ None
    token_nowhere = no_item nat_list_cmp_total token [] peers order index t (λ p. bytes_eq p.terms.token t) (token_tests t)

  -- where no peer has the name, there is a free place just where none has the token
  pub free_at : (t : PeerTerms) → list_any (λ p. bytes_eq p.terms.name t.name) peers ≡ false
      → (r : Result ℕ ℕ) → IsSearchInRange r (length order) → IsBinarySearchResult (λ p. slice_cmp nat_cmp (token_at peers p) t.token) order r
      → (is_some (result_err r) ≡ not (is_present peers t)) × IfSome (result_err r) (λ at. IsFreePlace peers order t.token at)
  free_at t unnamed r within searched = (count r present, place r within searched)
    where
      tests : Tests (slice_cmp nat_cmp) token t.token (λ p. bytes_eq p.terms.token t.token)
      tests = token_tests t.token

      present : is_present peers t ≡ is_ok r
      present =
          present_is peers t ∙ ap (λ b. b || list_any (λ p. bytes_eq p.terms.token t.token) peers) unnamed
          ∙ is_found nat_list_cmp_total token [] peers order index t.token (λ p. bytes_eq p.terms.token t.token) tests r within searched

      count : (r : Result ℕ ℕ) → is_present peers t ≡ is_ok r → is_some (result_err r) ≡ not (is_present peers t)
      count (Ok at) e = rw e refl
      count (Err at) e = rw e refl

      place : (r : Result ℕ ℕ) → IsSearchInRange r (length order) → IsBinarySearchResult (λ p. slice_cmp nat_cmp (token_at peers p) t.token) order r
          → IfSome (result_err r) (λ at. IsFreePlace peers order t.token at)
      place (Ok at) h e = tt
      place (Err at) h e =
          record {
            within = h;
            ordered = λ p same. added_index nat_list_cmp_total token [] peers order index t.token (λ q. bytes_eq q.terms.token t.token) tests at e p same h;
          }
