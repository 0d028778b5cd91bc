-- The places of peers and rates: in which order they are, and how they are found.
use Rattle.std.specs.Prelude.{ℕ, ◌≡◌, ◌≤◌, List, [], ◌∷◌, ◌++◌, length}
use Rattle.std.specs.Cmp.Lexicographic.{slice_cmp}
use Rattle.std.specs.List.{insert}
use Rattle.std.specs.Ordering.{nat_cmp, ordering_then}
use Rattle.std.specs.declared.cmp.Ordering.{Ordering}
use Rattle.tenant_core.specs.Index.{IsIndex, AreApart, key_at}
use Rattle.tenant_core.specs.declared.peer.Peer.{Peer}
use Rattle.tenant_core.specs.declared.terms.RateTerms.{RateTerms}

-- ---- peers, by their tokens

-- the token of a peer
abbrev pub token : Peer → List ℕ
token p = p.terms.token

-- the token of the peer at that place, or no byte if there is none
abbrev pub token_at : List Peer → ℕ → List ℕ
token_at = key_at token []

-- the places of the peers, in the order of their tokens
abbrev pub IsByToken : List Peer → List ℕ → Type 0
IsByToken peers order = IsIndex (slice_cmp nat_cmp) (token_at peers) (length peers) order

-- no two peers have one token
abbrev pub AreTokensApart : List Peer → Type 0
AreTokensApart peers = AreApart (slice_cmp nat_cmp) token peers

-- `at` is the index for one peer more in the order, if that peer comes last and has this token
pub record IsFreePlace (peers : List Peer) (order : List ℕ) (t : List ℕ) (at : ℕ) : Type 0 where
  pub within : at ≤ length order
  pub ordered : (p : Peer) → token p ≡ t → IsByToken (peers ++ p ∷ []) (insert order at (length peers))

-- ---- rates, by their pairs

-- by the sender, and then by the receiver
abbrev pub pair_cmp : ℕ × ℕ → ℕ × ℕ → Ordering
pair_cmp a b = ordering_then (nat_cmp a.0 b.0) (nat_cmp a.1 b.1)

-- the pair of a rate
abbrev pub pair : RateTerms → ℕ × ℕ
pair r = (r.from, r.to)

-- the pair of the rate at that place, or zeros if there is none
abbrev pub pair_at : List RateTerms → ℕ → ℕ × ℕ
pair_at = key_at pair (0, 0)

-- the places of the rates, in the order of their pairs
abbrev pub IsByPair : List RateTerms → List ℕ → Type 0
IsByPair rates order = IsIndex pair_cmp (pair_at rates) (length rates) order

-- no two rates have one pair
abbrev pub ArePairsApart : List RateTerms → Type 0
ArePairsApart rates = AreApart pair_cmp pair rates
