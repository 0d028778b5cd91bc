-- Peers by their numbers, which rise along the list.
use Rattle.std.proofs.Common.{arith, ◌≡◌, ◌≢◌, ◌<◌, ◌+◌, ℕ, List, length, get_or, eqb, Err, ap, sym, ◌∙◌, inl, inr}
use Rattle.std.specs.Prelude.{Some, None, Result, Ok, option_and_then}
use Rattle.std.specs.Result.{result_ok}
use Rattle.std.specs.Cmp.{nat_cmp_is}
use Rattle.std.specs.List.{AllPairs, slice_get}
use Rattle.std.specs.List.Sorted.{IsBinarySearchResult, IsPartitionPoint, IsSearchInRange, IsSortedBy}
use Rattle.std.specs.Ordering.{nat_cmp, is_lt}
use Rattle.std.specs.declared.cmp.Ordering.TheVariants.{Less, Equal, Greater}
use Rattle.std.proofs.lemmas.Bool.{cases_lt, cases_eq, ne_eqb, eq-eqb, eqb-true}
use Rattle.std.proofs.lemmas.Cmp.{nat_cmp_total}
use Rattle.std.proofs.lemmas.List.Sorted.{searchable_from_sorted}
use Rattle.std.proofs.lemmas.Map.Lookups.{exact_unsigned}
use Rattle.std.proofs.lemmas.Option.{slice_get_within, get_or_from_slice_get, slice_get_cases}
use Rattle.tenant_core.specs.Index.{AreApart}
use Rattle.tenant_core.specs.Network.{peer_numbered}
use Rattle.tenant_core.specs.declared.peer.Peer.{Peer}
use Rattle.tenant_core.proofs.Finds.{found, missing}
use Rattle.tenant_core.proofs.Keyed.{Tests}

-- each peer has a lesser number than those that were added later
abbrev pub AreRising : List Peer → Type 0
AreRising peers = AllPairs (λ p q. p.number < q.number) peers

-- the peer at the earlier place has the lesser number
rising_at : (peers : List Peer) → AreRising peers → (i j : ℕ) (p q : Peer) → slice_get peers i ≡ Some p → slice_get peers j ≡ Some q
    → i < j → p.number < q.number
rising_at peers rising i j p q at_i at_j lt =
    let here : get_or peers i p ≡ p = get_or_from_slice_get peers i p p at_i in
    let there : get_or peers j p ≡ q = get_or_from_slice_get peers j q p at_j in
    let less = rising i j p lt (slice_get_within peers j q at_j) in
    rw (here, there) at less

-- two places are one where their peers have one number
pub place_is : (peers : List Peer) → AllPairs (λ p q. p.number < q.number) peers → (i j : ℕ) (p q : Peer) → slice_get peers i ≡ Some p
    → slice_get peers j ≡ Some q → eqb i j ≡ eqb p.number q.number
place_is peers rising i j p q at_i at_j = elim (cases_lt i j) [
  | inl lt ↦ (let less = rising_at peers rising i j p q at_i at_j lt in
      apart (omega arith) (omega arith))
  | inr ge ↦ elim (cases_eq i j) [
    | inl e ↦ (let both : Some p ≡ Some q = sym at_i ∙ (ap (slice_get peers) e ∙ at_j) in
        let same : p.number ≡ q.number = cc in
        eq-eqb i j e ∙ sym (eq-eqb p.number q.number same))
    | inr ne ↦ (let less = rising_at peers rising j i q p at_j at_i (omega arith) in
        apart (omega arith) (omega arith))
  ]
]
  where
    apart : i ≢ j → p.number ≢ q.number → eqb i j ≡ eqb p.number q.number
    apart places numbers = ne_eqb i j places ∙ sym (ne_eqb p.number q.number numbers)

-- ---- a search by a number

-- the number of a peer
abbrev number : Peer → ℕ
number p = p.number

-- numbers compare alike where they are the same
number_tests : (n : ℕ) → Tests nat_cmp number n (λ p. eqb p.number n)
number_tests n =
    record {
      says = λ p e. sym (nat_cmp_is p.number n Equal (eqb-true p.number n e));
      passes = λ p tie. eq-eqb p.number n (exact_unsigned p.number n tie);
    }

-- no two peers have one number
numbers_apart : (peers : List Peer) → AreRising peers → AreApart nat_cmp number peers
numbers_apart peers rising i j d lt h tie =
    let less = rising i j d lt h in
    let same = exact_unsigned (get_or peers i d).number (get_or peers j d).number tie in
    omega arith

-- the peer at the place that was found is the one of that number
numbered_here : (peers : List Peer) → AreRising peers → (n at : ℕ) → at < length peers
    → ((d : Peer) → nat_cmp (get_or peers at d).number n ≡ Equal) → slice_get peers at ≡ peer_numbered n peers
numbered_here peers rising n at l tie = elim ((slice_get_cases peers at).1) [
  | inl there ↦
      (let p : Peer = there.0 in
      let same : nat_cmp p.number n ≡ Equal = rw there.3 at (tie p) in
      there.2 ∙ sym (found nat_cmp nat_cmp_total number n (λ q. eqb q.number n) (number_tests n).says peers at p (numbers_apart peers rising) l (sym there.3) same ((number_tests n).passes p same)))
  | inr past ↦ absurd (omega (arith, past.0))
]

-- numbers that rise are sorted
sorted : (peers : List Peer) → AreRising peers → IsSortedBy (λ p q. is_lt (nat_cmp p.number q.number)) peers
sorted peers rising k d at_least h =
    sym (ap is_lt (nat_cmp_is (get_or peers (k + 1) d).number (get_or peers k d).number Greater (rising k (k + 1) d (omega arith) h)))

-- where no place was found, no peer has that number
numbered_nowhere : (peers : List Peer) → AreRising peers → (n at : ℕ)
    → IsBinarySearchResult (λ p. nat_cmp p.number n) peers (Err at) → peer_numbered n peers ≡ None
numbered_nowhere peers rising n at searched =
    missing nat_cmp nat_cmp_total number n (λ q. eqb q.number n) (number_tests n).says peers (λ j d l tie.
    elim (cases_lt j at) [
      | inl lt ↦ (let less : nat_cmp (get_or peers j d).number n ≡ Less = parts.0 j d (omega arith) lt in cc)
      | inr ge ↦ (let more : nat_cmp (get_or peers j d).number n ≡ Greater = parts.1 j d ge l in cc)
    ])
  where
    parts : IsPartitionPoint (λ p. nat_cmp p.number n ≡ Less) (λ p. nat_cmp p.number n ≡ Greater) peers at
    parts = searched (searchable_from_sorted nat_cmp_total number peers n (sorted peers rising))

-- what a search by a number finds
pub numbered_place : (peers : List Peer) → AreRising peers → (n : ℕ) (r : Result ℕ ℕ) → IsSearchInRange r (length peers)
    → IsBinarySearchResult (λ p. nat_cmp p.number n) peers r
    → option_and_then (λ at. slice_get peers at) (result_ok r) ≡ peer_numbered n peers
numbered_place peers rising n (Ok at) within tie = numbered_here peers rising n at within tie
numbered_place peers rising n (Err at) within searched = sym (numbered_nowhere peers rising n at searched)
