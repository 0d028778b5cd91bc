-- Rates by their pairs.
use Rattle.std.proofs.Common.{arith, ◌≡◌, ◌<◌, ◌≤◌, ℕ, List, ◌∷◌, [], ◌++◌, length, get_or, Bool, true, false, cond, find, set, Option, None, Some, is_some, nat_le, Result, is_ok, Err, ap, sym, subst, ◌∙◌, refl}
use Rattle.std.specs.Cmp.{IsTotalOrder}
use Rattle.std.specs.List.{insert, list_any}
use Rattle.std.specs.List.Sorted.{IsBinarySearchResult, IsSearchInRange}
use Rattle.std.specs.Ordering.{nat_cmp}
use Rattle.std.specs.declared.cmp.Ordering.TheVariants.{Equal}
use Rattle.std.proofs.lemmas.Bool.{or_parts}
use Rattle.std.proofs.lemmas.Bool.Decides.{nat_tests}
use Rattle.std.proofs.lemmas.Cmp.{nat_cmp_total, on_total, then_total, tied_itself}
use Rattle.std.proofs.lemmas.Map.Lookups.{exact_pairs, exact_unsigned}
use Rattle.tenant_core.specs.declared.faults.CommandFault.{CommandFault}
use Rattle.tenant_core.specs.declared.faults.CommandFault.TheVariants.{Limit}
use Rattle.tenant_core.specs.declared.terms.RateTerms.{RateTerms}
use Rattle.tenant_core.specs.Limits.{max_rates}
use Rattle.tenant_core.specs.Network.{Net, is_for_pair, has_pair, names_peer, replaced_rate, rate_refusal}
use Rattle.tenant_core.specs.Places.{pair, pair_at, pair_cmp, IsByPair, ArePairsApart}
use Rattle.tenant_core.specs.Rates.{rates_without}
use Rattle.tenant_core.proofs.Finds.{key_at_is}
use Rattle.tenant_core.proofs.Keyed.{Tests, place_within, found_item, is_found, no_item, added_index, added_apart, replaced_index, replaced_apart, replaced_is}

-- pairs are in one order
pub pairs_total : IsTotalOrder pair_cmp
pairs_total = then_total (on_total (λ (p : ℕ × ℕ). p.0) nat_cmp_total) (on_total (λ (p : ℕ × ℕ). p.1) nat_cmp_total)

-- pairs compare alike where they are the same
pub pair_tests : (from to : ℕ) → Tests pair_cmp pair (from, to) (is_for_pair from to)
pair_tests from to =
    record {
      says = λ x e. (let one : x.from ≡ from = grind (arith, nat_tests) in let two : x.to ≡ to = grind (arith, nat_tests) in rw (one, two) (tied_itself pairs_total (from, to)));
      passes = λ x tie. (let same = exact_pairs nat_cmp nat_cmp exact_unsigned exact_unsigned (x.from, x.to) (from, to) tie in
          let one : x.from ≡ from = ap (λ (p : ℕ × ℕ). p.0) same in let two : x.to ≡ to = ap (λ (p : ℕ × ℕ). p.1) same in grind (arith, nat_tests));
    }

-- the rate at a place that was found is for the pair
pub same_pair : (rates : List RateTerms) (p : ℕ) (r : RateTerms) → p < length rates → pair_cmp (pair_at rates p) (pair r) ≡ Equal → pair r ≡ pair (get_or rates p r)
same_pair rates p r l tie = sym (exact_pairs nat_cmp nat_cmp exact_unsigned exact_unsigned (pair_at rates p) (pair r) tie) ∙ key_at_is pair (0, 0) rates p r l

-- ---- a search by a pair

module _ (rates : List RateTerms) (order : List ℕ) (index : IsByPair rates order) where
  -- an entry of the order is a place
  pub pair_within : (at p : ℕ) → at < length order → p ≡ get_or order at p → p < length rates
  pair_within at p h entry = subst (λ q. q < length rates) (sym entry) (place_within pairs_total pair (0, 0) rates order index at p h)

  module _ (from to : ℕ) where
    -- the rate at the place that was found is the one for the pair
    pub pair_here : ArePairsApart rates → (at p : ℕ) (r : RateTerms) → at < length order → p ≡ get_or order at p
        → pair_cmp (pair_at rates (get_or order at p)) (from, to) ≡ Equal → r ≡ get_or rates p r → find (is_for_pair from to) rates ≡ Some r
    pair_here = found_item pairs_total pair (0, 0) rates order index (from, to) (is_for_pair from to) (pair_tests from to)

    -- where no place was found, no rate is for the pair
    pub pair_nowhere : (at : ℕ) → IsBinarySearchResult (λ p. pair_cmp (pair_at rates p) (from, to)) order (Err at)
        → find (is_for_pair from to) rates ≡ None
    pair_nowhere = no_item pairs_total pair (0, 0) rates order index (from, to) (is_for_pair from to) (pair_tests from to)

    -- a place is found where a rate is for the pair
    pub pair_found : (r : Result ℕ ℕ) → IsSearchInRange r (length order) → IsBinarySearchResult (λ p. pair_cmp (pair_at rates p) (from, to)) order r
        → list_any (is_for_pair from to) rates ≡ is_ok r
    pair_found r within searched =
        is_found pairs_total pair (0, 0) rates order index (from, to) (is_for_pair from to) (pair_tests from to) r within searched

  -- where no place was found, the pair has none
  pub pair_absent : (r : RateTerms) (at : ℕ) → at ≤ length order → IsBinarySearchResult (λ p. pair_cmp (pair_at rates p) (pair r)) order (Err at) → has_pair r rates ≡ false
  pair_absent r at range searched = pair_found r.from r.to (Err at) range searched

  -- a rate more comes last, and its place where the search for its pair ended
  module _ (r : RateTerms) (at : ℕ) (le : at ≤ length order) (searched : IsBinarySearchResult (λ p. pair_cmp (pair_at rates p) (pair r)) order (Err at)) where
    pub pair_added : IsByPair (rates ++ r ∷ []) (insert order at (length rates))
    pair_added =
        added_index pairs_total pair (0, 0) rates order index (pair r) (is_for_pair r.from r.to) (pair_tests r.from r.to) at searched r refl le

    pub apart_added : ArePairsApart rates → ArePairsApart (rates ++ r ∷ [])
    apart_added =
        added_apart pairs_total pair (0, 0) rates order index (pair r) (is_for_pair r.from r.to) (pair_tests r.from r.to) at searched r refl le

  -- a rate stands at the place that was found, where another for its pair stood
  module _ (apart : ArePairsApart rates) (r : RateTerms) (at p : ℕ) (h : at < length order) (entry : p ≡ get_or order at p)
      (tie : pair_cmp (pair_at rates (get_or order at p)) (pair r) ≡ Equal) where
    inside : p < length rates
    inside = pair_within at p h entry

    same : pair r ≡ pair (get_or rates p r)
    same = same_pair rates p r inside (subst (λ q. pair_cmp (pair_at rates q) (pair r) ≡ Equal) (sym entry) tie)

    pub pair_replaced : IsByPair (set rates p r) order
    pair_replaced = replaced_index pairs_total pair (0, 0) rates order index apart p r inside same

    pub apart_replaced : ArePairsApart (set rates p r)
    apart_replaced = replaced_apart pairs_total pair (0, 0) rates order index apart p r inside same

    pub set_is : set rates p r ≡ replaced_rate r rates
    set_is = sym (replaced_is pairs_total pair (0, 0) rates order index apart p r inside same (is_for_pair r.from r.to) (pair_tests r.from r.to))

-- ---- setting a rate

-- a pair that has a rate may have another one
pub rate_replaced : (net : Net) (r : RateTerms) → has_pair r net.rates ≡ true → rate_refusal net r ≡ None
rate_replaced net r e = rw e refl

-- a rate is refused by the limit alone
pub rate_full : (net : Net) (r : RateTerms) → is_some (rate_refusal net r) ≡ true → rate_refusal net r ≡ Some Limit
rate_full net r e = by (has_pair r net.rates) (nat_le max_rates (length net.rates)) e
  where
    refusal : Bool → Bool → Option CommandFault
    refusal there full = cond there None (cond full (Some Limit) None)

    by : (there full : Bool) → is_some (refusal there full) ≡ true → refusal there full ≡ Some Limit
    by true full e = absurd cc
    by false true e = refl
    by false false e = absurd cc

-- a rate for another pair has room, if it is not refused
pub rate_room : (net : Net) (r : RateTerms) → rate_refusal net r ≡ None → has_pair r net.rates ≡ false → length net.rates < max_rates
rate_room net r e absent =
    let few : cond (nat_le max_rates (length net.rates)) (Some Limit) None ≡ None = rw absent at e in
    grind (arith, nat_tests)

-- ---- dropping rates

-- where no rate names the peer, none is dropped
pub none_dropped : (n : ℕ) (rates : List RateTerms) → list_any (names_peer n) rates ≡ false → rates_without n rates ≡ rates
none_dropped n [] e = refl
none_dropped n (r ∷ rs) e =
    let parts = or_parts (names_peer n r) (list_any (names_peer n) rs) e in
    rw parts.0 (ap (λ xs. r ∷ xs) (none_dropped n rs parts.1))
