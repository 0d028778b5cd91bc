-- What an index says, and how it is kept.
use Rattle.std.proofs.Common.{arith, ◌≡◌, ◌≢◌, ◌<◌, ◌≤◌, ◌+◌, ◌-◌, ℕ, List, [], ◌∷◌, ◌++◌, length, get_or, All, Err, not, Bool, false, ap, sym, subst, ◌∙◌, refl, inl, inr}
use Rattle.std.specs.Cmp.{IsTotalOrder}
use Rattle.std.specs.List.{range_with_len, Contains, filter, insert}
use Rattle.std.proofs.lemmas.List.Filters.{length-filter_both}
use Rattle.std.specs.List.Sorted.{IsBinarySearchResult, IsPartitionPoint}
use Rattle.std.specs.Ordering.{is_lt, ordering_reverse}
use Rattle.std.specs.declared.cmp.Ordering.{Ordering}
use Rattle.std.specs.declared.cmp.Ordering.TheVariants.{Less, Equal, Greater}
use Rattle.std.proofs.lemmas.Bool.{cases_lt, cases_eq}
use Rattle.std.proofs.lemmas.List.Edits.{length-insert, get_or-insert_below, get_or-insert_at, get_or-insert_above}
use Rattle.std.proofs.lemmas.List.FromFn.{length-range_with_len, get_or-range_with_len, map-range_with_len_more}
use Rattle.std.proofs.lemmas.List.{map-id, same_lists}
use Rattle.std.proofs.lemmas.List.Sorted.{All-permutation, Contains-permutation, length_permutation, IsPermutation-refl, searchable_from_sorted, IsPermutation-insert, IsPermutation-push_more}
use Rattle.tenant_core.specs.Index.{IsIndex}

-- one number more
range_more : (n : ℕ) → range_with_len 0 (n + 1) ≡ range_with_len 0 n ++ n ∷ []
range_more n =
    sym (map-id (range_with_len 0 (n + 1))) ∙ map-range_with_len_more (λ p. p) 0 n n (omega arith) ∙ ap (λ ps. ps ++ n ∷ []) (map-id (range_with_len 0 n))

-- numbers that are each their own place
pub counted : (ps : List ℕ) (n : ℕ) → length ps ≡ n → ((k d : ℕ) → k < n → get_or ps k d ≡ k) → ps ≡ range_with_len 0 n
counted ps n long is =
    same_lists ps (range_with_len 0 n) (long ∙ sym (length-range_with_len 0 n)) (λ k d h.
    is k d (omega arith) ∙ sym (get_or-range_with_len 0 n k d (omega arith) ∙ omega arith))

-- a filter keeps no more than there is
pub kept_fewer : {X : Type 0} (test : X → Bool) (xs : List X) → length (filter test xs) ≤ length xs
kept_fewer test xs = omega (arith, length-filter_both test (λ x. not (test x)) (λ x. refl) xs)

-- nothing stands in an index of no places
pub no_places : {K : Type 0} (cmp : K → K → Ordering) (key : ℕ → K) → IsIndex cmp key 0 []
no_places cmp key =
    record {
      places = IsPermutation-refl [];
      rising = λ k d at_least h. absurd (omega arith);
    }

module _ {K : Type 0} {cmp : K → K → Ordering} (o : IsTotalOrder cmp) (key : ℕ → K) (n : ℕ) (order : List ℕ) (index : IsIndex cmp key n order) where
  -- there are as many entries as places
  pub size : length order ≡ n
  size = length_permutation _ _ index.places ∙ length-range_with_len 0 n

  -- each entry is a place
  pub within : All (λ p. p < n) order
  within = All-permutation (λ p. p < n) (range_with_len 0 n) order index.places (λ k d h.
      let l : k < n = omega (arith, length-range_with_len 0 n) in
      rw (get_or-range_with_len 0 n k d l) (omega arith))

  -- each place has an entry
  pub listed : (p : ℕ) → p < n → Contains order p
  listed p h = Contains-permutation (range_with_len 0 n) order p index.places
      (p, omega (arith, length-range_with_len 0 n), get_or-range_with_len 0 n p p h ∙ omega arith)

  -- where a search finds no entry, no place has the key
  pub absent : (k : K) (at : ℕ) → IsBinarySearchResult (λ p. cmp (key p) k) order (Err at) → (p : ℕ) → p < n → cmp (key p) k ≢ Equal
  absent k at searched p h same =
      let (j, l, e) = listed p h in
      let parts : IsPartitionPoint (λ y. cmp (key y) k ≡ Less) (λ y. cmp (key y) k ≡ Greater) order at = searched (searchable_from_sorted o key order k index.rising) in
      elim (cases_lt j at) [
        | inl lt ↦ (let less : cmp (key (get_or order j p)) k ≡ Less = parts.0 j p (omega arith) lt in cc)
        | inr ge ↦ (let more : cmp (key (get_or order j p)) k ≡ Greater = parts.1 j p ge l in cc)
      ]

  -- keys that are the same at each place
  pub same_keys : (more : ℕ → K) → ((p : ℕ) → p < n → more p ≡ key p) → IsIndex cmp more n order
  same_keys more alike =
      record {
        places = index.places;
        rising = λ k d at_least h.
            rw (alike (get_or order (k + 1) d) (within (k + 1) d h), alike (get_or order k d) (within k d (omega arith))) (index.rising k d at_least h);
      }

  -- a place more, put where the search for its key ended
  pub inserted : (more : ℕ → K) (at : ℕ) → ((p : ℕ) → p < n → more p ≡ key p) → at ≤ length order → IsBinarySearchResult (λ p. cmp (key p) (more n)) order (Err at) → IsIndex cmp more (n + 1) (insert order at n)
  inserted more at alike le searched =
      let parts : IsPartitionPoint (λ y. cmp (key y) (more n) ≡ Less) (λ y. cmp (key y) (more n) ≡ Greater) order at = searched (searchable_from_sorted o key order (more n) index.rising) in
      record {
        places = rw (range_more n) (IsPermutation-push_more (range_with_len 0 n) order (insert order at n) n index.places (IsPermutation-insert order at n));
        rising = λ k d at_least h.
            let new = insert order at n in
            let long : length new ≡ length order + 1 = length-insert order at n le in
            let below : (j : ℕ) → j < at → get_or new j d ≡ get_or order j d = λ j lt. get_or-insert_below order at n d j lt le in
            let here : (j : ℕ) → j ≡ at → get_or new j d ≡ n = λ j e. rw e (get_or-insert_at order at n d le) in
            let above : (j : ℕ) → at < j → get_or new j d ≡ get_or order (j - 1) d =
            λ j lt. subst (λ q. get_or new q d ≡ get_or order (j - 1) d) {x = j - 1 + 1} (omega arith) (get_or-insert_above order at n d (j - 1) (omega arith) le) in
            let old : (j : ℕ) → j < length order → more (get_or order j d) ≡ key (get_or order j d) = λ j lt. alike (get_or order j d) (within j d lt) in
            elim (cases_lt (k + 1) at) [
              | inl lt ↦ rw (below (k + 1) lt, below k (omega arith), old (k + 1) (omega arith), old k (omega arith)) (index.rising k d at_least (omega arith))
              | inr ge ↦ elim (cases_lt at k) [
                | inl lt ↦ rw (above (k + 1) (omega arith), above k lt, old (k + 1 - 1) (omega arith), old (k - 1) (omega arith))
                    (subst (λ q. is_lt (cmp (key (get_or order q d)) (key (get_or order (k - 1) d))) ≡ false) {x = k - 1 + 1} (omega arith) (index.rising (k - 1) d (omega arith) (omega arith)))
                | inr le' ↦ elim (cases_eq k at) [
                  | inl e ↦ rw (above (k + 1) (omega arith), here k e, old (k + 1 - 1) (omega arith)) (ap is_lt (parts.1 (k + 1 - 1) d (omega arith) (omega arith)))
                  | inr ne ↦ rw (here (k + 1) (omega arith), below k (omega arith), old k (omega arith))
                      (ap is_lt (o.antisymm (more n) (key (get_or order k d))) ∙ ap (λ r. is_lt (ordering_reverse r)) (parts.0 k d (omega arith) (omega arith)))
                ]
              ]
            ];
      }
