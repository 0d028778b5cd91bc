-- Items of a list that has an index, found by their keys, added and replaced.
use Rattle.std.proofs.Common.{arith, inl, inr, ◌≡◌, ◌≢◌, ◌<◌, ◌≤◌, ℕ, List, [], ◌∷◌, ◌++◌, length, get_or, set, map, find, if◌then◌else◌, Bool, true, false, is_some, is_ok, None, Some, Result, Ok, Err, ap, sym, subst, ◌∙◌, refl}
use Rattle.std.specs.Cmp.{IsTotalOrder}
use Rattle.std.specs.List.{insert, list_any, slice_get}
use Rattle.std.specs.List.Sorted.{IsBinarySearchResult, IsSearchInRange}
use Rattle.std.specs.declared.cmp.Ordering.{Ordering}
use Rattle.std.specs.declared.cmp.Ordering.TheVariants.{Equal}
use Rattle.std.proofs.lemmas.Bool.{cases_eq, cases_lt}
use Rattle.std.proofs.lemmas.Cmp.{tied_itself, tied_back}
use Rattle.std.proofs.lemmas.List.{get_or_default, get_or_append_left, get_or_push, length_push, length-set, get_or-set_same, get_or-set_other, get_or-map, length-map, same_lists}
use Rattle.std.proofs.lemmas.List.Folds.{list_any_at}
use Rattle.std.proofs.lemmas.List.Quantifiers.{all_pairs_push}
use Rattle.std.proofs.lemmas.Option.{slice_get_cases}
use Rattle.tenant_core.specs.Index.{IsIndex, AreApart, key_at}
use Rattle.tenant_core.proofs.Finds.{fails, found, missing, is_some_find, key_at_is}
use Rattle.tenant_core.proofs.Indexes.{within, absent, inserted, same_keys}

-- the test is passed just by the items of that key
pub record Tests {X K : Type 0} (cmp : K → K → Ordering) (key : X → K) (k : K) (test : X → Bool) : Type 0 where
  pub says : (x : X) → test x ≡ true → cmp (key x) k ≡ Equal
  pub passes : (x : X) → cmp (key x) k ≡ Equal → test x ≡ true

module _ {X K : Type 0} {cmp : K → K → Ordering} (o : IsTotalOrder cmp) (key : X → K) (none : K) (xs : List X) (order : List ℕ) (index : IsIndex cmp (key_at key none xs) (length xs) order) where
  -- an entry of the order is a place
  pub place_within : (at d : ℕ) → at < length order → get_or order at d < length xs
  place_within at d h = within o (key_at key none xs) (length xs) order index at d h

  module _ (k : K) (test : X → Bool) (tests : Tests cmp key k test) where
    module _ (apart : AreApart cmp key xs) where
      -- the item at the place that was found is the first that passes
      pub found_item : (at p : ℕ) (x : X) → at < length order → p ≡ get_or order at p → cmp (key_at key none xs (get_or order at p)) k ≡ Equal → x ≡ get_or xs p x → find test xs ≡ Some x
      found_item at p x h entry tie item =
          let l : p < length xs = subst (λ q. q < length xs) (sym entry) (place_within at p h) in
          let same : cmp (key x) k ≡ Equal = ap (λ t. cmp t k) (ap key item ∙ sym (key_at_is key none xs p x l) ∙ ap (key_at key none xs) entry) ∙ tie in
          found cmp o key k test tests.says xs p x apart l item same (tests.passes x same)

      -- the place that was found is that of the first item that passes
      pub found_place : (at p : ℕ) → at < length order → p ≡ get_or order at p → cmp (key_at key none xs (get_or order at p)) k ≡ Equal → slice_get xs p ≡ find test xs
      found_place at p h entry tie =
          let l : p < length xs = subst (λ q. q < length xs) (sym entry) (place_within at p h) in
          elim ((slice_get_cases xs p).1) [
            | inl there ↦ there.2 ∙ sym (found_item at p there.0 h entry tie (sym there.3))
            | inr past ↦ absurd (omega (arith, past.0))
          ]

    -- where a place was found, an item passes
    some_item : (at : ℕ) → at < length order → ((d : ℕ) → cmp (key_at key none xs (get_or order at d)) k ≡ Equal) → list_any test xs ≡ true
    some_item at h tie =
        let p = get_or order at 0 in
        let l : p < length xs = place_within at 0 h in
        elim ((slice_get_cases xs p).1) [
          | inl there ↦
              (let x = there.0 in
              list_any_at test xs p x l (tests.passes (get_or xs p x) (ap (λ t. cmp t k) (sym (key_at_is key none xs p x l)) ∙ tie 0)))
          | inr past ↦ absurd (omega (arith, past.0))
        ]

    module _ (at : ℕ) (searched : IsBinarySearchResult (λ p. cmp (key_at key none xs p) k) order (Err at)) where
      another : (p : ℕ) (d : X) → p < length xs → cmp (key (get_or xs p d)) k ≢ Equal
      another p d l e = absent o (key_at key none xs) (length xs) order index k at searched p l (ap (λ t. cmp t k) (key_at_is key none xs p d l) ∙ e)

      -- where no place was found, no item passes
      pub no_item : find test xs ≡ None
      no_item = missing cmp o key k test tests.says xs another

      -- an item of that key comes last, and its place where the search ended
      module _ (x : X) (is : key x ≡ k) (le : at ≤ length order) where
        pub added_index : IsIndex cmp (key_at key none (xs ++ x ∷ [])) (length (xs ++ x ∷ [])) (insert order at (length xs))
        added_index =
            let more = key_at key none (xs ++ x ∷ []) in
            let last : more (length xs) ≡ k =
            key_at_is key none (xs ++ x ∷ []) (length xs) x (omega (arith, length_push xs x)) ∙ ap key (get_or_push xs x x (length xs) refl) ∙ is in
            rw (length_push xs x) (inserted o (key_at key none xs) (length xs) order index more at
            (λ p l.
            key_at_is key none (xs ++ x ∷ []) p x (omega (arith, length_push xs x)) ∙ ap key (get_or_append_left xs (x ∷ []) x p l)
            ∙ sym (key_at_is key none xs p x l))
            le (subst (λ t. IsBinarySearchResult (λ p. cmp (key_at key none xs p) t) order (Err at)) (sym last) searched))

        pub added_apart : AreApart cmp key xs → AreApart cmp key (xs ++ x ∷ [])
        added_apart apart = all_pairs_push (λ y z. cmp (key y) (key z) ≢ Equal) xs x apart (λ p d l. subst (λ t. cmp (key (get_or xs p d)) t ≢ Equal) (sym is) (another p d l))

    -- a place is found where an item passes
    pub is_found : (r : Result ℕ ℕ) → IsSearchInRange r (length order) → IsBinarySearchResult (λ p. cmp (key_at key none xs p) k) order r
        → list_any test xs ≡ is_ok r
    is_found (Ok at) h tie = some_item at h tie
    is_found (Err at) h searched = is_some_find test xs ∙ ap is_some (no_item at searched)

  -- another item of the same key in its place
  module _ (apart : AreApart cmp key xs) (p : ℕ) (x : X) (l : p < length xs) (same : key x ≡ key (get_or xs p x)) where
    keys : (q : ℕ) (d : X) → q < length xs → key (get_or (set xs p x) q d) ≡ key (get_or xs q d)
    keys q d h = elim (cases_eq q p) [
      | inl e ↦ rw e (ap key (get_or-set_same xs p x d l) ∙ same ∙ ap key (get_or_default xs p x d l))
      | inr ne ↦ ap key (get_or-set_other xs p q x d ne)
    ]

    -- no other item has the key
    others : (q : ℕ) → q ≢ p → q < length xs → (test : X → Bool) → Tests cmp key (key x) test → test (get_or xs q x) ≡ false
    others q ne h test tests =
        fails cmp o key (key x) test tests.says (get_or xs q x) (λ tie.
        let tie' : cmp (key (get_or xs q x)) (key (get_or xs p x)) ≡ Equal = subst (λ k. cmp (key (get_or xs q x)) k ≡ Equal) same tie in
        elim (cases_lt q p) [
          | inl lt ↦ apart q p x lt l tie'
          | inr ge ↦ apart p q x (omega arith) h (tied_back o (key (get_or xs q x)) (key (get_or xs p x)) tie')
        ])

    pub replaced_index : IsIndex cmp (key_at key none (set xs p x)) (length (set xs p x)) order
    replaced_index = rw (length-set xs p x) (same_keys o (key_at key none xs) (length xs) order index (key_at key none (set xs p x)) (λ q h.
        key_at_is key none (set xs p x) q x (omega (arith, length-set xs p x)) ∙ keys q x h ∙ sym (key_at_is key none xs q x h)))

    pub replaced_apart : AreApart cmp key (set xs p x)
    replaced_apart i j d lt h =
        let j_in : j < length xs = omega (arith, length-set xs p x) in
        rw (keys i d (omega arith), keys j d j_in) (apart i j d lt j_in)

    -- each item that passes is replaced: there is one
    pub replaced_is : (test : X → Bool) → Tests cmp key (key x) test → map (λ y. if test y then x else y) xs ≡ set xs p x
    replaced_is test tests =
        let put = λ (y : X). if test y then x else y in
        let here : test (get_or xs p x) ≡ true = tests.passes (get_or xs p x) (subst (λ k. cmp k (key x) ≡ Equal) same (tied_itself o (key x))) in
        same_lists (map put xs) (set xs p x) (length-map xs put ∙ sym (length-set xs p x)) (λ q d h.
        let l' : q < length xs = omega (arith, length-map xs put) in
        elim (cases_eq q p) [
          | inl e ↦ rw e (get_or-map put xs p x d l ∙ ap (λ b. if b then x else get_or xs p x) here ∙ sym (get_or-set_same xs p x d l))
          | inr ne ↦ get_or-map put xs q x d l' ∙ ap (λ b. if b then x else get_or xs q x) (others q ne l' test tests) ∙ get_or_default xs q x d l' ∙ sym (get_or-set_other xs p q x d ne)
        ])
