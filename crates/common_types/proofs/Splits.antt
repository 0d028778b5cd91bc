-- The first part of a list that is split, and the parts after it.
use Rattle.std.proofs.Common.{◌≡◌, ℕ, ◌+◌, Bool, true, false, cond, ltb, List, [], ◌∷◌, length, take, drop, Some, None, refl, arith}
use Rattle.std.specs.List.{slice_split, position, position_or_len}
use Rattle.std.proofs.lemmas.Bool.{ltb-true, ltb-false}
use Rattle.std.proofs.lemmas.List.Sums.{fails_before_first}
use Rattle.std.proofs.lemmas.List.Splits.{slice_split_first, slice_split_none}

-- a choice that gave a value, and one that gave none
some_chosen : (b : Bool) (n i : ℕ) → cond b (Some n) None ≡ Some i → (b ≡ true) × (n ≡ i)
some_chosen true n i h = (refl, cc)
some_chosen false n i h = absurd cc

none_chosen : (b : Bool) (n : ℕ) → cond b (Some n) None ≡ None → b ≡ false
none_chosen true n h = absurd cc
none_chosen false n h = refl

pub split_found : (p : ℕ → Bool) (xs : List ℕ) (i : ℕ) → position p xs ≡ Some i → slice_split p xs ≡ take i xs ∷ slice_split p (drop (i + 1) xs)
split_found p xs i h =
    let found = some_chosen (ltb (position_or_len p xs) (length xs)) (position_or_len p xs) i h in
    rw (← found.1) (slice_split_first p xs 0 (ltb-true _ _ found.0))

pub split_none : (p : ℕ → Bool) (xs : List ℕ) → position p xs ≡ None → slice_split p xs ≡ xs ∷ []
split_none p xs h =
    let past = ltb-false _ _ (none_chosen (ltb (position_or_len p xs) (length xs)) (position_or_len p xs) h) in
    slice_split_none p xs (λ k d lt. fails_before_first p xs k d (omega arith))
