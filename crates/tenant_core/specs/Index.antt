-- Indexes: the places of a list in the order of its elements.
use Rattle.std.specs.Prelude.{ℕ, ◌≢◌, List}
use Rattle.std.specs.List.{range_with_len, slice_get, AllPairs}
use Rattle.std.specs.List.Sorted.{IsPermutation, IsSortedBy}
use Rattle.std.specs.Option.{option_map_or}
use Rattle.std.specs.Ordering.{is_lt}
use Rattle.std.specs.declared.cmp.Ordering.{Ordering}
use Rattle.std.specs.declared.cmp.Ordering.TheVariants.{Equal}

-- the key of the item at a place, or another one if there is none
abbrev pub key_at : {X K : Type 0} → (X → K) → K → List X → ℕ → K
key_at key none xs place = option_map_or key (slice_get xs place) none

-- order has each of n places once, by the keys at them
pub record IsIndex {K : Type 0} (cmp : K → K → Ordering) (key : ℕ → K) (n : ℕ) (order : List ℕ) : Type 0 where
  pub places : IsPermutation (range_with_len 0 n) order
  pub rising : IsSortedBy (λ p q. is_lt (cmp (key p) (key q))) order

-- no two items have one key
abbrev pub AreApart : {X K : Type 0} → (K → K → Ordering) → (X → K) → List X → Type 0
AreApart cmp key xs = AllPairs (λ x y. cmp (key x) (key y) ≢ Equal) xs
