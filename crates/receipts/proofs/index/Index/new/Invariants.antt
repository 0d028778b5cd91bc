use Rattle.std.proofs.Common.{◌≡◌, ◌≤◌, ℕ, None, slice_get, vec_len, vec_capacity, option_and_then}
use Rattle.std.specs.Ordering.{nat_cmp}
use Rattle.std.specs.BTreeMap.{get}
use Rattle.receipts.proofs.index.Index.new.Given as goal

abbrev pub invariant-loop : goal.invariant-loop
invariant-loop l =
    (vec_len l.places ≡ l.counter) × (64 ≤ vec_capacity l.places)
    × ((t n : ℕ) → option_and_then (λ m. get nat_cmp m n) (slice_get l.places.items t) ≡ None)
