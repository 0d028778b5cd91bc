-- The sum over some elements, and over one more.
use Rattle.std.proofs.Common.{◌≡◌, ◌+◌, ℕ, List, take, ap, ◌∙◌}
use Rattle.std.specs.Prelude.{Some, sum_by}
use Rattle.std.specs.List.{slice_get}
use Rattle.std.proofs.lemmas.List.Sums.{sum_by_more}
use Rattle.std.proofs.lemmas.Option.{slice_get_within, get_or_from_slice_get}

pub one_more_sum : {X : Type 0} (f : X → ℕ) (xs : List X) (n : ℕ) (x : X) → slice_get xs n ≡ Some x
    → sum_by f (take (n + 1) xs) ≡ sum_by f (take n xs) + f x
one_more_sum {X} f xs n x at =
    sum_by_more f xs n x (slice_get_within xs n x at)
    ∙ ap (λ (y : X). sum_by f (take n xs) + f y) (get_or_from_slice_get xs n x x at)
