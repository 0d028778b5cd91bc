-- Books that are found to be sound one after another.
use Rattle.std.proofs.Common.{◌≡◌, ◌+◌, ◌<◌, ℕ, zero, suc, List, [], ◌∷◌, length, subst, arith}
use Rattle.std.proofs.Math.ListN.{get_or}
use Rattle.std.specs.Prelude.{slice_index_or}
use Rattle.tenant_core.specs.Sound.{IsSound}
use Rattle.tenant_core.specs.State.{State}

-- one more is
pub one_more_sound : (books : List State) (n : ℕ) (b : State) → n < length books → b ≡ get_or books n b → IsSound b
    → ((k : ℕ) (d : State) → k < n → IsSound (slice_index_or books k d))
    → (k : ℕ) (d : State) → k < n + 1 → IsSound (slice_index_or books k d)
one_more_sound [] n b lt is sound before k d h = absurd (omega arith)
one_more_sound (x ∷ xs) zero b lt is sound before zero d h = subst IsSound is sound
one_more_sound (x ∷ xs) zero b lt is sound before (suc k) d h = absurd (omega arith)
one_more_sound (x ∷ xs) (suc n) b lt is sound before zero d h = before zero d (omega arith)
one_more_sound (x ∷ xs) (suc n) b lt is sound before (suc k) d h =
    one_more_sound xs n b (omega arith) is sound (λ j e less. before (suc j) e (omega (arith, less))) k d (omega arith)
