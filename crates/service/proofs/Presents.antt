-- Setups of tenants, one more behind the others.
use Rattle.std.proofs.Common.{◌≡◌, ℕ, zero, suc, List, [], ◌∷◌, ◌++◌, Some, slice_get, length, subst}

-- what holds of each element at its place, with one more behind them
pub each_next : {X : Type 0} (P : ℕ → X → Type 0) (xs : List X) (x : X) → ((k : ℕ) (y : X) → slice_get xs k ≡ Some y → P k y)
    → P (length xs) x → (k : ℕ) (y : X) → slice_get (xs ++ x ∷ []) k ≡ Some y → P k y
each_next P [] x each here zero y at = let same : x ≡ y = cc in subst (P 0) same here
each_next P [] x each here (suc k) y at = absurd cc
each_next P (z ∷ zs) x each here zero y at = each zero y at
each_next P (z ∷ zs) x each here (suc k) y at = each_next (λ n. P (suc n)) zs x (λ n w there. each (suc n) w there) here k y at
