-- Lists of which one element changes.
use Rattle.std.specs.Prelude.{ℕ, zero, suc, List, [], ◌∷◌, Option, Some, None}

-- the list, with the element at that place changed by that function
abbrev pub changed_at : {X : Type 0} → (X → X) → List X → ℕ → List X
changed_at f [] i = []
changed_at f (x ∷ xs) zero = f x ∷ xs
changed_at f (x ∷ xs) (suc i) = x ∷ changed_at f xs i

-- the same, if there is a place
abbrev pub changed_where : {X : Type 0} → (X → X) → List X → Option ℕ → List X
changed_where f xs None = xs
changed_where f xs (Some i) = changed_at f xs i
