-- Checks one after the other, the lines of a `do`: the first that fails decides.
use Rattle.std.specs.Prelude.{Bool, Option, Some, None, if◌then◌else◌}

infix 4 ◌⇒◌
-- if the check fails, that is the result; otherwise the next line decides
abbrev pub ◌⇒◌ : {V : Type 0} → Bool → V → V → V
fails ⇒ v = λ next. if fails then v else next

infix 4 ◌otherwise◌
-- a value that was found is for the next line; without one, that is the result
abbrev pub ◌otherwise◌ : {A V : Type 0} → Option A → V → (A → V) → V
(Some x) otherwise v = λ next. next x
None otherwise v = λ next. v

infixl 3 ◌>>◌
-- a check, and the lines after it
abbrev pub ◌>>◌ : {V : Type 0} → (V → V) → V → V
check >> next = check next

infixl 3 ◌>>=◌
-- a search, and the lines after it, which name what was found
abbrev pub ◌>>=◌ : {A V : Type 0} → ((A → V) → V) → (A → V) → V
search_for >>= next = search_for next
