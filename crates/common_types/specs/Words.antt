-- Words with single spaces between them, taken off the front of a text.
use Rattle.std.specs.Prelude.{ℕ, List, [], ◌∷◌, ◌==◌, Option, Some, None}
use Rattle.std.specs.List.{slice_split}

-- the words between single spaces
abbrev pub words_of : List ℕ → List (List ℕ)
words_of text = slice_split (λ b. b == 32) text

-- a first part and the parts of what follows it, if anything does
abbrev pub parts : (List ℕ → List (List ℕ)) → List ℕ → Option (List ℕ) → List (List ℕ)
parts split first None = first ∷ []
parts split first (Some rest) = first ∷ split rest

-- the words of the rest of a text; none if nothing is left
abbrev pub words_left : Option (List ℕ) → List (List ℕ)
words_left None = []
words_left (Some rest) = words_of rest
