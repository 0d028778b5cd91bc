-- What is read of words, one after the other.
use Rattle.std.specs.Prelude.{ℕ, List, [], ◌∷◌, Option, Some, None, Result, Ok, Err}
use Rattle.common_types.specs.Numerals.{number_in}
use Rattle.common_types.specs.declared.numerals.NumberFault.{NumberFault}
use Rattle.common_types.specs.declared.numerals.NumberFault.TheVariants.{Malformed, Outside}
use Rattle.admin_text.specs.declared.commands.TextFault.{TextFault}
use Rattle.admin_text.specs.declared.commands.TextFault.TheVariants.{Argument, Range}

-- a value, or a malformed argument
abbrev pub argument : {A : Type 0} → Option A → Result A TextFault
argument (Some value) = Ok value
argument None = Err Argument

-- a number, which is malformed or outside its limits
abbrev pub number_or_fault : Result ℕ NumberFault → Result ℕ TextFault
number_or_fault (Ok n) = Ok n
number_or_fault (Err Malformed) = Err Argument
number_or_fault (Err Outside) = Err Range

-- the value that was read, and the words after it
abbrev pub with_others : {A : Type 0} → List (List ℕ) → Result A TextFault → Result (A × List (List ℕ)) TextFault
with_others others (Ok value) = Ok (value, others)
with_others others (Err fault) = Err fault

-- what the first word says
abbrev pub of_one : {A : Type 0} → (List ℕ → Result A TextFault) → List (List ℕ)
    → Result (A × List (List ℕ)) TextFault
of_one read [] = Err Argument
of_one read (word ∷ words) = with_others words (read word)

-- what the first two say
abbrev pub of_two : {A : Type 0} → (List ℕ → List ℕ → Result A TextFault) → List (List ℕ)
    → Result (A × List (List ℕ)) TextFault
of_two read (first ∷ second ∷ words) = with_others words (read first second)
of_two read _ = Err Argument

-- what the first word says, or the default if there is none
abbrev pub of_any : {A : Type 0} → A → (List ℕ → Result A TextFault) → List (List ℕ)
    → Result (A × List (List ℕ)) TextFault
of_any default read [] = Ok (default, [])
of_any default read (word ∷ words) = with_others words (read word)

-- the number at the front of words, and the words after it
unfoldable pub number_taken : (low high : ℕ) → List (List ℕ) → Result (ℕ × List (List ℕ)) TextFault
number_taken low high words = of_one (λ word. number_or_fault (number_in low high word)) words

-- no word is left
unfoldable pub ended : List (List ℕ) → Result (Unit {0}) TextFault
ended [] = Ok tt
ended (word ∷ words) = Err Argument
