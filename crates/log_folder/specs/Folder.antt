-- The names of a journal's files, and the numbers of its pairs.
use Rattle.std.specs.Prelude.{◌≡◌, ℕ, ◌≤◌, ◌<◌, ◌^◌, not, ◌==◌, List, [], ◌∷◌, ◌++◌, Option, Some, IfSome}
use Rattle.std.specs.List.{filter, All, Contains}
use Rattle.std.specs.Option.{option_to_list}
use Rattle.std.specs.Fmt.{decimal}

-- the ending `.base`
abbrev pub base_ending : List ℕ
base_ending = 46 ∷ 98 ∷ 97 ∷ 115 ∷ 101 ∷ []

-- the ending `.log`
abbrev pub log_ending : List ℕ
log_ending = 46 ∷ 108 ∷ 111 ∷ 103 ∷ []

-- the ending `.part`
abbrev pub part_ending : List ℕ
part_ending = 46 ∷ 112 ∷ 97 ∷ 114 ∷ 116 ∷ []

-- the number of 64 bits is written so
abbrev pub IsNumber : List ℕ → ℕ → Type 0
IsNumber word number = (number < 2 ^ 64) × (word ≡ decimal number)

-- it is the name of the base of the pair of that number
abbrev pub IsBaseName : List ℕ → ℕ → Type 0
IsBaseName name number = (number < 2 ^ 64) × (name ≡ decimal number ++ base_ending)

-- the number of the pair whose base has that name, if it is the name of a base
pub record IsNumbered (name : List ℕ) (found : Option ℕ) : Type 0 where
  pub only : IfSome found (λ number. IsBaseName name number)
  pub each : (number : ℕ) → IsBaseName name number → found ≡ Some number

-- the numbers of the pairs whose bases are among these names, in their order
abbrev pub AreBases : List (List ℕ) → List ℕ → Type 0
AreBases [] numbers = numbers ≡ []
AreBases (name ∷ names) numbers = (found : Option ℕ) × (rest : List ℕ)
    × IsNumbered name found × (numbers ≡ option_to_list found ++ rest) × AreBases names rest

-- a greatest one of these numbers
pub record IsGreatest (numbers : List ℕ) (number : ℕ) : Type 0 where
  pub there : Contains numbers number
  pub greatest : All (λ n. n ≤ number) numbers

-- the numbers without that one
abbrev pub without : ℕ → List ℕ → List ℕ
without number numbers = filter (λ n. not (n == number)) numbers
