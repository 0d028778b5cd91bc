-- Numbers in decimal digits.
use Rattle.std.specs.Prelude.{◌≡◌, ◌<◌, ◌^◌, ℕ, ◌+◌, ◌-◌, ◌*◌, List, [], ◌∷◌, fold, Bool, true, false, not, ◌&&◌, ◌==◌}
use Rattle.std.specs.Prelude.{if◌then◌else◌, Result, Ok, Err}
use Rattle.std.specs.Fmt.{decimal}
use Rattle.std.specs.List.{list_all}
use Rattle.common_types.specs.Numbers.{is_between}
use Rattle.common_types.specs.declared.numerals.NumberFault.{NumberFault}
use Rattle.common_types.specs.declared.numerals.NumberFault.TheVariants.{Malformed, Outside}

-- a decimal digit
abbrev pub is_digit : ℕ → Bool
is_digit b = is_between 48 57 b

-- the value of decimal digits
abbrev pub value_of : List ℕ → ℕ
value_of digits = fold (λ n d. n * 10 + (d - 48)) 0 digits

-- `0`, or digits that do not begin with `0`
abbrev pub is_numeral : List ℕ → Bool
is_numeral [] = false
is_numeral (digit ∷ []) = is_digit digit
is_numeral (first ∷ next ∷ others) = not (first == 48) && list_all is_digit (first ∷ next ∷ others)

-- the number from low to high that a word spells, or why it spells none
unfoldable pub number_in : ℕ → ℕ → List ℕ → Result ℕ NumberFault
number_in low high word =
    if is_numeral word
    then (if is_between low high (value_of word) then Ok (value_of word) else Err Outside)
    else Err Malformed

-- Numbers of up to 64 bits: each has one numeral, the one that is written for it.
pub record NumeralLaws : Type 0 where
  -- What is read as a number within limits is its numeral.
  pub read_is_numeral : (low high : ℕ) (word : List ℕ) (n : ℕ) → high < 2 ^ 64 → number_in low high word ≡ Ok n
      → (word ≡ decimal n) × (is_between low high n ≡ true)
  -- The numeral of a number within limits is read as that number.
  pub numeral_is_read : (low high n : ℕ) → high < 2 ^ 64 → is_between low high n ≡ true
      → number_in low high (decimal n) ≡ Ok n
  -- It has digits only.
  pub numeral_has_digits : (n : ℕ) → n < 2 ^ 64 → list_all is_digit (decimal n) ≡ true
