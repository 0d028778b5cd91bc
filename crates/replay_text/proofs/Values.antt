-- Values of digits.
use Rattle.std.proofs.Common.{arith, sym, ap, refl, ◌≡◌, ◌+◌, ◌-◌, ◌*◌, ◌%◌, ◌^◌, ◌==◌, ◌<◌, ◌≤◌, ℕ, suc, List, [], ◌∷◌, Bool, true, false, not, length, fold, Some, None}
use Rattle.std.specs.Prelude.{if◌then◌else◌}
use Rattle.std.specs.List.{list_all}
use Rattle.std.proofs.Math.Nat.{mul-le-mul_right, mul_assoc, pow-succ', pow-le-pow_right}
use Rattle.std.proofs.lemmas.Bool.{and_parts}
use Rattle.common_types.specs.Numerals.{is_digit, is_numeral, value_of}

-- a digit is worth 9 at most
worth : (d : ℕ) → is_digit d ≡ true → d - 48 ≤ 9
worth d h = grind (arith)

-- so many digits behind a number
below : (n : ℕ) (digits : List ℕ) → list_all is_digit digits ≡ true → fold (λ n d. n * 10 + (d - 48)) n digits < (n + 1) * 10 ^ length digits
below n [] h = omega arith
below n (d ∷ digits) h =
    let parts = and_parts (is_digit d) (list_all is_digit digits) h in
    let most = worth d parts.0 in
    let rest = below (n * 10 + (d - 48)) digits parts.1 in
    let wider : (n * 10 + (d - 48) + 1) * 10 ^ length digits ≤ (n + 1) * 10 * 10 ^ length digits = mul-le-mul_right (10 ^ length digits) (omega arith) in
    let whole : (n + 1) * 10 ^ suc (length digits) ≡ (n + 1) * 10 * 10 ^ length digits = rw (pow-succ' 10 (length digits)) (sym (mul_assoc (n + 1) 10 (10 ^ length digits))) in
    omega (arith, rest, wider, whole)

-- a numeral has digits only
pub are_digits : (word : List ℕ) → is_numeral word ≡ true → list_all is_digit word ≡ true
are_digits [] h = absurd cc
are_digits (digit ∷ []) h = rw h refl
are_digits (first ∷ next ∷ others) h = (and_parts (not (first == 48)) (list_all is_digit (first ∷ next ∷ others)) h).1

-- a numeral of at most 19 digits is below 2^64
pub short_is_small : (word : List ℕ) → is_numeral word ≡ true → length word ≤ 19 → value_of word < 2 ^ 64
short_is_small word h short =
    let less = below 0 word (are_digits word h) in
    let most : 10 ^ length word ≤ 10 ^ 19 = pow-le-pow_right (omega arith) short in
    omega (arith, less, most)

-- a short numeral is worth what its digits are
pub short_value : (word : List ℕ) → is_numeral word ≡ list_all is_digit word → length word ≤ 19
    → (if list_all is_digit word then Some (value_of word % 2 ^ 64) else None) ≡ (if is_numeral word then Some (value_of word) else None)
short_value word same short = rw (← same) (by (is_numeral word) refl)
  where
    by : (b : Bool) → is_numeral word ≡ b → (if b then Some (value_of word % 2 ^ 64) else None) ≡ (if b then Some (value_of word) else None)
    by true is =
        let small = short_is_small word is short in
        ap Some (omega (arith, small))
    by false is = refl
