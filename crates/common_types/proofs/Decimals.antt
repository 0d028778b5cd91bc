-- Numerals of this crate and the digits that std writes.
use Rattle.std.proofs.Common.{◌≡◌, ℕ, ◌+◌, ◌-◌, ◌*◌, ◌^◌, ◌<◌, zero, suc, Bool, true, false, not, cond, eqb}
use Rattle.std.proofs.Common.{leb, List, [], ◌∷◌, length, fold, get_or, Ok, Err, inl, inr, refl, sym, ap, ◌∙◌, subst, arith}
use Rattle.std.specs.Fmt.{decimal}
use Rattle.std.specs.List.{list_all}
use Rattle.std.proofs.lemmas.Bool.{eq-eqb, eqb-true, and_parts, leb-true, le-leb, cases_Bool}
use Rattle.std.proofs.lemmas.Fmt.{digits_decimal, digits_value-decimal, decimal-digits_value, decimal_is_IsNumeral, decimal_digit, first_decimal}
use Rattle.std.proofs.lemmas.Str.Parse.{IsNumeralModel, IsDigitsTest, FoldsDigits, numerals_by_fold}
use Rattle.common_types.specs.Numbers.{is_between}
use Rattle.common_types.specs.Numerals.{is_digit, is_numeral, value_of, number_in}
use Rattle.common_types.specs.declared.numerals.NumberFault.TheVariants.{Malformed, Outside}

tells_digits : IsDigitsTest (λ ds. list_all is_digit ds ≡ true)
tells_digits = record {
  empty = refl;
  parts = λ c cs e. let k = and_parts (is_digit c) (list_all is_digit cs) e in let m = and_parts (leb 48 c) (leb c 57) k.0 in ((leb-true 48 c m.0, leb-true c 57 m.1), k.1);
  more = λ c cs k e. rw (le-leb 48 c k.0, le-leb c 57 k.1) e;
}

folds : FoldsDigits (λ n ds. fold (λ n d. n * 10 + (d - 48)) n ds)
folds = record { empty = λ n. refl; more = λ n c cs k. refl }

own : IsNumeralModel (λ ds. list_all is_digit ds ≡ true) value_of
own = numerals_by_fold _ tells_digits (λ n ds. fold (λ n d. n * 10 + (d - 48)) n ds) folds

pub numeral_has_digits : (n : ℕ) → n < 2 ^ 64 → list_all is_digit (decimal n) ≡ true
numeral_has_digits n h = digits_decimal own n h

-- a number and its tests
chosen : (a b : Bool) (v n : ℕ) → cond a (cond b (Ok v) (Err Outside)) (Err Malformed) ≡ Ok n → (a ≡ true) × (b ≡ true) × (v ≡ n)
chosen true true v n h = (refl, refl, cc)
chosen true false v n h = absurd cc
chosen false b v n h = absurd cc

digits_of_one : (b : ℕ) → is_digit b ≡ true → list_all is_digit (b ∷ []) ≡ true
digits_of_one b h = rw h refl

no_zero_in_front : (word : List ℕ) → is_numeral word ≡ true → (0 < length word) × (list_all is_digit word ≡ true) × (get_or word 0 0 ≡ 48 → length word ≡ 1)
no_zero_in_front [] h = absurd cc
no_zero_in_front (first ∷ []) h = (omega arith, digits_of_one first h, λ e. refl)
no_zero_in_front (first ∷ next ∷ rest) h =
    let k = and_parts (not (eqb first 48)) (list_all is_digit (first ∷ next ∷ rest)) h in
    (omega arith, k.1, λ e. absurd (differs k.0 e))
  where
    differs : not (eqb first 48) ≡ true → first ≡ 48 → ⊥
    differs h e = let g : false ≡ true = rw (eq-eqb first 48 e) at h in absurd cc

pub read_is_numeral : (low high : ℕ) (word : List ℕ) (n : ℕ) → high < 2 ^ 64 → number_in low high word ≡ Ok n → (word ≡ decimal n) × (is_between low high n ≡ true)
unfolding number_in
read_is_numeral low high word n small h =
    let k = chosen (is_numeral word) (is_between low high (value_of word)) (value_of word) n h in
    let d = no_zero_in_front word k.0 in
    let m = and_parts (leb low (value_of word)) (leb (value_of word) high) k.1 in
    let top : value_of word < 2 ^ 64 = omega (arith, leb-true (value_of word) high m.1) in
    (sym (decimal-digits_value own word d.1 d.0 d.2 top) ∙ ap decimal k.2, subst (λ v. is_between low high v ≡ true) k.2 k.1)

is_numeral_without_zero : (word : List ℕ) → 0 < length word → list_all is_digit word ≡ true → (get_or word 0 0 ≡ 48 → length word ≡ 1) → is_numeral word ≡ true
is_numeral_without_zero [] some digits one = absurd (omega arith)
is_numeral_without_zero (first ∷ []) some digits one = (and_parts (is_digit first) true digits).0
is_numeral_without_zero (first ∷ next ∷ rest) some digits one =
    elim (cases_Bool (eqb first 48)) [
      | inl is ↦ absurd (omega (arith, one (eqb-true first 48 is)))
      | inr other ↦ rw other digits
    ]

zero_alone : (n : ℕ) → n < 2 ^ 64 → get_or (decimal n) 0 0 ≡ 48 → length (decimal n) ≡ 1
zero_alone zero h e = ap length (decimal_digit 0 (omega arith))
zero_alone (suc n) h e = absurd (omega (arith, first_decimal (suc n) (omega arith) h))

pub numeral_is_read : (low high n : ℕ) → high < 2 ^ 64 → is_between low high n ≡ true → number_in low high (decimal n) ≡ Ok n
unfolding number_in
numeral_is_read low high n small h =
    let m = and_parts (leb low n) (leb n high) h in
    let top : n < 2 ^ 64 = omega (arith, leb-true n high m.1) in
    let k = decimal_is_IsNumeral n top in
    rw (is_numeral_without_zero (decimal n) k.0.0 (digits_decimal own n top) (zero_alone n top), digits_value-decimal own n top, h) refl
