-- Eight bytes, each 0 if it was a digit, read as one number.
use Rattle.std.proofs.Common.{◌≡◌, ◌<◌, ◌+◌, ◌-◌, ◌*◌, ◌%◌, ◌&&◌, ◌∙◌, ℕ, zero, suc, List, [], ◌∷◌, length, get_or, map, Bool, true, false, refl, sym, ap, ap₂, arith, eqb, ltb, ltb-true, ltb-false}
use lib.Lanes.{zip2, sel_l, top}
use lib.ListN.{replicate}
use mathlib.Core.Bool.{cond}
use Rattle.std.specs.Int.{w64, from_le_bytes}
use Rattle.std.specs.List.{list_all}
use Rattle.std.proofs.lemmas.Bool.{ne_eqb}
use Rattle.common_types.specs.Numerals.{is_digit}

-- how far a byte is past the digits, as a number of 8 bits
abbrev pub past : ℕ → ℕ
past b = (b + (256 - 48)) % 256 - 9

-- one byte less another, which wraps
abbrev pub less : ℕ → ℕ → ℕ
less a b = (a + (256 - b)) % 256

-- all bits, where one byte is below another
abbrev pub below_mask : ℕ → ℕ → ℕ
below_mask a b = cond (ltb a b) 255 0

-- the larger of a byte and 9, less 9
past_nine : (a : ℕ) → a < 256 → less (cond (top 7 (below_mask a 9)) 9 a) 9 ≡ a - 9
past_nine a lt = by (ltb a 9) refl
  where
    by : (t : Bool) → ltb a 9 ≡ t → less (cond (top 7 (cond t 255 0)) 9 a) 9 ≡ a - 9
    by true e = omega (arith, ltb-true _ _ e)
    by false e = omega (arith, ltb-false _ _ e)

-- how far each byte of some lanes is past the digits
pub past_at : (n : ℕ) (bytes : List ℕ) (i : ℕ) → length bytes ≡ n → i < n
    → get_or (zip2 less (sel_l (map (top 7) (zip2 below_mask (zip2 less bytes (replicate n 48)) (replicate n 9))) (replicate n 9) (zip2 less bytes (replicate n 48))) (replicate n 9)) i 0
    ≡ past (get_or bytes i 0)
past_at zero bytes i size lt = absurd (omega arith)
past_at (suc n) [] i size lt = absurd (omega arith)
past_at (suc n) (b ∷ bytes) zero size lt = past_nine (less b 48) (omega arith)
past_at (suc n) (b ∷ bytes) (suc i) size lt = past_at n bytes i (omega arith) (omega arith)

abbrev number : List ℕ → ℕ
number [] = 0
number (b ∷ bytes) = b + 256 * number bytes

eight : (bytes : List ℕ) → length bytes ≡ 8 → from_le_bytes w64 bytes ≡ number bytes
eight [] e = absurd (omega (arith, e))
eight (a ∷ []) e = absurd (omega (arith, e))
eight (a ∷ b ∷ []) e = absurd (omega (arith, e))
eight (a ∷ b ∷ c ∷ []) e = absurd (omega (arith, e))
eight (a ∷ b ∷ c ∷ d ∷ []) e = absurd (omega (arith, e))
eight (a ∷ b ∷ c ∷ d ∷ f ∷ []) e = absurd (omega (arith, e))
eight (a ∷ b ∷ c ∷ d ∷ f ∷ g ∷ []) e = absurd (omega (arith, e))
eight (a ∷ b ∷ c ∷ d ∷ f ∷ g ∷ h ∷ []) e = absurd (omega (arith, e))
eight (a ∷ b ∷ c ∷ d ∷ f ∷ g ∷ h ∷ i ∷ []) e = omega arith
eight (a ∷ b ∷ c ∷ d ∷ f ∷ g ∷ h ∷ i ∷ j ∷ more) e = absurd (omega (arith, e))

sum_is_zero : (b n : ℕ) → eqb (b + 256 * n) 0 ≡ (eqb b 0 && eqb n 0)
sum_is_zero zero zero = refl
sum_is_zero zero (suc n) = rw (ne_eqb (0 + 256 * suc n) 0 (omega arith), ne_eqb (suc n) 0 (omega arith)) refl
sum_is_zero (suc b) n = rw (ne_eqb (suc b + 256 * n) 0 (omega arith), ne_eqb (suc b) 0 (omega arith)) refl

digit : (b : ℕ) → b < 256 → eqb (past b) 0 ≡ is_digit b
digit b fits = grind (arith)

digits : (pasts bytes : List ℕ) → length pasts ≡ length bytes → ((i : ℕ) → i < length bytes → get_or pasts i 0 ≡ past (get_or bytes i 0))
    → ((i : ℕ) → get_or bytes i 0 < 256) → eqb (number pasts) 0 ≡ list_all is_digit bytes
digits [] [] long each fits = refl
digits [] (b ∷ bytes) long each fits = absurd (omega (arith, long))
digits (p ∷ pasts) [] long each fits = absurd (omega (arith, long))
digits (p ∷ pasts) (b ∷ bytes) long each fits =
    sum_is_zero p (number pasts) ∙ ap₂ (λ x y. x && y) (ap (λ n. eqb n 0) (each 0 (omega arith)) ∙ digit b (fits 0))
    (digits pasts bytes (omega (arith, long)) (λ i lt. each (suc i) (omega (arith, lt))) (λ i. fits (suc i)))

pub are_digits : (pasts bytes : List ℕ) → length pasts ≡ 8 → length bytes ≡ 8 → ((i : ℕ) → i < 8 → get_or pasts i 0 ≡ (get_or bytes i 0 + 208) % 256 - 9)
    → ((i : ℕ) → get_or bytes i 0 < 256) → eqb (from_le_bytes w64 pasts) 0 ≡ list_all is_digit bytes
are_digits pasts bytes long size each fits = rw (eight pasts long) (digits pasts bytes (long ∙ sym size) (λ i lt. each i (omega (arith, lt, size))) fits)
