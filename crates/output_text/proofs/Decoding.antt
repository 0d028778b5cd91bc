-- Texts that spell bytes, pair by pair.
use Rattle.std.proofs.Common.{arith, refl, sym, ◌∙◌, ◌≡◌, ◌+◌, ◌*◌, ◌%◌, ◌<◌, ◌≤◌, ℕ, zero, suc, List, [], ◌∷◌, Bool, true, false, is_some, length, slice_index, slice_index_or, Result, Ok, Err, Option, Some, None}
use Rattle.std.specs.List.{AllPass, list_all}
use Rattle.std.specs.Result.{result_ok}
use Rattle.std.specs.Simd.{first_chunks}
use Rattle.std.proofs.lemmas.List.Sums.{AllPass-from_list_all, list_all-from_AllPass}
use Rattle.hex.specs.Hex.{decode_of, is_hex_digit}
use Rattle.hex.specs.declared.error.FromHexError.{FromHexError}
use Rattle.hex.proofs.HexLemmas.{decode_of-ok, decode_of-digits}

ok_of : (r : Result (List ℕ) FromHexError) → is_some (result_ok r) ≡ true → (bytes : List ℕ) × (r ≡ Ok bytes)
ok_of (Ok bytes) h = (bytes, refl)
ok_of (Err e) h = absurd cc

-- what spells bytes is digits, and an even number of them
pub digits_of : (s : List ℕ) → is_some (result_ok (decode_of s)) ≡ true → (length s % 2 ≡ 0) × AllPass is_hex_digit s
digits_of s h =
    let found = ok_of (decode_of s) h in
    let all = decode_of-ok s found.0 found.1 in
    (all.0, all.1)

none_unless : (o : Option (List ℕ)) → (is_some o ≡ true → ⊥) → is_some o ≡ false
none_unless None h = refl
none_unless (Some bytes) h = absurd (h refl)

-- what is not there is none
pub none_there : (o : Option (List ℕ)) → is_some o ≡ false → None ≡ o
none_there None h = refl
none_there (Some bytes) h = absurd cc

-- an even number of digits spells bytes
pub spells : (s : List ℕ) (b : Bool) → length s % 2 ≡ 0 → b ≡ list_all is_hex_digit s → b ≡ is_some (result_ok (decode_of s))
spells s true even h =
    let found = decode_of-digits s even (AllPass-from_list_all is_hex_digit s (sym h)) in
    rw found.1 refl
spells s false even h = sym (none_unless (result_ok (decode_of s)) (λ some. absurd (differ (h ∙ list_all-from_AllPass is_hex_digit s (digits_of s some).1))))
  where
    differ : false ≡ true → ⊥
    differ e = cc

-- an odd number spells none
pub odd_spells_none : (s : List ℕ) → (length s % 2 ≡ 0 → ⊥) → is_some (result_ok (decode_of s)) ≡ false
odd_spells_none s odd = none_unless (result_ok (decode_of s)) (λ some. odd (digits_of s some).0)

-- a pair of a text that is cut in pairs
pub pair_at : (n : ℕ) (s : List ℕ) (i : ℕ) → i < n → 2 * n ≤ length s → slice_index_or (first_chunks 2 n s) i [] ≡ slice_index s (2 * i) ∷ slice_index s (2 * i + 1) ∷ []
pair_at zero s i lt fits = absurd (omega arith)
pair_at (suc n) [] i lt fits = absurd (omega arith)
pair_at (suc n) (a ∷ []) i lt fits = absurd (omega arith)
pair_at (suc n) (a ∷ b ∷ s) zero lt fits = refl
pair_at (suc n) (a ∷ b ∷ s) (suc i) lt fits =
    let three : 2 * suc i + 1 ≡ suc (suc (2 * i + 1)) = omega arith in
    let two : 2 * suc i ≡ suc (suc (2 * i)) = omega arith in
    rw (three, two) (pair_at n s i (omega arith) (omega arith))
