-- First places, and tests of all bytes.
use Rattle.std.proofs.Common.{rules, arith, ap, sym, refl, ◌≡◌, ℕ, List, [], ◌∷◌, length, map, Option, Some, None, Bool, true, false, not, cond, eqb, ltb, suc, inl, inr, MatchBool}
use lib.Count.{count_trailing_zeros}
use lib.Lanes.{mask_l}
use Rattle.std.proofs.lemmas.Simd.{first_set_mask_l}
use Rattle.std.proofs.lemmas.Bool.{lt-ltb, le-ltb, cases_lt}
use Rattle.std.proofs.lemmas.List.{get_or_past}
use Rattle.std.specs.List.{position, position_or_len, list_all}
use Rattle.std.specs.Str.{IsAscii, IsNotAscii}
use Rattle.std.proofs.lemmas.List.Folds.{list_all_at}
use Rattle.std.proofs.lemmas.List.Sums.{prefix_len_is}
use Rattle.memchr.specs.Find.{IsFirstByte}

-- a test that isn't true fails
fails : (b : Bool) → ¬ (b ≡ true) → not b ≡ true
fails true h = absurd (h refl)
fails false h = refl

pub first_is_position : (test : ℕ → Bool) (xs : List ℕ) (r : Option ℕ) → IsFirstByte test xs r → r ≡ position test xs
first_is_position test xs None h =
    let e : position_or_len test xs ≡ length xs = prefix_len_is (λ x. not (test x)) xs (length xs) 0 (omega arith) (λ k l. fails _ (h k (omega arith) l)) (λ l. absurd (omega arith)) in
    rw e (search rules)
first_is_position test xs (Some k) h =
    let e : position_or_len test xs ≡ k = prefix_len_is (λ x. not (test x)) xs k 0 (omega (arith, h.0.high)) (λ j l. fails _ (h.0.before j (omega arith) l)) (λ l. ap not h.1) in
    rw (e, lt-ltb _ _ h.0.high) refl

pub all_ascii : (xs : List ℕ) → IsAscii xs → list_all (λ b. ltb b 128) xs ≡ true
all_ascii [] h = refl
all_ascii (x ∷ xs) h = rw (lt-ltb _ _ (h 0), all_ascii xs (λ i. h (suc i))) refl

pub ascii_test : (xs : List ℕ) (b : Bool) → MatchBool b (IsAscii xs) (IsNotAscii xs) → b ≡ list_all (λ b. ltb b 128) xs
ascii_test xs true h = sym (all_ascii xs h)
ascii_test xs false h = elim (cases_lt h.0 (length xs)) [
  | inl inside ↦ sym (list_all_at (λ b. ltb b 128) xs h.0 0 inside (le-ltb _ _ h.1))
  | inr past ↦ absurd (omega (arith, h.1, get_or_past xs h.0 0 past))
]

-- the lowest bit that is set in the marks of 16 bytes is the place of the first that is marked
pub place_marked : (byte mask : ℕ) (bytes : List ℕ) → length bytes ≡ 16 → mask ≡ mask_l (map (λ b. eqb b byte) bytes)
    → cond (eqb mask 0) 16 (count_trailing_zeros 64 mask) ≡ position_or_len (λ b. eqb b byte) bytes
place_marked byte mask bytes long is = rw is (first_set_mask_l (λ b. eqb b byte) bytes 16 long (omega arith))
