-- The frame of a key is made of bytes.
use Rattle.std.proofs.Common.{◌≡◌, ◌<◌, ◌≤◌, ◌+◌, ◌/◌, ◌%◌, ◌^◌, ℕ, zero, suc, Bool, true, false, List, [], ◌∷◌, ◌++◌, length, get_or, ltb, refl, sym, subst, arith}
use Rattle.std.specs.Int.{w64, to_be_bytes, byte_at, bytes_high_first}
use Rattle.std.proofs.Math.ListN.{get_or-eq_default}
use Rattle.std.proofs.lemmas.Bool.{ltb-true}
use mathlib.Core.Logic.{dite}
use native.Mathlib.Decide.{dec_lt}
use Rattle.oer_core.specs.Length.{AreBytes, shortest_length, without_leading_zeros}
use Rattle.oer_core.specs.Laws.{LengthLaws}
use Rattle.ilp_addr.specs.Timestamp.{IsTimestamp}

pub none : AreBytes []
none i = omega arith

pub one_more : (b : ℕ) (bs : List ℕ) → b < 256 → AreBytes bs → AreBytes (b ∷ bs)
one_more b bs lt are zero = lt
one_more b bs lt are (suc i) = are i

pub both : (bs cs : List ℕ) → AreBytes bs → AreBytes cs → AreBytes (bs ++ cs)
both [] cs first second = second
both (b ∷ bs) cs first second = one_more b (bs ++ cs) (first 0) (both bs cs (λ i. first (suc i)) second)

low_byte : (k n : ℕ) → byte_at k n < 256
low_byte zero n = omega arith
low_byte (suc k) n = remainder (n / 256 ^ suc k)
  where
    remainder : (m : ℕ) → m % 256 < 256
    remainder m = omega arith

of_number : (k n : ℕ) → AreBytes (bytes_high_first k n)
of_number zero n = none
of_number (suc k) n = one_more (byte_at k n) (bytes_high_first k n) (low_byte k n) (of_number k n)

pub amount : (n : ℕ) → AreBytes (to_be_bytes w64 n)
amount n = of_number 8 n

without_zeros : (bs : List ℕ) → AreBytes bs → AreBytes (without_leading_zeros bs)
unfolding without_leading_zeros
without_zeros [] are = are
without_zeros (zero ∷ bs) are = without_zeros bs (λ i. are (suc i))
without_zeros (suc b ∷ bs) are = are

pub spelling : LengthLaws → (n : ℕ) → n < 65_536 → AreBytes (shortest_length n)
unfolding shortest_length
spelling laws n few = by (ltb n 128) refl
  where
    by : (b : Bool) → ltb n 128 ≡ b → AreBytes (shortest_length n)
    by true is = rw is (one_more n [] (let less = ltb-true n 128 is in omega arith) none)
    by false is =
        let z : List ℕ = without_leading_zeros (to_be_bytes w64 n) in
        let shape : shortest_length n ≡ (128 + length z) ∷ z = rw is refl in
        let short : length ((128 + length z) ∷ z) ≤ 3 = subst (λ (bs : List ℕ). length bs ≤ 3) shape (laws.three_bytes n few) in
        subst AreBytes (sym shape) (one_more (128 + length z) z (omega arith) (without_zeros (to_be_bytes w64 n) (amount n)))

pub timestamp : (text : List ℕ) → IsTimestamp text → AreBytes text
timestamp text is i = dite (dec_lt i (length text))
    (λ inside. let digit = is.digits i 0 inside in omega arith)
    (λ past. let none_there : get_or text i 0 ≡ 0 = get_or-eq_default text 0 (omega arith) in omega arith)
