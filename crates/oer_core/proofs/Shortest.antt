-- The spelling with the fewest bytes: it is one, and no other is shorter.
use Rattle.std.proofs.Common.{◌≡◌, ◌≤◌, ◌<◌, ◌+◌, ◌-◌, ◌*◌, ◌/◌, ◌%◌, ◌^◌, zero, suc, ℕ, List, [], ◌∷◌, length, fold, refl, sym, ◌∙◌, inl, inr, arith}
use Rattle.std.specs.Int.{w64, to_be_bytes, from_be_bytes}
use Rattle.std.proofs.lemmas.Bool.{cases_lt, lt-ltb, le-ltb}
use Rattle.std.proofs.lemmas.Nat.{from_be_bytes-to_be_bytes_8, mul-le}
use Rattle.std.proofs.Math.Nat.{pow-le-pow_right, pow-suc}
use Rattle.oer_core.specs.Length.{AreBytes, IsLength, big_endian, without_leading_zeros, shortest_length}

zeros_add_nothing : (bytes : List ℕ) → big_endian (without_leading_zeros bytes) ≡ big_endian bytes
unfolding without_leading_zeros
zeros_add_nothing [] = refl
zeros_add_nothing (zero ∷ bytes) = zeros_add_nothing bytes
zeros_add_nothing (suc b ∷ bytes) = refl

pub length-without_leading_zeros : (bytes : List ℕ) → length (without_leading_zeros bytes) ≤ length bytes
unfolding without_leading_zeros
length-without_leading_zeros [] = omega arith
length-without_leading_zeros (zero ∷ bytes) = omega (arith, length-without_leading_zeros bytes)
length-without_leading_zeros (suc b ∷ bytes) = omega arith

eight : (a b c d e f g h : ℕ) → big_endian (a ∷ b ∷ c ∷ d ∷ e ∷ f ∷ g ∷ h ∷ []) ≡ from_be_bytes w64 (a ∷ b ∷ c ∷ d ∷ e ∷ f ∷ g ∷ h ∷ [])
eight a b c d e f g h = omega arith

big_endian-to_be_bytes : (n : ℕ) → n < 2 ^ 64 → big_endian (to_be_bytes w64 n) ≡ n
big_endian-to_be_bytes n fits = eight _ _ _ _ _ _ _ _ ∙ from_be_bytes-to_be_bytes_8 n fits

pub digits_value : (n : ℕ) → n < 2 ^ 64 → big_endian (without_leading_zeros (to_be_bytes w64 n)) ≡ n
digits_value n fits = zeros_add_nothing (to_be_bytes w64 n) ∙ big_endian-to_be_bytes n fits

-- the digits from a number on
abbrev from : ℕ → List ℕ → ℕ
from start bytes = fold (λ n b. n * 256 + b) start bytes

grow_step : (start b power after : ℕ) → (start * 256 + b) * power ≤ after → start * (power * 256) ≤ after
grow_step start b power after h = omega arith

below_step : (start b power after : ℕ) → b < 256 → after < (start * 256 + b + 1) * power → after < (start + 1) * (power * 256)
below_step start b power after small h =
    let enough : (start * 256 + b + 1) * power ≤ (start * 256 + 256) * power = mul-le _ _ _ _ (omega arith) (omega arith) in
    omega arith

grows : (start : ℕ) (bytes : List ℕ) → start * 256 ^ length bytes ≤ from start bytes
grows start [] = omega arith
grows start (b ∷ bytes) = rw (pow-suc 256 (length bytes)) (grow_step start b (256 ^ length bytes) (from (start * 256 + b) bytes) (grows (start * 256 + b) bytes))

stays_below : (start : ℕ) (bytes : List ℕ) → AreBytes bytes → from start bytes < (start + 1) * 256 ^ length bytes
stays_below start [] fits = omega arith
stays_below start (b ∷ bytes) fits = rw (pow-suc 256 (length bytes))
    (below_step start b (256 ^ length bytes) (from (start * 256 + b) bytes) (fits 0) (stays_below (start * 256 + b) bytes (λ i. fits (suc i))))

-- the first digit is not zero
at_least : (bytes : List ℕ) (d : ℕ) (ds : List ℕ) → without_leading_zeros bytes ≡ d ∷ ds → 0 < d
unfolding without_leading_zeros
at_least [] d ds e = absurd cc
at_least (zero ∷ bytes) d ds e = at_least bytes d ds e
at_least (suc b ∷ bytes) d ds e = let same : suc b ≡ d = cc in omega arith

long_spelling : (n : ℕ) (digits : List ℕ) → 128 ≤ n → big_endian digits ≡ n → length digits ≤ 8
    → (128 < 128 + length digits) × (128 + length digits ≤ 136) × (length digits ≡ 128 + length digits - 128) × (n ≡ big_endian digits)
long_spelling n [] large value short = absurd (omega arith)
long_spelling n (d ∷ ds) large value short = (omega arith, omega arith, omega arith, sym value)

pub shortest_spells : (n : ℕ) → n < 2 ^ 64 → IsLength (shortest_length n) n
unfolding shortest_length
shortest_spells n fits =
    elim (cases_lt n 128) [
      | inl lt ↦ rw (lt-ltb n 128 lt) (inl (lt, refl, refl))
      | inr ge ↦ rw (le-ltb n 128 ge) (inr (long_spelling n (without_leading_zeros (to_be_bytes w64 n)) ge (digits_value n fits) (length-without_leading_zeros (to_be_bytes w64 n))))
    ]

-- of two spellings of one number, the one that begins with no zero is not longer
no_longer : (d : ℕ) (ds bytes : List ℕ) → 0 < d → AreBytes bytes → big_endian (d ∷ ds) ≡ big_endian bytes → length (d ∷ ds) ≤ length bytes
no_longer d ds bytes positive fits same =
    let least : (0 + d) * 256 ^ length ds ≤ big_endian (d ∷ ds) = grows (0 + d) ds in
    let one : 1 * 256 ^ length ds ≤ d * 256 ^ length ds = mul-le _ _ _ _ positive (omega arith) in
    let most : big_endian bytes < (0 + 1) * 256 ^ length bytes = stays_below 0 bytes fits in
    elim (cases_lt (length ds) (length bytes)) [
      | inl lt ↦ lt
      | inr ge ↦ absurd (omega (arith, pow-le-pow_right {n = 256} (omega arith) ge))
    ]

digits_no_longer : (n : ℕ) (digits bytes : List ℕ) → 128 ≤ n → ((d : ℕ) (ds : List ℕ) → digits ≡ d ∷ ds → 0 < d) → big_endian digits ≡ n
    → AreBytes bytes → n ≡ big_endian bytes → length digits ≤ length bytes
digits_no_longer n [] bytes large first value fits same = absurd (omega arith)
digits_no_longer n (d ∷ ds) bytes large first value fits same = no_longer d ds bytes (first d ds refl) fits (value ∙ same)

pub no_shorter : (n : ℕ) (s : List ℕ) → n < 2 ^ 64 → AreBytes s → IsLength s n → length (shortest_length n) ≤ length s
unfolding shortest_length
no_shorter n [] fits bytes spelled = absurd spelled
no_shorter n (b ∷ bs) fits bytes spelled =
    elim (cases_lt n 128) [
      | inl lt ↦ rw (lt-ltb n 128 lt) (omega arith)
      | inr ge ↦
          elim spelled [
            | inl short ↦ absurd (omega arith)
            | inr long ↦
                let digits : length (without_leading_zeros (to_be_bytes w64 n)) ≤ length bs =
                digits_no_longer n (without_leading_zeros (to_be_bytes w64 n)) bs ge (at_least (to_be_bytes w64 n)) (digits_value n fits) (λ i. bytes (suc i)) long.3 in
                rw (le-ltb n 128 ge) (omega arith)
          ]
    ]

-- two bytes of digits are enough below 65,536
two_digits : (n : ℕ) → n < 65536 → IsLength (130 ∷ n / 256 ∷ n % 256 ∷ []) n
two_digits n small = inr (omega arith, omega arith, refl, omega arith)

two_are_bytes : (n : ℕ) → n < 65536 → AreBytes (130 ∷ n / 256 ∷ n % 256 ∷ [])
two_are_bytes n small zero = omega arith
two_are_bytes n small (suc zero) = omega arith
two_are_bytes n small (suc (suc zero)) = omega arith
two_are_bytes n small (suc (suc (suc i))) = omega arith

pub short_length : (n : ℕ) → n < 65536 → length (shortest_length n) ≤ 3
short_length n small = no_shorter n (130 ∷ n / 256 ∷ n % 256 ∷ []) (omega arith) (two_are_bytes n small) (two_digits n small)
