-- Texts of digits that are decoded in chunks.
use Rattle.std.proofs.Common.{◌==◌, ◌&&◌, ◌↔◌, IsTrue, eqb-true, eq-eqb, Bool, arith, refl, ap, sym, ◌∙◌, ◌≡◌, ◌+◌, ◌-◌, ◌*◌, ◌/◌, ◌%◌, ◌<◌, ◌≤◌, ◌⊎◌, inl, inr, ℕ, zero, suc, List, [], ◌∷◌, true, false, Ok, length, drop, slice_index, slice_index_or}
use Rattle.std.proofs.lemmas.Bool.Decides.{leb_tells}
use lib.Dec.{leb}
use Rattle.std.specs.List.{list_all}
use Rattle.std.specs.Simd.{first_chunks}
use Rattle.std.proofs.lemmas.Grind.{get_or_default_zero}
use Rattle.std.proofs.lemmas.List.Sums.{AllPass-from_list_all, list_all-from_AllPass}
use Rattle.std.proofs.lemmas.List.{get_or-drop, get_or-take}
use Rattle.hex.specs.Hex.{decode_pairs, encode_lower, encode_with, is_hex_digit, lower_digits, pair_value}
use Rattle.hex.proofs.Pairs.{cons_byte, decode_pairs-ok_pair}

-- the first n bytes of a text are digits
abbrev pub AreDigits : ℕ → List ℕ → Type 0
AreDigits n text = (k : ℕ) → k < n → IsTrue (is_hex_digit (slice_index text k))

-- the first n bytes are those of the first n pairs, where these are digits
abbrev pub AreDecoded : ℕ → List ℕ → List ℕ → Type 0
AreDecoded n text out = (k : ℕ) → k < n → IsTrue (is_hex_digit (slice_index text (2 * k))) → IsTrue (is_hex_digit (slice_index text (2 * k + 1)))
    → (i : ℕ) → pair_value (slice_index text (2 * k)) (slice_index text (2 * k + 1)) i ≡ Ok (slice_index out k)

-- a byte of a chunk
pub at_chunk : (size n : ℕ) (s : List ℕ) (i m : ℕ) → i < n → m < size → slice_index (slice_index_or (first_chunks size n s) i []) m ≡ slice_index s (size * i + m)
at_chunk size zero s i m li lm = absurd (omega arith)
at_chunk size (suc n) s zero m li lm = let none : size * 0 + m ≡ m = omega arith in rw none (get_or-take size s m 0 lm)
at_chunk size (suc n) s (suc i) m li lm =
    let next : size + (size * i + m) ≡ size * suc i + m = omega arith in
    at_chunk size n (drop size s) i m (omega arith) lm ∙ get_or-drop size s (size * i + m) 0 ∙ ap (slice_index s) next

-- where each byte is that of its pair of digits, the text is decoded
pub all_decoded : (s out : List ℕ) (j : ℕ) → length s ≡ 2 * length out → AreDigits (length s) s → AreDecoded (length out) s out → decode_pairs j s ≡ Ok out
unfolding decode_pairs
all_decoded [] [] j size digits h = refl
all_decoded [] (v ∷ out) j size digits h = absurd (omega arith)
all_decoded (a ∷ []) out j size digits h = absurd (omega arith)
all_decoded (a ∷ b ∷ s) [] j size digits h = absurd (omega arith)
all_decoded (a ∷ b ∷ s) (v ∷ out) j size digits h =
    decode_pairs-ok_pair j a b v s (h 0 (omega arith) (digits 0 (omega arith)) (digits 1 (omega arith)) j)
    ∙ ap (cons_byte v) (all_decoded s out (j + 2) (omega arith) (λ k lt. digits (suc (suc k)) (omega arith)) later)
  where
    later : AreDecoded (length out) s out
    later k lt high low i =
        let three : 2 * suc k + 1 ≡ suc (suc (2 * k + 1)) = omega arith in
        let two : 2 * suc k ≡ suc (suc (2 * k)) = omega arith in
        (rw (three, two) at (h (suc k) (omega arith))) high low i

-- sixteen bytes more, which may overlap those before them
pub sixteen_more : (text out new chunk : List ℕ) (at n : ℕ) → at ≤ n → ((m : ℕ) → m < 32 → slice_index chunk m ≡ slice_index text (2 * at + m))
    → AreDecoded n text out
    → ((k : ℕ) → k < 16 → IsTrue (is_hex_digit (slice_index chunk (2 * k))) → IsTrue (is_hex_digit (slice_index chunk (2 * k + 1)))
    → (i : ℕ) → pair_value (slice_index chunk (2 * k)) (slice_index chunk (2 * k + 1)) i ≡ Ok (slice_index new (at + k)))
    → ((k : ℕ) → k < at → slice_index new k ≡ slice_index out k)
    → AreDecoded (at + 16) text new
sixteen_more text out new chunk at n le same done bytes before k lt first second i = by (leb_tells (suc k) at)
  where
    by : ((leb (suc k) at ≡ true) × (suc k ≤ at)) ⊎ ((leb (suc k) at ≡ false) × (at < suc k))
        → pair_value (slice_index text (2 * k)) (slice_index text (2 * k + 1)) i ≡ Ok (slice_index new k)
    by (inl t) = done k (omega (arith, t.1)) first second i ∙ ap Ok (sym (before k t.1))
    by (inr t) =
        let m : ℕ = k - at in
        let here : at + m ≡ k = omega (arith, t.1) in
        let high : 2 * at + 2 * m ≡ 2 * k = omega (arith, t.1) in
        let low : 2 * at + (2 * m + 1) ≡ 2 * k + 1 = omega (arith, t.1) in
        let small : m < 16 = omega (arith, t.1, lt) in
        let a : slice_index chunk (2 * m) ≡ slice_index text (2 * k) = same (2 * m) (omega (arith, small)) ∙ ap (slice_index text) high in
        let b : slice_index chunk (2 * m + 1) ≡ slice_index text (2 * k + 1) = same (2 * m + 1) (omega (arith, small)) ∙ ap (slice_index text) low in
        (rw (a, b, here) at (bytes m small)) first second i

-- all of 32 lanes are 0
abbrev pub AreZeros : List ℕ → Type 0
AreZeros lanes = (i : ℕ) → i < 32 → slice_index lanes i ≡ 0

-- the test of 32 bytes more, which may overlap those before them
pub digits_more : (text chunk was more now : List ℕ) (at n : ℕ) → at ≤ n → n ≤ at + 32 → ((m : ℕ) → m < 32 → slice_index chunk m ≡ slice_index text (at + m))
    → (AreZeros was ↔ AreDigits n text)
    → ((i : ℕ) → i < 32 → (slice_index more i == 0) ≡ is_hex_digit (slice_index chunk i))
    → ((i : ℕ) → i < 32 → (slice_index now i == 0) ≡ (slice_index was i == 0 && slice_index more i == 0))
    → AreZeros now ↔ AreDigits (at + 32) text
digits_more text chunk was more now at n le most same tested others both = (to, from)
  where
    parts : (a b : Bool) → (a && b) ≡ true → (a ≡ true) × (b ≡ true)
    parts true b e = (refl, e)
    parts false b e = absurd cc

    each : AreZeros now → (i : ℕ) → i < 32 → ((slice_index was i == 0) ≡ true) × ((slice_index more i == 0) ≡ true)
    each zeros i lt = parts _ _ (sym (both i lt) ∙ eq-eqb _ _ (zeros i lt))

    to : AreZeros now → AreDigits (at + 32) text
    to zeros k lt = by (leb_tells (suc k) at)
      where
        by : ((leb (suc k) at ≡ true) × (suc k ≤ at)) ⊎ ((leb (suc k) at ≡ false) × (at < suc k)) → IsTrue (is_hex_digit (slice_index text k))
        by (inl t) = tested.0 (λ i small. eqb-true _ _ (each zeros i small).0) k (omega (arith, t.1))
        by (inr t) =
            let m : ℕ = k - at in
            let here : at + m ≡ k = omega (arith, t.1) in
            let small : m < 32 = omega (arith, t.1, lt) in
            let byte : slice_index chunk m ≡ slice_index text k = same m small ∙ ap (slice_index text) here in
            ap is_hex_digit (sym byte) ∙ sym (others m small) ∙ (each zeros m small).1

    from : AreDigits (at + 32) text → AreZeros now
    from digits i lt =
        let a : (slice_index was i == 0) ≡ true = eq-eqb _ _ (tested.1 (λ k small. digits k (omega arith)) i lt) in
        let b : (slice_index more i == 0) ≡ true = others i lt ∙ ap is_hex_digit (same i lt) ∙ digits (at + i) (omega arith) in
        eqb-true _ _ (both i lt ∙ ap (λ t. t && (slice_index more i == 0)) a ∙ b)

-- a test that holds where all of a text are digits, and there only
pub tests_digits : (text : List ℕ) (b : Bool) → ((b ≡ true) ↔ AreDigits (length text) text) → b ≡ list_all is_hex_digit text
tests_digits text b h = by b _ h refl
  where
    by : (b all : Bool) → ((b ≡ true) ↔ AreDigits (length text) text) → list_all is_hex_digit text ≡ all → b ≡ list_all is_hex_digit text
    by true all h e = sym (list_all-from_AllPass is_hex_digit text (λ k d lt. rw (get_or_default_zero text k d lt) (h.0 refl k lt)))
    by false true h e = h.1 (λ k lt. AllPass-from_list_all is_hex_digit text e k 0 lt) ∙ sym e
    by false false h e = sym e

-- a text of digits, at the end of which a chunk begins
pub at_end : (text last : List ℕ) (start : ℕ) → last ≡ drop start text → (m : ℕ) → slice_index last m ≡ slice_index text (start + m)
at_end text last start e m = rw e (get_or-drop start text m 0)

-- the first n bytes have their digits
abbrev pub AreEncoded : ℕ → List ℕ → List ℕ → Type 0
AreEncoded n bytes out = (k : ℕ) → k < n → (slice_index out (2 * k) ≡ slice_index lower_digits (slice_index bytes k / 16))
    × (slice_index out (2 * k + 1) ≡ slice_index lower_digits (slice_index bytes k % 16))

-- where each byte has its digits, the bytes are encoded
pub all_encoded : (bytes out : List ℕ) → length out ≡ 2 * length bytes → AreEncoded (length bytes) bytes out → out ≡ encode_lower bytes
unfolding encode_with
all_encoded [] [] size h = refl
all_encoded [] (x ∷ out) size h = absurd (omega arith)
all_encoded (b ∷ bytes) [] size h = absurd (omega arith)
all_encoded (b ∷ bytes) (x ∷ []) size h = absurd (omega arith)
all_encoded (b ∷ bytes) (x ∷ y ∷ out) size h =
    let first = h 0 (omega arith) in
    ap (λ v. v ∷ y ∷ out) first.0 ∙ ap (λ v. slice_index lower_digits (b / 16) ∷ v ∷ out) first.1
    ∙ ap (λ l. slice_index lower_digits (b / 16) ∷ slice_index lower_digits (b % 16) ∷ l) (all_encoded bytes out (omega arith) later)
  where
    later : AreEncoded (length bytes) bytes out
    later k lt =
        let three : 2 * suc k + 1 ≡ suc (suc (2 * k + 1)) = omega arith in
        let two : 2 * suc k ≡ suc (suc (2 * k)) = omega arith in
        let both = h (suc k) (omega arith) in
        (rw two at both.0, rw three at both.1)

-- the digits of sixteen bytes more, which may overlap those before them
pub sixteen_more_digits : (bytes out new chunk : List ℕ) (at n : ℕ) → at ≤ n → ((m : ℕ) → m < 16 → slice_index chunk m ≡ slice_index bytes (at + m))
    → AreEncoded n bytes out
    → ((k : ℕ) → k < 16 → slice_index new (2 * at + 2 * k) ≡ slice_index lower_digits (slice_index chunk k / 16))
    → ((k : ℕ) → k < 16 → slice_index new (2 * at + (2 * k + 1)) ≡ slice_index lower_digits (slice_index chunk k % 16))
    → ((k : ℕ) → k < 2 * at → slice_index new k ≡ slice_index out k)
    → AreEncoded (at + 16) bytes new
sixteen_more_digits bytes out new chunk at n le same done high low before k lt = by (leb_tells (suc k) at)
  where
    by : ((leb (suc k) at ≡ true) × (suc k ≤ at)) ⊎ ((leb (suc k) at ≡ false) × (at < suc k))
        → (slice_index new (2 * k) ≡ slice_index lower_digits (slice_index bytes k / 16))
        × (slice_index new (2 * k + 1) ≡ slice_index lower_digits (slice_index bytes k % 16))
    by (inl t) =
        let was = done k (omega (arith, t.1)) in
        (before (2 * k) (omega (arith, t.1)) ∙ was.0, before (2 * k + 1) (omega (arith, t.1)) ∙ was.1)
    by (inr t) =
        let m : ℕ = k - at in
        let here : at + m ≡ k = omega (arith, t.1) in
        let even : 2 * at + 2 * m ≡ 2 * k = omega (arith, t.1) in
        let odd : 2 * at + (2 * m + 1) ≡ 2 * k + 1 = omega (arith, t.1) in
        let small : m < 16 = omega (arith, t.1, lt) in
        let byte : slice_index chunk m ≡ slice_index bytes k = same m small ∙ ap (slice_index bytes) here in
        (rw (even, byte) at (high m small), rw (odd, byte) at (low m small))
