-- The function that reads a number of eight bytes and the bytes that spell it, joined.
use Rattle.std.proofs.Common.{◌≡◌, ◌≤◌, ◌<◌, ◌^◌, ℕ, List, ◌++◌, length, take, drop, ltb, cond, Bool, false, Result, Ok, Err, refl, sym, ap, subst, ◌∙◌, arith, inl, inr}
use Rattle.std.specs.Int.{w64, from_be_bytes, to_be_bytes}
use Rattle.std.proofs.lemmas.Bool.{cases_lt, ltb-false, le-ltb}
use Rattle.std.proofs.lemmas.List.{take_at, drop_at, take-append-drop, length-append, length-take, get_or-take, get_or_past}
use Rattle.std.proofs.lemmas.Nat.{be_bytes_8, from_be_bytes-to_be_bytes_8}
use Rattle.oer_core.specs.declared.fault.OerFault.{OerFault}
use Rattle.oer_core.specs.declared.fault.OerFault.TheVariants.{Short}
use Rattle.oer_core.specs.Length.{AreBytes, number_at}
use Rattle.oer_core.proofs.Results.{guard_ok}

AreBytes-take : (n : ℕ) (bytes : List ℕ) → AreBytes bytes → AreBytes (take n bytes)
AreBytes-take n bytes h i =
    elim (cases_lt i n) [
      | inl lt ↦ rw (get_or-take n bytes i 0 lt) (h i)
      | inr le ↦ rw (get_or_past (take n bytes) i 0 (omega (arith, length-take n bytes))) (omega arith)
    ]

below_64 : (bytes : List ℕ) → AreBytes bytes → from_be_bytes w64 bytes < 2 ^ 64
below_64 bytes fits = omega (arith, fits 0, fits 1, fits 2, fits 3, fits 4, fits 5, fits 6, fits 7)

pub number_takes : (bytes : List ℕ) (n : ℕ) (rest : List ℕ) → AreBytes bytes → number_at bytes ≡ Ok (n, rest) → (n < 2 ^ 64) × (bytes ≡ to_be_bytes w64 n ++ rest)
unfolding number_at
number_takes bytes n rest fits e =
    let g = guard_ok (ltb (length bytes) 8) Short (from_be_bytes w64 (take 8 bytes), drop 8 bytes) (n, rest) e in
    let long : 8 ≤ length bytes = ltb-false _ _ g.0 in
    let n-is : from_be_bytes w64 (take 8 bytes) ≡ n = ap (λ (p : ℕ × List ℕ). p.0) g.1 in
    let rest-is : drop 8 bytes ≡ rest = ap (λ (p : ℕ × List ℕ). p.1) g.1 in
    let fits8 = AreBytes-take 8 bytes fits in
    let front : to_be_bytes w64 n ≡ take 8 bytes = be_bytes_8 (take 8 bytes) n (omega (arith, length-take 8 bytes)) fits8 (sym n-is) in
    (omega (arith, below_64 (take 8 bytes) fits8, n-is), sym (take-append-drop 8 bytes) ∙ ap (λ (x : List ℕ). x ++ drop 8 bytes) (sym front) ∙ ap (λ (x : List ℕ). to_be_bytes w64 n ++ x) rest-is)

number_of_front : (front rest : List ℕ) → length front ≡ 8 → number_at (front ++ rest) ≡ Ok (from_be_bytes w64 front, rest)
unfolding number_at
number_of_front front rest len =
    let long : ltb (length (front ++ rest)) 8 ≡ false = le-ltb _ _ (omega (arith, length-append front rest)) in
    let made : List ℕ → List ℕ → Result (ℕ × List ℕ) OerFault = λ x y. Ok (from_be_bytes w64 x, y) in
    let taken : made (take 8 (front ++ rest)) (drop 8 (front ++ rest)) ≡ made front rest =
    ap (λ (x : List ℕ). made x (drop 8 (front ++ rest))) (take_at front rest 8 len) ∙ ap (λ (x : List ℕ). made front x) (drop_at front rest 8 len) in
    subst (λ (b : Bool). cond b (Err Short) (made (take 8 (front ++ rest)) (drop 8 (front ++ rest))) ≡ made front rest) (sym long) taken

pub number_again : (n : ℕ) (rest : List ℕ) → n < 2 ^ 64 → number_at (to_be_bytes w64 n ++ rest) ≡ Ok (n, rest)
number_again n rest lt =
    let made : ℕ → Result (ℕ × List ℕ) OerFault = λ k. Ok (k, rest) in
    number_of_front (to_be_bytes w64 n) rest refl ∙ ap made (from_be_bytes-to_be_bytes_8 n lt)
