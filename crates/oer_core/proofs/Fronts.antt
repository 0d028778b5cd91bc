-- No spelling of a length begins another.
use Rattle.std.proofs.Common.{◌≡◌, ◌+◌, ℕ, List, ◌++◌, length, take, Result, Ok, Err, refl, sym, ap, ◌∙◌, arith}
use Rattle.std.proofs.lemmas.List.{take_at}
use Rattle.oer_core.specs.declared.fault.OerFault.{OerFault}
use Rattle.oer_core.specs.Length.{IsLength, length_at}
use Rattle.oer_core.proofs.Lengths.{length_again}

value_of : Result (ℕ × ℕ) OerFault → ℕ × ℕ
value_of (Ok r) = r
value_of (Err e) = (0, 0)

same_read : (r : Result (ℕ × ℕ) OerFault) (n k m l : ℕ) → r ≡ Ok (n, k) → r ≡ Ok (m, l) → (n ≡ m) × (k ≡ l)
unfolding value_of
same_read r n k m l first second =
    let pairs : (n, k) ≡ (m, l) = sym (ap value_of first) ∙ ap value_of second in
    (ap (λ (p : ℕ × ℕ). p.0) pairs, ap (λ (p : ℕ × ℕ). p.1) pairs)

pub same_spelling : (s t rest more : List ℕ) (n m : ℕ) → IsLength s n → IsLength t m → s ++ rest ≡ t ++ more → (s ≡ t) × (n ≡ m)
same_spelling s t rest more n m hs ht e =
    let first = length_again (n + m) n s rest hs (omega arith) in
    let second = length_again (n + m) m t more ht (omega arith) in
    let same = same_read (length_at (n + m) (s ++ rest)) n (length s) m (length t) first (ap (length_at (n + m)) e ∙ second) in
    (sym (take_at s rest (length t) same.1) ∙ ap (λ (x : List ℕ). take (length t) x) e ∙ take_at t more (length t) refl, same.0)
