-- Two writes, one behind the other, are one write of both; what was written is found at its place.
use Rattle.std.proofs.Common.{◌≡◌, ◌≤◌, ◌+◌, ℕ, List, ◌++◌, length, take, drop, ap, ◌∙◌, append_assoc, arith}
use Rattle.std.proofs.lemmas.List.{take_at, drop_at, length-append, length-take-le}
use Rattle.std.proofs.lemmas.Slice.{drop-append-drop}
use Rattle.oer_core.specs.Writing.{overwritten}

pub overwritten_twice : (old : List ℕ) (at : ℕ) (a b : List ℕ) → at + length a ≤ length old → overwritten (overwritten old at a) (at + length a) b ≡ overwritten old at (a ++ b)
overwritten_twice old at a b fits =
    let front : List ℕ = take at old ++ a in
    let rest : List ℕ = drop (at + length a) old in
    let len : length front ≡ at + length a = omega (arith, length-append (take at old) a, length-take-le at old (omega arith)) in
    let kept : take (at + length a) (front ++ rest) ≡ front = take_at front rest (at + length a) len in
    let both : at + length a + length b ≡ at + length (a ++ b) = omega (arith, length-append a b) in
    let passed : drop (at + length a + length b) (front ++ rest) ≡ drop (at + length (a ++ b)) old =
    drop-append-drop (at + length a) old front (at + length a + length b) (omega arith) len ∙ ap (λ (k : ℕ). drop k old) both in
    ap (λ (x : List ℕ). x ++ b ++ drop (at + length a + length b) (front ++ rest)) kept
    ∙ ap (λ (x : List ℕ). front ++ b ++ x) passed
    ∙ ap (λ (x : List ℕ). x ++ drop (at + length (a ++ b)) old) (append_assoc (take at old) a b)

pub drop-overwritten : (old : List ℕ) (at : ℕ) (bytes : List ℕ) → at ≤ length old → drop at (overwritten old at bytes) ≡ bytes ++ drop (at + length bytes) old
drop-overwritten old at bytes within =
    ap (drop at) (append_assoc (take at old) bytes (drop (at + length bytes) old))
    ∙ drop_at (take at old) (bytes ++ drop (at + length bytes) old) at (length-take-le at old within)
