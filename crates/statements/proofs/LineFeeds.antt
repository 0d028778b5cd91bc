-- The first byte that meets a test.
use Rattle.std.proofs.Common.{rules, arith, ap, refl, ◌≡◌, ℕ, List, length, Option, Some, None, Bool, true, false, not}
use Rattle.std.proofs.lemmas.Bool.{lt-ltb}
use Rattle.std.specs.List.{position, position_or_len}
use Rattle.std.proofs.lemmas.List.Sums.{prefix_len_is}
use Rattle.memchr.specs.Find.{IsFirstByte}

-- a test that isn't true fails
fails : (b : Bool) → ¬ (b ≡ true) → not b ≡ true
fails true h = absurd (h refl)
fails false h = refl

pub first_place : (test : ℕ → Bool) (xs : List ℕ) (r : Option ℕ) → IsFirstByte test xs r → r ≡ position test xs
first_place test xs None h =
    let e : position_or_len test xs ≡ length xs = prefix_len_is (λ x. not (test x)) xs (length xs) 0 (omega arith) (λ k l. fails _ (h k (omega arith) l)) (λ l. absurd (omega arith)) in
    rw e (search rules)
first_place test xs (Some k) h =
    let e : position_or_len test xs ≡ k = prefix_len_is (λ x. not (test x)) xs k 0 (omega (arith, h.0.high)) (λ j l. fails _ (h.0.before j (omega arith) l)) (λ l. ap not h.1) in
    rw (e, lt-ltb _ _ h.0.high) refl
