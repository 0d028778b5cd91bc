-- The order of two texts of which one ends.
use Rattle.std.proofs.Common.{◌≡◌, ◌<◌, ◌∙◌, ℕ, List, [], ◌∷◌, length, drop, min, refl, sym, inl, inr, arith}
use Rattle.std.specs.Cmp.{nat_cmp_is}
use Rattle.std.specs.Cmp.Lexicographic.{slice_cmp}
use Rattle.std.specs.Ordering.{nat_cmp}
use Rattle.std.specs.declared.cmp.Ordering.TheVariants.{Less, Equal, Greater}
use Rattle.std.proofs.lemmas.Bool.{cases_lt}
use Rattle.std.proofs.lemmas.List.{drop_all, length-drop}

first_ends : (ys : List ℕ) → 0 < length ys → slice_cmp nat_cmp [] ys ≡ Less
first_ends [] more = absurd (omega (arith, more))
first_ends (y ∷ ys) more = refl

second_ends : (xs : List ℕ) → 0 < length xs → slice_cmp nat_cmp xs [] ≡ Greater
second_ends [] more = absurd (omega (arith, more))
second_ends (x ∷ xs) more = refl

-- behind as many bytes as the shorter one has
pub at_end : (xs ys : List ℕ) (i : ℕ) → i ≡ min (length xs) (length ys)
    → nat_cmp (length xs) (length ys) ≡ slice_cmp nat_cmp (drop i xs) (drop i ys)
at_end xs ys i e =
    elim (cases_lt (length xs) (length ys)) [
      | inl less ↦ sym (nat_cmp_is (length xs) (length ys) Less less)
          ∙ sym (rw (drop_all i xs (omega (arith, e))) (first_ends (drop i ys) (omega (arith, e, length-drop i ys))))
      | inr least ↦ elim (cases_lt (length ys) (length xs)) [
        | inl more ↦ sym (nat_cmp_is (length xs) (length ys) Greater more)
            ∙ sym (rw (drop_all i ys (omega (arith, e))) (second_ends (drop i xs) (omega (arith, e, length-drop i xs))))
        | inr both ↦ sym (nat_cmp_is (length xs) (length ys) Equal (omega arith))
            ∙ sym (rw (drop_all i xs (omega (arith, e)), drop_all i ys (omega (arith, e))) refl)
      ]
    ]
