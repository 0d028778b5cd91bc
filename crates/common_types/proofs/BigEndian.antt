-- The order of big-endian numbers is that of their bytes.
use Rattle.std.proofs.Common.{◌≡◌, ◌≤◌, ◌<◌, ◌+◌, ◌*◌, ◌^◌, suc, ℕ, List, [], ◌∷◌, length, fold, get_or, refl, sym, ap, ◌∙◌, inl, inr, arith}
use Rattle.std.specs.Int.{w64, from_be_bytes}
use Rattle.std.specs.Cmp.{nat_cmp_is}
use Rattle.std.specs.Cmp.Lexicographic.{slice_cmp}
use Rattle.std.specs.Ordering.{nat_cmp, ordering_then}
use Rattle.std.specs.declared.cmp.Ordering.TheVariants.{Less, Equal, Greater}
use Rattle.std.proofs.lemmas.Bool.{cases_lt, cases_eq}
use Rattle.std.proofs.lemmas.Nat.{mul-le}
use Rattle.std.proofs.Math.Nat.{pow-suc}

abbrev AreBytes : List ℕ → Type 0
AreBytes bytes = (i : ℕ) → get_or bytes i 0 < 256

-- the digits from a number on
abbrev from : ℕ → List ℕ → ℕ
from start bytes = fold (λ n b. n * 256 + b) start bytes

grow_step : (start b power after : ℕ) → (start * 256 + b) * power ≤ after → start * (power * 256) ≤ after
grow_step start b power after h = omega arith

below_step : (start b power after : ℕ) → b < 256 → after < (start * 256 + b + 1) * power → after < (start + 1) * (power * 256)
below_step start b power after small h =
    let enough : (start * 256 + b + 1) * power ≤ (start * 256 + 256) * power = mul-le _ _ _ _ (omega arith) (omega arith) in
    omega arith

grows : (start : ℕ) (bytes : List ℕ) → start * 256 ^ length bytes ≤ from start bytes
grows start [] = omega arith
grows start (b ∷ bytes) = rw (pow-suc 256 (length bytes)) (grow_step start b (256 ^ length bytes) (from (start * 256 + b) bytes) (grows (start * 256 + b) bytes))

stays_below : (start : ℕ) (bytes : List ℕ) → AreBytes bytes → from start bytes < (start + 1) * 256 ^ length bytes
stays_below start [] fits = omega arith
stays_below start (b ∷ bytes) fits = rw (pow-suc 256 (length bytes))
    (below_step start b (256 ^ length bytes) (from (start * 256 + b) bytes) (fits 0) (stays_below (start * 256 + b) bytes (λ i. fits (suc i))))

rises : (m n : ℕ) (xs ys : List ℕ) → m < n → length xs ≡ length ys → AreBytes xs → from m xs < from n ys
rises m n xs ys less long bytes =
    let below = stays_below m xs bytes in
    let above = grows n ys in
    let more : (m + 1) * 256 ^ length xs ≤ n * 256 ^ length ys = rw long (mul-le _ _ _ _ (omega arith) (omega arith)) in
    omega (arith, below, above, more)

in_order : (start : ℕ) (xs ys : List ℕ) → length xs ≡ length ys → AreBytes xs → AreBytes ys
    → nat_cmp (from start xs) (from start ys) ≡ slice_cmp nat_cmp xs ys
in_order start [] [] long some others = sym (nat_cmp_is start start Equal refl)
in_order start [] (y ∷ ys) long some others = absurd (omega (arith, long))
in_order start (x ∷ xs) [] long some others = absurd (omega (arith, long))
in_order start (x ∷ xs) (y ∷ ys) long some others =
    elim (cases_lt x y) [
      | inl less ↦
          sym (nat_cmp_is _ _ Less (rises (start * 256 + x) (start * 256 + y) xs ys (omega arith) (omega (arith, long)) (λ i. some (suc i))))
          ∙ ap (λ o. ordering_then o (slice_cmp nat_cmp xs ys)) (nat_cmp_is x y Less less)
      | inr least ↦ elim (cases_eq x y) [
        | inl same ↦ rw same (in_order (start * 256 + y) xs ys (omega (arith, long)) (λ i. some (suc i)) (λ i. others (suc i))
            ∙ ap (λ o. ordering_then o (slice_cmp nat_cmp xs ys)) (nat_cmp_is y y Equal refl))
        | inr other ↦
            sym (nat_cmp_is _ _ Greater (rises (start * 256 + y) (start * 256 + x) ys xs (omega arith) (omega (arith, long)) (λ i. others (suc i))))
            ∙ ap (λ o. ordering_then o (slice_cmp nat_cmp xs ys)) (nat_cmp_is x y Greater (omega arith))
      ]
    ]

eight : (xs : List ℕ) → length xs ≡ 8 → from_be_bytes w64 xs ≡ from 0 xs
eight [] e = absurd (omega (arith, e))
eight (a ∷ []) e = absurd (omega (arith, e))
eight (a ∷ b ∷ []) e = absurd (omega (arith, e))
eight (a ∷ b ∷ c ∷ []) e = absurd (omega (arith, e))
eight (a ∷ b ∷ c ∷ d ∷ []) e = absurd (omega (arith, e))
eight (a ∷ b ∷ c ∷ d ∷ e' ∷ []) e = absurd (omega (arith, e))
eight (a ∷ b ∷ c ∷ d ∷ e' ∷ f ∷ []) e = absurd (omega (arith, e))
eight (a ∷ b ∷ c ∷ d ∷ e' ∷ f ∷ g ∷ []) e = absurd (omega (arith, e))
eight (a ∷ b ∷ c ∷ d ∷ e' ∷ f ∷ g ∷ h ∷ []) e = omega arith
eight (a ∷ b ∷ c ∷ d ∷ e' ∷ f ∷ g ∷ h ∷ i ∷ more) e = absurd (omega (arith, e))

pub order_of_eight : (xs ys : List ℕ) → length xs ≡ 8 → length ys ≡ 8 → AreBytes xs → AreBytes ys
    → nat_cmp (from_be_bytes w64 xs) (from_be_bytes w64 ys) ≡ slice_cmp nat_cmp xs ys
order_of_eight xs ys long as_long some others =
    rw (eight xs long, eight ys as_long) (in_order 0 xs ys (long ∙ sym as_long) some others)
