-- Logs of one sum.
use Rattle.std.proofs.Common.{◌≡◌, ◌≢◌, ◌⊎◌, ⊎_elim, inl, inr, ℕ, List, [], ◌∷◌, ◌++◌, length, take, drop, refl, sym, ◌∙◌, ap, arith, take_at, drop_at}
use Rattle.std.proofs.lemmas.Bool.{cases_eq}
use Rattle.sha2.specs.Sha256.{sha256}
use Rattle.sha2.proofs.Facts256.{length-sha256}
use Rattle.line_log.specs.Sums.{sum_after, Collision, SumLaw}

abbrev head_of : ℕ → List ℕ → ℕ
head_of d [] = d
head_of d (x ∷ xs) = x

-- whether two texts are the same
same_text : (xs ys : List ℕ) → (xs ≡ ys) ⊎ (xs ≢ ys)
same_text [] [] = inl refl
same_text [] (y ∷ ys) = inr (λ is. cc is)
same_text (x ∷ xs) [] = inr (λ is. cc is)
same_text (x ∷ xs) (y ∷ ys) = ⊎_elim
    (λ heads. ⊎_elim (λ tails. inl (λ i. heads i ∷ tails i)) (λ other. inr (λ is. other (ap (λ (l : List ℕ). drop 1 l) is))) (same_text xs ys))
    (λ other. inr (λ is. other (ap (λ (l : List ℕ). head_of 0 l) is)))
    (cases_eq x y)

same_parts : (h k x y : List ℕ) → length h ≡ 32 → length k ≡ 32 → h ++ x ≡ k ++ y → (h ≡ k) × (x ≡ y)
same_parts h k x y one two is = (
  sym (take_at h x 32 one) ∙ ap (λ (l : List ℕ). take 32 l) is ∙ take_at k y 32 two,
  sym (drop_at h x 32 one) ∙ ap (λ (l : List ℕ). drop 32 l) is ∙ drop_at k y 32 two,
)

-- the same pieces behind the same sum
Alike : List ℕ → List ℕ → List (List ℕ) → List (List ℕ) → Type 0
Alike h k xs ys = ((h ≡ k) × (xs ≡ ys)) ⊎ Collision

one_more : (h k x y : List ℕ) (xs ys : List (List ℕ)) → length h ≡ 32 → length k ≡ 32 → sha256 (h ++ x) ≡ sha256 (k ++ y) → xs ≡ ys → Alike h k (x ∷ xs) (y ∷ ys)
unfolding Alike
one_more h k x y xs ys one two same rest = ⊎_elim
    (λ is. let parts = same_parts h k x y one two is in inl (parts.0, (λ i. parts.1 i ∷ rest i)))
    (λ other. inr (record { one = h ++ x; other = k ++ y; differ = other; same = same }))
    (same_text (h ++ x) (k ++ y))

alike : (h k : List ℕ) (xs ys : List (List ℕ)) → length h ≡ 32 → length k ≡ 32 → length xs ≡ length ys → sum_after h xs ≡ sum_after k ys → Alike h k xs ys
unfolding Alike
alike h k [] [] one two many same = inl (same, refl)
alike h k [] (y ∷ ys) one two many same = absurd (omega (arith, many))
alike h k (x ∷ xs) [] one two many same = absurd (omega (arith, many))
alike h k (x ∷ xs) (y ∷ ys) one two many same = ⊎_elim
    (λ later. one_more h k x y xs ys one two later.0 later.1)
    (λ collision. inr collision)
    (alike (sha256 (h ++ x)) (sha256 (k ++ y)) xs ys (length-sha256 (h ++ x)) (length-sha256 (k ++ y)) (omega (arith, many)) same)

pub sum_law : SumLaw
unfolding Alike
sum_law sum xs ys size many same = ⊎_elim (λ is. inl is.1) (λ collision. inr collision) (alike sum sum xs ys size size many same)
