-- What a crash leaves of lines that were being written over zeros.
use Rattle.std.proofs.Common.{◌≡◌, ◌⊎◌, ⊎_elim, inl, inr, ℕ, suc, List, [], ◌∷◌, ◌++◌, length, replicate, refl, sym, ◌∙◌, ap, subst, arith, append_assoc, append-nil}
use Rattle.std.proofs.lemmas.Bool.{cases_eq}
use Rattle.std.specs.List.{AllByRecursion}
use Rattle.line_log.specs.File.{IsMix}
use Rattle.line_log.specs.Log.{records_from, recovered, lines, IsRecord, IsWithSome}
use Rattle.line_log.proofs.Recovering.{goes_on, stops, ends}

-- a zero for each byte
abbrev pub blank : List ℕ → List ℕ
blank [] = []
blank (b ∷ bytes) = 0 ∷ blank bytes

pub blank_is : (bytes : List ℕ) → blank bytes ≡ replicate (length bytes) 0
blank_is [] = refl
blank_is (b ∷ bytes) = ap (λ (l : List ℕ). 0 ∷ l) (blank_is bytes)

pub blank_more : (xs ys : List ℕ) → blank (xs ++ ys) ≡ blank xs ++ blank ys
blank_more [] ys = refl
blank_more (x ∷ xs) ys = ap (λ (l : List ℕ). 0 ∷ l) (blank_more xs ys)

same_byte : (x z : ℕ) → (z ≡ x) ⊎ (z ≡ x) → z ≡ x
same_byte x z (inl is) = is
same_byte x z (inr is) = is

-- where both files begin alike, so does each mix of them
pub record Behind (front old new c : List ℕ) : Type 0 where
  pub rest : List ℕ
  pub is : c ≡ front ++ rest
  pub mix : IsMix old new rest

pub behind : (front old new c : List ℕ) → IsMix (front ++ old) (front ++ new) c → Behind front old new c
behind [] old new c mix = record { rest = c; is = refl; mix = mix }
behind (x ∷ front) old new [] mix = absurd mix
behind (x ∷ front) old new (z ∷ c) mix =
    let later = behind front old new c mix.1 in
    record { rest = later.rest; is = (λ i. same_byte x z mix.0 i ∷ later.is i); mix = later.mix }

-- a record is all there, or it does not count
record After (s r old new c : List ℕ) : Type 0 where
  pub rest : List ℕ
  pub is : records_from s c ≡ (s ++ r) ∷ recovered rest
  pub mix : IsMix old new rest

whole_by : (s : List ℕ) (b : ℕ) (r old new : List ℕ) (z : ℕ) (c : List ℕ) → IsRecord (b ∷ r)
    → (records_from (s ++ b ∷ []) c ≡ []) ⊎ After (s ++ b ∷ []) r old new c → z ≡ b
    → (records_from s (z ∷ c) ≡ []) ⊎ After s (b ∷ r) old new (z ∷ c)
whole_by s b r old new z c ok so_far is =
    let on : records_from s (z ∷ c) ≡ records_from (s ++ b ∷ []) c = ap (λ (x : ℕ). records_from s (x ∷ c)) is ∙ goes_on s b c ok.0.0 ok.0.1 in
    ⊎_elim
    (λ none. inl (on ∙ none))
    (λ later. inr (record { rest = later.rest; is = on ∙ later.is ∙ ap (λ (l : List ℕ). l ∷ recovered later.rest) (append_assoc s (b ∷ []) r); mix = later.mix }))
    so_far

mix_record : (s r old new c : List ℕ) → IsRecord r → IsMix (blank r ++ 0 ∷ old) (r ++ 10 ∷ new) c → (records_from s c ≡ []) ⊎ After s r old new c
mix_record s [] old new [] ok mix = absurd mix
mix_record s [] old new (z ∷ c) ok mix = ⊎_elim
    (λ none. inl (stops s z c none))
    (λ is. inr (record { rest = c; is = ends s z c is ∙ ap (λ (l : List ℕ). l ∷ recovered c) (sym (append-nil s)); mix = mix.1 }))
    mix.0
mix_record s (b ∷ r) old new [] ok mix = absurd mix
mix_record s (b ∷ r) old new (z ∷ c) ok mix =
    ⊎_elim (λ none. inl (stops s z c none)) (whole_by s b r old new z c ok (mix_record (s ++ b ∷ []) r old new c ok.1 mix.1)) mix.0

none_of : (rs : List (List ℕ)) (c : List ℕ) → recovered c ≡ [] → IsWithSome [] rs c
none_of rs c none = record { count = 0; few = omega arith; is = none }

one_more : (r : List ℕ) (rs : List (List ℕ)) (c rest : List ℕ) → recovered c ≡ r ∷ recovered rest → IsWithSome [] rs rest → IsWithSome [] (r ∷ rs) c
one_more r rs c rest is later = record {
  count = suc later.count;
  few = omega (arith, later.few);
  is = is ∙ ap (λ (l : List (List ℕ)). r ∷ l) later.is;
}

-- lines over zeros, with a zero behind them
pub mix_lines : (rs : List (List ℕ)) (old new c : List ℕ) → AllByRecursion IsRecord rs → IsMix (blank (lines rs) ++ 0 ∷ old) (lines rs ++ 0 ∷ new) c → IsWithSome [] rs c
mix_lines [] old new [] ok mix = absurd mix
mix_lines [] old new (z ∷ c) ok mix = none_of [] (z ∷ c) (stops [] z c (same_byte 0 z mix.0))
mix_lines (r ∷ rs) old new c ok mix =
    let zeros : blank (lines (r ∷ rs)) ++ 0 ∷ old ≡ blank r ++ 0 ∷ (blank (lines rs) ++ 0 ∷ old) =
    ap (λ (l : List ℕ). l ++ 0 ∷ old) (blank_more r (10 ∷ lines rs)) ∙ append_assoc (blank r) (0 ∷ blank (lines rs)) (0 ∷ old) in
    let bytes : lines (r ∷ rs) ++ 0 ∷ new ≡ r ++ 10 ∷ (lines rs ++ 0 ∷ new) = append_assoc r (10 ∷ lines rs) (0 ∷ new) in
    let split : IsMix (blank r ++ 0 ∷ (blank (lines rs) ++ 0 ∷ old)) (r ++ 10 ∷ (lines rs ++ 0 ∷ new)) c =
    subst (λ (l : List ℕ). IsMix l (r ++ 10 ∷ (lines rs ++ 0 ∷ new)) c) zeros (subst (λ (l : List ℕ). IsMix (blank (lines (r ∷ rs)) ++ 0 ∷ old) l c) bytes mix) in
    ⊎_elim
    (λ none. none_of (r ∷ rs) c none)
    (λ later. one_more r rs c later.rest later.is (mix_lines rs old new later.rest ok.1 later.mix))
    (mix_record [] r (blank (lines rs) ++ 0 ∷ old) (lines rs ++ 0 ∷ new) c ok.0 split)

blank_by : (s : List ℕ) (b : ℕ) (end : List ℕ) (z : ℕ) (c : List ℕ) → records_from s (b ∷ end) ≡ []
    → (records_from (s ++ b ∷ []) end ≡ [] → records_from (s ++ b ∷ []) c ≡ []) → z ≡ b → records_from s (z ∷ c) ≡ []
blank_by s b end z c none later is = elim (cases_eq b 0) [
  | inl no_byte ↦ stops s z c (is ∙ no_byte)
  | inr some ↦ elim (cases_eq b 10) [
    | inl line ↦ let more : s ∷ recovered end ≡ [] = sym (ends s b end line) ∙ none in absurd (cc more)
    | inr other ↦
        let on : records_from s (b ∷ end) ≡ records_from (s ++ b ∷ []) end = goes_on s b end some other in
        ap (λ (x : ℕ). records_from s (x ∷ c)) is ∙ goes_on s b c some other ∙ later (sym on ∙ none)
  ]
]

-- an end that stands for nothing, while it is overwritten by zeros
pub mix_blank : (s end c : List ℕ) → records_from s end ≡ [] → IsMix end (blank end) c → records_from s c ≡ []
mix_blank s [] [] none mix = refl
mix_blank s [] (z ∷ c) none mix = absurd mix
mix_blank s (b ∷ end) [] none mix = absurd mix
mix_blank s (b ∷ end) (z ∷ c) none mix =
    ⊎_elim (blank_by s b end z c none (λ later. mix_blank (s ++ b ∷ []) end c later mix.1)) (λ is. stops s z c is) mix.0

-- all of a write, and none of it
pub mix_all : (xs ys : List ℕ) → length ys ≡ length xs → IsMix xs ys ys
mix_all [] [] same = tt
mix_all [] (y ∷ ys) same = absurd (omega (arith, same))
mix_all (x ∷ xs) [] same = absurd (omega (arith, same))
mix_all (x ∷ xs) (y ∷ ys) same = (inr refl, mix_all xs ys (omega (arith, same)))

pub mix_none : (xs ys : List ℕ) → length ys ≡ length xs → IsMix xs ys xs
mix_none [] [] same = tt
mix_none [] (y ∷ ys) same = absurd (omega (arith, same))
mix_none (x ∷ xs) [] same = absurd (omega (arith, same))
mix_none (x ∷ xs) (y ∷ ys) same = (inl refl, mix_none xs ys (omega (arith, same)))
