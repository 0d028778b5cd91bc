-- A prefix begins an address, by segments, where its bytes come first and then a dot or the end.
use Rattle.std.proofs.Common.{◌≡◌, ℕ, ◌+◌, Bool, true, false, eqb, ◌&&◌, List, [], ◌∷◌, ◌++◌, length, get_or, ◌<◌, arith, refl, sym, ap, ◌∙◌, inl, inr}
use Rattle.std.specs.Prelude.{IsTrue, ◌↔◌, count_by}
use Rattle.std.specs.Str.{bytes_eq}
use Rattle.std.proofs.Math.Bool.{and_assoc}
use Rattle.std.proofs.lemmas.Bool.{eqb-true, eqb-false, eq-eqb, ne_eqb, cases_Bool, and_parts}
use Rattle.std.proofs.lemmas.List.Splits.{length-slice_split}
use Rattle.std.proofs.lemmas.Slice.Eq.{bytes_eq-Decides}
use Rattle.ilp_addr.specs.Address.{segments, prefix_segments, begins_with, Begins}

-- p comes first in d, and then a dot or the end
pub at_boundary : List ℕ → List ℕ → Bool
at_boundary [] [] = true
at_boundary [] (y ∷ d) = eqb y 46
at_boundary (x ∷ p) [] = false
at_boundary (x ∷ p) (y ∷ d) = eqb x y && at_boundary p d

-- there is a first part
pub first_part : (bytes : List ℕ) → (first : List ℕ) × (others : List (List ℕ)) × (segments bytes ≡ first ∷ others)
first_part bytes = by (segments bytes) (length-slice_split (λ b. eqb b 46) bytes)
  where
    by : (parts : List (List ℕ)) → length parts ≡ count_by (λ b. eqb b 46) bytes + 1 → (first : List ℕ) × (others : List (List ℕ)) × (parts ≡ first ∷ others)
    by [] some = absurd (omega arith)
    by (first ∷ others) some = (first, others, refl)

apart : (x y : ℕ) → eqb x 46 ≡ true → eqb y 46 ≡ false → eqb x y ≡ false
apart x y h k = ne_eqb x y (λ e. eqb-false y 46 k (sym e ∙ eqb-true x 46 h))

apart_back : (x y : ℕ) → eqb x 46 ≡ false → eqb y 46 ≡ true → eqb x y ≡ false
apart_back x y h k = ne_eqb x y (λ e. eqb-false x 46 h (e ∙ eqb-true y 46 k))

pub begins_at_boundary : (p d : List ℕ) → begins_with (segments p) (segments d) ≡ at_boundary p d
unfolding begins_with at_boundary
begins_at_boundary [] [] = refl
begins_at_boundary [] (y ∷ d) =
    let s = first_part d in
    elim (cases_Bool (eqb y 46)) [
      | inl dot ↦ rw dot refl
      | inr other ↦ rw (other, s.2) refl
    ]
begins_at_boundary (x ∷ p) [] =
    let s = first_part p in
    elim (cases_Bool (eqb x 46)) [
      | inl dot ↦ rw (dot, s.2) refl
      | inr other ↦ rw (other, s.2) refl
    ]
begins_at_boundary (x ∷ p) (y ∷ d) =
    let more = begins_at_boundary p d in
    let s = first_part p in
    let t = first_part d in
    elim (cases_Bool (eqb x 46)) [
      | inl x_dot ↦ elim (cases_Bool (eqb y 46)) [
        | inl y_dot ↦ rw (x_dot, y_dot, eq-eqb x y (eqb-true x 46 x_dot ∙ sym (eqb-true y 46 y_dot))) more
        | inr y_other ↦ rw (x_dot, y_other, t.2, apart x y x_dot y_other) refl
      ]
      | inr x_other ↦ elim (cases_Bool (eqb y 46)) [
        | inl y_dot ↦ rw (x_other, y_dot, s.2, apart_back x y x_other y_dot) refl
        | inr y_other ↦
            let same : (bytes_eq s.0 t.0 && begins_with s.1 t.1) ≡ at_boundary p d = rw (s.2, t.2) at more in
            rw (x_other, y_other, s.2, t.2) (and_assoc (eqb x y) (bytes_eq s.0 t.0) (begins_with s.1 t.1) ∙ ap (λ b. eqb x y && b) same)
      ]
    ]

-- the bytes come first, if the test says so
at_boundary_front : (p d : List ℕ) → at_boundary p d ≡ true → (rest : List ℕ) × (d ≡ p ++ rest)
unfolding at_boundary
at_boundary_front [] d h = (d, refl)
at_boundary_front (x ∷ p) [] h = absurd cc
at_boundary_front (x ∷ p) (y ∷ d) h =
    let s = and_parts (eqb x y) (at_boundary p d) h in
    let more = at_boundary_front p d s.1 in
    (more.0, ap (λ (z : ℕ). z ∷ d) (sym (eqb-true x y s.0)) ∙ ap (λ (ys : List ℕ). x ∷ ys) more.1)

at_boundary_rest : (p rest : List ℕ) → at_boundary p (p ++ rest) ≡ at_boundary [] rest
unfolding at_boundary
at_boundary_rest [] rest = refl
at_boundary_rest (x ∷ p) rest = rw (eq-eqb x x refl) (at_boundary_rest p rest)

-- bytes that do not come first begin nothing
pub not_in_front : (p d : List ℕ) → ((rest : List ℕ) → d ≡ p ++ rest → ⊥) → begins_with (segments p) (segments d) ≡ false
not_in_front p d none =
    elim (cases_Bool (at_boundary p d)) [
      | inl yes' ↦ let f = at_boundary_front p d yes' in absurd (none f.0 f.1)
      | inr no' ↦ begins_at_boundary p d ∙ no'
    ]

-- bytes that come first begin it where nothing or a dot follows
pub in_front : (p d rest : List ℕ) → d ≡ p ++ rest → begins_with (segments p) (segments d) ≡ at_boundary [] rest
in_front p d rest e = begins_at_boundary p d ∙ ap (at_boundary p) e ∙ at_boundary_rest p rest

pub at_end : (rest : List ℕ) → length rest ≡ 0 → at_boundary [] rest ≡ true
unfolding at_boundary
at_end [] h = refl
at_end (y ∷ rest) h = absurd (omega arith)

pub at_dot : (rest : List ℕ) → 0 < length rest → at_boundary [] rest ≡ eqb (get_or rest 0 0) 46
unfolding at_boundary
at_dot [] h = absurd (omega arith)
at_dot (y ∷ rest) h = refl

-- ---- the test of segments decides the relation

pub begins_true : (p d : List (List ℕ)) → begins_with p d ≡ true → Begins p d
unfolding begins_with
begins_true [] d h = (d, refl)
begins_true (x ∷ p) [] h = absurd cc
begins_true (x ∷ p) (y ∷ d) h =
    let s = and_parts (bytes_eq x y) (begins_with p d) h in
    let more = begins_true p d s.1 in
    (more.0, ap (λ (z : List ℕ). z ∷ d) (sym ((bytes_eq-Decides x y).0 s.0)) ∙ ap (λ (ys : List (List ℕ)). x ∷ ys) more.1)

begins_same : (p rest : List (List ℕ)) → begins_with p (p ++ rest) ≡ true
unfolding begins_with
begins_same [] rest = refl
begins_same (x ∷ p) rest = rw ((bytes_eq-Decides x x).1 refl) (begins_same p rest)

pub begins_test : (p d : List (List ℕ)) → Begins p d → begins_with p d ≡ true
begins_test p d h = ap (begins_with p) h.1 ∙ begins_same p h.0

-- a prefix that is not empty has the segments of its bytes
pub prefix_segments_some : (bytes : List ℕ) → 0 < length bytes → prefix_segments bytes ≡ segments bytes
prefix_segments_some [] h = absurd (omega arith)
prefix_segments_some (b ∷ bytes) h = refl

pub prefix_segments_none : (bytes : List ℕ) → length bytes ≡ 0 → prefix_segments bytes ≡ []
prefix_segments_none [] h = refl
prefix_segments_none (b ∷ bytes) h = absurd (omega arith)

pub begins_all : (d : List (List ℕ)) → begins_with [] d ≡ true
unfolding begins_with
begins_all d = refl

-- an answer that the test gives says whether it begins
pub begins_decided : (r : Bool) (p d : List (List ℕ)) → r ≡ begins_with p d → IsTrue r ↔ Begins p d
begins_decided r p d e = (λ t. begins_true p d (sym e ∙ t), λ b. e ∙ begins_test p d b)
