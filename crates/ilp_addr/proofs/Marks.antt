-- What is wrong with the bytes of segments, told by two bits.
use Rattle.std.proofs.Common.{◌≡◌, ◌==◌, ◌%◌, ℕ, zero, suc, Bool, true, false, ◌&&◌, ◌||◌, not, eqb, List, ◌∷◌, refl, sym, ap, ap₂, ◌∙◌, arith, if◌then◌else◌}
use Rattle.std.specs.Int.Bits.{bit_and, bit_or}
use Rattle.std.proofs.lemmas.Bool.{eqb-true, ne_eqb}
use Rattle.std.proofs.lemmas.Nat.{le_or_l, or_mod}
use Rattle.ilp_addr.specs.Address.{is_segment_byte}
use Rattle.ilp_addr.proofs.Runs.{runs}

-- nothing is wrong
abbrev pub is_fine : ℕ → Bool
is_fine wrong = wrong % 4 == 0

abbrev pub is_kind : ℕ → Bool
is_kind kind = kind == 48 || (kind == 49 || kind == 50)

abbrev pub kind_by : Bool → Bool → ℕ
kind_by in_segment is_dot = if in_segment then 48 else (if is_dot then 49 else 50)

abbrev pub kind_at : ℕ → ℕ
kind_at b = kind_by (is_segment_byte b) (b == 46)

or_zero : (a b : ℕ) → eqb (bit_or a b) 0 ≡ (eqb a 0 && eqb b 0)
or_zero zero b = refl
or_zero (suc a) b = rw (ne_eqb (bit_or (suc a) b) 0 (omega (arith, le_or_l (suc a) b)), ne_eqb (suc a) 0 (omega arith)) refl

or_fine : (a b : ℕ) → is_fine (bit_or a b) ≡ (is_fine a && is_fine b)
or_fine a b = ap (λ x. eqb x 0) (or_mod a b 2) ∙ or_zero (a % 4) (b % 4)

and_assoc : (x y z : Bool) → ((x && y) && z) ≡ (x && (y && z))
and_assoc true y z = refl
and_assoc false y z = refl

-- what a byte adds: nothing in a segment, nor a dot that ends one
adds : (in_segment is_dot : Bool) (before : ℕ) → is_kind before ≡ true
    → is_fine (bit_and (kind_by in_segment is_dot) (bit_or before 50)) ≡ (in_segment || (is_dot && not (before == 49)))
adds s d before h =
    elim (before == 48) as (λ t. (before == 48) ≡ t → Says s d before) [
      | true ↦ λ e. rw (eqb-true before 48 e) (at_48 s d)
      | false ↦ λ e. elim (before == 49) as (λ t. (before == 49) ≡ t → Says s d before) [
        | true ↦ λ f. rw (eqb-true before 49 f) (at_49 s d)
        | false ↦ λ f. rw (eqb-true before 50 (sym (ap₂ (λ x y. x || (y || (before == 50))) e f) ∙ h)) (at_50 s d)
      ] refl
    ] refl
  where
    Says : Bool → Bool → ℕ → Type 0
    Says s d k = is_fine (bit_and (kind_by s d) (bit_or k 50)) ≡ (s || (d && not (k == 49)))

    at_48 : (s d : Bool) → Says s d 48
    at_48 true d = refl
    at_48 false true = refl
    at_48 false false = refl

    at_49 : (s d : Bool) → Says s d 49
    at_49 true d = refl
    at_49 false true = refl
    at_49 false false = refl

    at_50 : (s d : Bool) → Says s d 50
    at_50 true d = refl
    at_50 false true = refl
    at_50 false false = refl

pub kinds : (b : ℕ) → is_kind (kind_at b) ≡ true
kinds b = by (is_segment_byte b) (b == 46)
  where
    by : (s d : Bool) → is_kind (kind_by s d) ≡ true
    by true d = refl
    by false true = refl
    by false false = refl

-- a dot is no byte of a segment
dots : (b : ℕ) → (kind_at b == 49) ≡ (b == 46)
unfolding is_segment_byte
dots b =
    elim (b == 46) as (λ d. (b == 46) ≡ d → (kind_by (is_segment_byte b) d == 49) ≡ d) [
      | true ↦ λ e. rw (eqb-true b 46 e) refl
      | false ↦ λ e. by (is_segment_byte b)
    ] refl
  where
    by : (s : Bool) → (kind_by s false == 49) ≡ false
    by true = refl
    by false = refl

pub kind_from : (kind b : ℕ) → (kind == 48) ≡ is_segment_byte b → (kind == 49) ≡ (b == 46) → is_kind kind ≡ true → kind ≡ kind_at b
kind_from kind b s d h =
    elim (kind == 48) as (λ t. (kind == 48) ≡ t → kind ≡ kind_at b) [
      | true ↦ λ e. rw (sym s ∙ e) (eqb-true kind 48 e)
      | false ↦ λ e. elim (kind == 49) as (λ t. (kind == 49) ≡ t → kind ≡ kind_at b) [
        | true ↦ λ f. rw (sym s ∙ e, sym d ∙ f) (eqb-true kind 49 f)
        | false ↦ λ f. rw (sym s ∙ e, sym d ∙ f) (eqb-true kind 50 (sym (ap₂ (λ x y. x || (y || (kind == 50))) e f) ∙ h))
      ] refl
    ] refl

-- one byte more
pub on : (wrong before b : ℕ) (rest : List ℕ) → is_kind before ≡ true
    → (is_fine (bit_or wrong (bit_and (kind_at b) (bit_or before 50))) && runs (kind_at b == 49) rest)
    ≡ (is_fine wrong && runs (before == 49) (b ∷ rest))
on wrong before b rest h =
    let add = bit_and (kind_at b) (bit_or before 50) in
    ap (λ f. f && runs (kind_at b == 49) rest) (or_fine wrong add)
    ∙ and_assoc (is_fine wrong) (is_fine add) (runs (kind_at b == 49) rest)
    ∙ ap (λ r. is_fine wrong && r) (ap₂ (λ f d. f && runs d rest) (adds (is_segment_byte b) (b == 46) before h) (dots b))
