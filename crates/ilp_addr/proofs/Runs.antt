-- Segments, checked in one pass over the bytes.
use Rattle.std.proofs.Common.{◌≡◌, ℕ, ◌+◌, Bool, true, false, ◌&&◌, ◌||◌, not, eqb, List, [], ◌∷◌, length, refl, arith}
use Rattle.std.proofs.lemmas.Bool.{eqb-true, ne_eqb}
use Rattle.std.proofs.lemmas.List.Splits.{slice_split-cons_yes, slice_split-cons_no, length-slice_split}
use Rattle.std.specs.List.{list_all}
use Rattle.std.specs.List.{onto_first}
use Rattle.ilp_addr.specs.Address.{segments, is_segment, is_segment_byte}

-- what is left is good, where a segment has begun or is to begin
abbrev pub runs : Bool → List ℕ → Bool
runs begin [] = not begin
runs begin (b ∷ bytes) = (is_segment_byte b || (eqb b 46 && not begin)) && runs (eqb b 46) bytes

-- the parts are good, the first of which had a byte before
abbrev pub goes_on : List (List ℕ) → Bool
goes_on [] = false
goes_on (first ∷ others) = list_all is_segment_byte first && list_all is_segment others

abbrev Agree : List ℕ → List (List ℕ) → Type 0
Agree bytes parts = (runs true bytes ≡ list_all is_segment parts) × (runs false bytes ≡ goes_on parts)

first_of : (b : ℕ) (first : List ℕ) → is_segment (b ∷ first) ≡ (is_segment_byte b && list_all is_segment_byte first)
unfolding is_segment
first_of b first = rw (ne_eqb (length (b ∷ first)) 0 (omega arith)) refl

in_part : (b : ℕ) (bytes : List ℕ) (parts : List (List ℕ)) (n : ℕ) → length parts ≡ n + 1 → eqb b 46 ≡ false → runs false bytes ≡ goes_on parts
    → Agree (b ∷ bytes) (onto_first b parts)
in_part b bytes [] n e off h = absurd (omega arith)
in_part b bytes (first ∷ others) n e off h =
    rw (off, h, first_of b first) (by (is_segment_byte b) (list_all is_segment_byte first) (list_all is_segment others))
  where
    by : (x y z : Bool) → (((x || (false && not true)) && (y && z)) ≡ ((x && y) && z)) × (((x || (false && not false)) && (y && z)) ≡ ((x && y) && z))
    by true true z = (refl, refl)
    by true false z = (refl, refl)
    by false y z = (refl, refl)

at_dot : (b : ℕ) (bytes : List ℕ) → eqb b 46 ≡ true → runs true bytes ≡ list_all is_segment (segments bytes)
    → Agree (b ∷ bytes) ([] ∷ segments bytes)
unfolding is_segment is_segment_byte
at_dot b bytes dot h = rw (eqb-true b 46 dot, h) (refl, refl)

agree : (bytes : List ℕ) → Agree bytes (segments bytes)
unfolding is_segment
agree [] = (refl, refl)
agree (b ∷ bytes) =
    elim (eqb b 46) as (λ d. (eqb b 46 ≡ d) → Agree (b ∷ bytes) (segments (b ∷ bytes))) [
      | true ↦ λ dot. rw (slice_split-cons_yes (λ x. eqb x 46) b bytes dot) (at_dot b bytes dot (agree bytes).0)
      | false ↦ λ off. rw (slice_split-cons_no (λ x. eqb x 46) b bytes off) (in_part b bytes (segments bytes) _ (length-slice_split (λ x. eqb x 46) bytes) off (agree bytes).1)
    ] refl

pub runs_are_segments : (bytes : List ℕ) → runs true bytes ≡ list_all is_segment (segments bytes)
runs_are_segments bytes = (agree bytes).0
