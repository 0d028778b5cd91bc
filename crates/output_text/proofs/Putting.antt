-- Texts that are put where there may be too little room.
use Rattle.std.proofs.Common.{◌≡◌, ℕ, ◌+◌, ◌<◌, ◌≤◌, List, ◌∷◌, ◌++◌, length, take, drop, slice_index_or, sym, ap, ◌∙◌, arith, length-append, Result, Ok, Err}
use Rattle.std.specs.List.{flat_map}
use Rattle.std.proofs.lemmas.Grind.{common_steps, flat_map-append}
use Rattle.std.proofs.lemmas.List.{take-append-drop}
use Rattle.std.specs.Global.{Vec}
use Rattle.std.specs.Result.{IsErr}
use Rattle.std.specs.Vec.{vec_capacity, vec_items}
use Rattle.output_text.specs.Printed.{Puts}

-- where it failed there was too little room
pub puts_err : {A E : Type 0} (r : Result A E) (old new : Vec ℕ) (text : List ℕ) → IsErr r → vec_capacity old < length (vec_items old) + length text → Puts r old new text
puts_err (Ok done) old new text is few = absurd (cc)
puts_err (Err fault) old new text is few = few

-- what is put of a row, and of those before it, is no longer than what is put of all
pub part_of_all : {A : Type 0} (text_of : A → List ℕ) (rows : List A) (i : ℕ) (row : A) → i < length rows → row ≡ slice_index_or rows i row
    → length (flat_map text_of (take i rows)) + length (text_of row) ≤ length (flat_map text_of rows)
part_of_all {A = A} text_of rows i row within is =
    let here : drop i rows ≡ row ∷ drop (i + 1) rows = behind A rows i row within ∙ ap (λ (r : A). r ∷ drop (i + 1) rows) (sym is) in
    let all : flat_map text_of rows ≡ flat_map text_of (take i rows) ++ (text_of row ++ flat_map text_of (drop (i + 1) rows)) =
    ap (flat_map text_of) (sym (take-append-drop i rows)) ∙ flat_map-append text_of (take i rows) (drop i rows)
    ∙ ap (λ (r : List A). flat_map text_of (take i rows) ++ flat_map text_of r) here in
    let long = ap length all in
    omega (
      arith,
      length-append (flat_map text_of (take i rows)) (text_of row ++ flat_map text_of (drop (i + 1) rows)),
      length-append (text_of row) (flat_map text_of (drop (i + 1) rows)),
    )
  where
    behind : (A : Type 0) (rows : List A) (i : ℕ) (row : A) → i < length rows → drop i rows ≡ slice_index_or rows i row ∷ drop (i + 1) rows
    behind A rows i row within = grind (arith, common_steps)
