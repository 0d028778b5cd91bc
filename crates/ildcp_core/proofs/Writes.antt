-- The parts of a configuration, written one behind the other, are the configuration.
use Rattle.std.proofs.Common.{◌≡◌, ◌≤◌, ◌+◌, ℕ, List, [], ◌∷◌, ◌++◌, length, ap, ◌∙◌, append_assoc, arith}
use Rattle.std.proofs.lemmas.List.{length-append}
use Rattle.oer_core.specs.Writing.{overwritten}
use Rattle.oer_core.specs.Laws.{WritingLaws}

-- one more write behind what was written from the front on
written_next : WritingLaws → (old done bytes x y : List ℕ) (at : ℕ) → x ≡ overwritten old 0 done → at ≡ length done → y ≡ overwritten x at bytes
    → length done ≤ length old → y ≡ overwritten old 0 (done ++ bytes)
written_next laws old done bytes x y at is place then fits =
    then
    ∙ ap (λ (z : List ℕ). overwritten z at bytes) is
    ∙ ap (λ (k : ℕ). overwritten (overwritten old 0 done) k bytes) (omega arith)
    ∙ laws.two_are_one old 0 done bytes (omega arith)

pub configuration_written : WritingLaws → (old x1 x2 x3 first last : List ℕ) (scale at end : ℕ) → at ≡ length first → x1 ≡ overwritten old 0 first
    → x2 ≡ overwritten x1 at (scale ∷ []) → end ≡ at + 1 + length last → x3 ≡ overwritten x2 (at + 1) last
    → length first + 1 + length last ≤ length old
    → (end ≡ 0 + length (first ++ scale ∷ last)) × (x3 ≡ overwritten old 0 (first ++ scale ∷ last))
configuration_written laws old x1 x2 x3 first last scale at end place w1 w2 behind w3 fits =
    let two : x2 ≡ overwritten old 0 (first ++ scale ∷ []) = written_next laws old first (scale ∷ []) x1 x2 at w1 place w2 (omega arith) in
    let n : length (first ++ scale ∷ []) ≡ length first + 1 = length-append first (scale ∷ []) in
    let three : x3 ≡ overwritten old 0 (first ++ scale ∷ [] ++ last) = written_next laws old (first ++ scale ∷ []) last x2 x3 (at + 1) two (omega arith) w3 (omega arith) in
    (omega (arith, length-append first (scale ∷ last)), three ∙ ap (overwritten old 0) (append_assoc first (scale ∷ []) last))
