-- A list cut at the first dot.
use Rattle.std.proofs.Common.{◌≡◌, ℕ, ◌+◌, ◌<◌, false, eqb, List, ◌∷◌, ◌++◌, length, get_or, take, drop, All, refl, sym, ap, ◌∙◌}
use Rattle.std.proofs.lemmas.List.{take-append-drop, drop_more}
use Rattle.std.proofs.lemmas.List.Splits.{slice_split_at}
use Rattle.ilp_addr.specs.Address.{segments}

-- no byte is a dot
abbrev pub HasNoDot : List ℕ → Type 0
HasNoDot bytes = All (λ b. eqb b 46 ≡ false) bytes

-- the first part ends at the first dot
pub segments_at : (bytes : List ℕ) (i : ℕ) → i < length bytes → get_or bytes i 0 ≡ 46 → HasNoDot (take i bytes) → segments bytes ≡ take i bytes ∷ segments (drop (i + 1) bytes)
segments_at bytes i lt dot none =
    let parts : bytes ≡ take i bytes ++ get_or bytes i 0 ∷ drop (i + 1) bytes = sym (take-append-drop i bytes) ∙ ap (λ (zs : List ℕ). take i bytes ++ zs) (drop_more bytes i 0 lt) in
    ap segments parts ∙ slice_split_at (λ b. eqb b 46) (take i bytes) (get_or bytes i 0) (drop (i + 1) bytes) none (rw dot refl)
