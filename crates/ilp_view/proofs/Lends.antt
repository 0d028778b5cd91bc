-- The frame of a PrepareMut is lent again, and two ranges of it at once: the struct follows both. Assumes `Logic`.
use mathlib.Core.Path.{refl}
use Prim.Native.Nat.{ℕ, ◌+◌}
use mathlib.Core.List.{List, [], ◌∷◌}
use seplogic.Ra.Ura.{Ura}
use base.Logic.{ent, sep, wand}
use base.Fml.{GName, fres}
use types.Logic.{Logic, sem}
use types.Kit.{‵, ◌⊛◌, ◌$◌, ◌∵◌, !, qed, by, each, assume, move, use2}
use types.SemTy.{Arr}
use types.Follow.{after₂, followed₂}
use denote.Array.{Array}
use denote.Builtin.{u8}
use denote.Follow.{both_by, follows, follows_both, followed}
use denote.Memory.{mem}
use denote.RattleType.{RattleType}
use denote.Ref.{NamedLft}
use denote.Slice.{MutSlice}
use denote.Struct.At.{get_at}
use borrow.Follows.Field.{HandsTo, hands_on}
use borrow.Struct.Lend.{put_record, kept_record, record_fill, record_apart}
use Rattle.ilp_view.specs.declared.prepare_mut.PrepareMut.{PrepareMut}
use Rattle.ilp_view.specs.contracts.prepare_mut.PrepareMut.{the_row, the_type, struct}
use Rattle.ilp_view.proofs.prepare_mut.PrepareMut.TheLaws.{the_loose}

-- the field in the place of a PrepareMut
pub hands_frame : {M : Type 1} {𝓤 : Ura M} (𝓛 : Logic 𝓤) (ν : NamedLft) (p : PrepareMut) → HandsTo 𝓛 (the_row ν) (MutSlice ν.mir ν.lft u8) (λ o. o + 0) p p.frame (λ r. record p { frame = r })
hands_frame 𝓛 ν p =
    let T = the_type ν in
    let av = (struct ν).as_values in
    hands_on 𝓛 (the_row ν) (MutSlice ν.mir ν.lft u8) 0 (λ x. get_at T.parts 0 (av x))
    (put_record T (the_loose ν) 0 0 av (struct ν).Ghost (struct ν).make (λ v. tt) (λ x. refl) (λ v g. refl) (λ x. x))
    (kept_record T (the_loose ν) 0 0 av (struct ν).Ghost (struct ν).make (λ v. tt) (λ x. refl) (λ v g. refl) (λ x. x))
    (record_fill T (the_loose ν) 0 0 av (struct ν).Ghost (struct ν).make (λ v. tt) (λ x. refl) (λ v g. refl) (λ x. x) refl (λ f. refl))
    (record_apart T (the_loose ν) 0 0 av (struct ν).Ghost (struct ν).make (λ v. tt) (λ x. refl) (λ v g. refl) (λ x. x) 𝓛 refl refl) p

-- what follows a slice that follows two ranges of its own follows both
pub follows_two : {M : Type 1} {𝓤 : Ura M} (𝓛 : Logic 𝓤) (R : RattleType) (γ γ' γ₁ γ₂ : GName) (F : List ℕ → R.Denot) (around : List ℕ → List ℕ → List ℕ)
    → ent 𝓤 (sep 𝓤 (sem 𝓛 (follows R (Array u8 0) γ γ' F)) (sem 𝓛 (after₂ (Arr (mem u8) 0) (Arr (mem u8) 0) (Arr (mem u8) 0) γ' γ₁ γ₂ around)))
    (sem 𝓛 (follows_both R (Array u8 0) (Array u8 0) γ γ₁ γ₂ (λ a e. F (around a e))))
unfolding both_by
follows_two {𝓤 = 𝓤} 𝓛 R γ γ' γ₁ γ₂ F around =
    let B : RattleType = Array u8 0 in
    qed 𝓛 (‵ (follows R B γ γ' F) ∷ ‵ (after₂ (Arr (mem u8) 0) (Arr (mem u8) 0) (Arr (mem u8) 0) γ' γ₁ γ₂ around) ∷ []) ∵
    each ! (λ (w : List ℕ × List ℕ). wand 𝓤 (sep 𝓤 (𝓛.A.res γ₁ (B.coded.code w.0)) (𝓛.A.res γ₂ (B.coded.code w.1))) (𝓛.A.res γ (R.coded.code (F (around w.0 w.1))))) (λ w.
    assume ! (‵ (fres γ₁ (B.coded.code w.0)) ⊛ ‵ (fres γ₂ (B.coded.code w.1))) $ move ! (0 ∷ 2 ∷ []) $
    use2 𝓛 (‵ (fres γ' (B.coded.code (around w.0 w.1)))) (followed₂ 𝓛 (Arr (mem u8) 0) (Arr (mem u8) 0) (Arr (mem u8) 0) around γ' γ₁ γ₂ w.0 w.1) $ move ! (1 ∷ 0 ∷ []) $
    by ! (followed 𝓛 R B F γ γ' (around w.0 w.1)))
