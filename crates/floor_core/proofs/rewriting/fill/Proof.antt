-- The two ranges are lent for a lifetime of their own, and once they are written the Prepare comes back with what they hold.
use mathlib.Core.Path.{◌≡◌, refl, sym, ap, ◌∙◌}
use Prim.Native.Nat.{ℕ, ◌+◌, ◌^◌, ◌<◌, ◌≤◌}
use mathlib.Core.List.{List, [], ◌∷◌, ◌++◌, mem-append_left, mem-cons_of_mem}
use lib.ListN.{length}
use base.Fraction.{full_share}
use base.Logic.{apply∗, emp, ent, id⊢, sep, wand}
use base.Fml.{Lft, Incl, GName, Share, ftrue, flft, fdead, fobs, fbor, fres}
use base.FractionLaws.{common}
use base.Share.{halves, left, right}
use mir.Syntax.{named, w64}
use mir.Val.{Val, vptr, vint, vstruct, vcons, vnil, vunit, of_list}
use contract.Monad.{fact, fact_i}
use contract.Running.{tables}
use seplogic.Ra.Ura.{Ura}
use types.Follow.{followed₂}
use types.Logic.{Logic, sem}
use types.SemTy.{Arr}
use types.Kit.{‵, raw, ◌⊛◌, some, later, at_ret, ◌$◌, ◌∵◌, !, qed, move, keep, drop, group, split, split3, join, fsplit, fsplit3, fjoin, fpick, feq_i, feq_l, rewrite, use0, use1, use2, use3, await, pick, suffices, frame, done}
use types.Part.{whole, sub}
use types.Run.{stop, fld, hop, from, addr, and_then, no_more, of_opd, unit_lit, exec, returns, enter}
use types.Part.{agg}
use types.ByLocal.{alloc_all, pass_all, free_all, look_at, look_in_at, through, get, get_in, sets, lands_as, env}
use types.Tokens.{lft_new, lft_end, lft-common}
use denote.Array.{Array}
use denote.Builtin.{u8, u64, unit}
use denote.Exit.{yes, no}
use denote.Follow.{both_by, follows_both}
use denote.FollowSlice.{finally-res}
use denote.Laws.{shows}
use denote.Memory.{mem}
use denote.Lend.{LentAgain, lends_again, comes_back}
use denote.Plain.{uint_vals, uint_Tells}
use denote.RattleType.{RattleType, owns}
use denote.Ref.{MutBor, MutRef, NamedLft, mut_vals, mut_Tells}
use denote.Signature.{plain, named_lft}
use denote.Slice.{MutSlice, Room, slice_val, mut_slice_vals}
use denote.Steps.{nothing, heard, peeks, only}
use denote.Struct.Tuple.{Tuple}
use denote.Triple.Call.{calls_at}
use denote.Triple.Clauses.{lasts}
use denote.Triple.Spec.{triple_of}
use denote.Triple.Table.{framed}
use denote.Triple.Walked.{says, Stays, stay_dropped, stay_ref, walk_of, ends_at, Goes-dropped, Goes-ref}
use Rattle.std.proofs.raw_atomic.Walks.{proved}
use Rattle.std.specs.Int.{to_be_bytes}
use Rattle.ilp_addr.specs.Timestamp.{latest_expiry, timestamp_of}
use Rattle.ilp_view.specs.Lent.{HasFields, LendsFields, lent_of, with_fields}
use Rattle.ilp_view.specs.declared.prepare_mut.PrepareMut.{PrepareMut}
use Rattle.ilp_view.specs.contracts.prepare_mut.PrepareMut.{the_row}
use Rattle.ilp_view.specs.contracts.prepare_mut.PrepareMut.lend as lend
use Rattle.ilp_view.proofs.prepare_mut.PrepareMut.lend.Met.{met as lend_met}
use Rattle.floor_core.specs.contracts.rewriting.write_fields as write
use Rattle.floor_core.proofs.rewriting.write_fields.Met.{met as write_met}
use Rattle.floor_core.specs.contracts.rewriting.fill as f
use Rattle.floor_core.proofs.rewriting.fill.Statement.{statement}
use Rattle.floor_core.proofs.rewriting.fill.Code as code

abbrev Ranges : Type 0
Ranges = MutBor (List ℕ) × MutBor (List ℕ)

-- a range as the machine has it
abbrev of : MutBor (List ℕ) → Val
of x = slice_val x.ref_ptr (length x.now)

-- what both ranges ended as says what the Prepare ends as
followed_both : {M : Type 1} {𝓤 : Ura M} (𝓛 : Logic 𝓤) (R : RattleType) (γ γ₁ γ₂ : GName) (F : List ℕ → List ℕ → R.Denot) (a e : List ℕ)
    → ent 𝓤 (sep 𝓤 (sep 𝓤 (𝓛.A.res γ₁ ((Array u8 0).coded.code a)) (𝓛.A.res γ₂ ((Array u8 0).coded.code e))) (sem 𝓛 (follows_both R (Array u8 0) (Array u8 0) γ γ₁ γ₂ F)))
    (𝓛.A.res γ (R.coded.code (F a e)))
unfolding both_by
followed_both 𝓛 R γ γ₁ γ₂ F a e = followed₂ 𝓛 (mem R) (Arr (mem u8) 0) (Arr (mem u8) 0) F γ γ₁ γ₂ a e

abbrev stayed : Stays f.ended.signature.params f.ended.kept
stayed = (stay_ref (0 ∷ []) tt (plain (λ κs. the_row (named_lft 2 1 tt κs))), (stay_dropped _ yes, (stay_dropped _ yes, tt)))

pub fill_spec : {M : Type 1} → statement M
fill_spec 𝓤 𝓛 𝓜 𝓡 wired =
    let c = f.clauses 𝓛 𝓜.mem 𝓡.returns in let W = walk_of 𝓛 f.ended stayed c in let 𝓣 = tables 𝓤 𝓛.H 𝓜 𝓡 𝓡.env in
    let goes = Goes-dropped 𝓛 2 (plain (λ _. u64)) yes (λ κs x w. refl) in
    proved 𝓛 f.ended stayed c 𝓜 𝓡 (Goes-ref 𝓛 2 0 tt (plain (λ κs. the_row (named_lft 2 1 tt κs))), (goes, (goes, tt)))
    f.Key.name code.function (code.unfolded 𝓤 𝓛.H 𝓜 𝓡 wired)
    (λ κs. (mut_vals, (uint_vals w64, (uint_vals w64, tt)))) (λ κs. (mut_Tells (named 0) κs.0 (the_row (named_lft 2 1 tt κs)), (uint_Tells w64, (uint_Tells w64, tt)))) (λ κs qs bounds a g are.
    let κ = κs.0 in let κ' = κs.1.0 in let q = qs.0 in let q' = qs.1.0 in let h₁ = left q' in let h₂ = right q' in
    let ν : NamedLft = named_lft 2 1 tt κs in let R : RattleType = the_row ν in
    let x : MutBor PrepareMut = a.0 in let amount : ℕ = a.1.0 in let expiry : ℕ = a.1.1.0 in
    let b = x.ref_ptr.0 in let o = x.ref_ptr.1 in let γ = x.ghost_name in let p : PrepareMut = x.now in
    let vs : List Val = mut_vals x in
    let y : W.Ghost = ((κs, qs, bounds, a, (vs, (uint_vals w64 amount, (uint_vals w64 expiry, tt)))), tt) in
    let at : GName → MutBor PrepareMut = λ δ. record { ref_ptr = (b, o); ghost_name = δ; now = p } in
    let G = triple_of 𝓛 lend.signature (lend.spec 𝓛 𝓜.mem 𝓡.returns) in
    let G₂ = triple_of 𝓛 write.signature (write.spec 𝓛 𝓜.mem 𝓡.returns) in
    let fa : amount < 2 ^ 64 = are.1.0.1 in
    let fe : expiry < 2 ^ 64 = are.1.1.0.1 in
    qed 𝓛 (((‵ (flft κ q) ⊛ ‵ (flft κ' q') ⊛ ‵ ftrue) ⊛ ‵ (owns (MutRef (named 0) κ R ∷ u64 ∷ u64 ∷ []) a y.0.4)) ∷ (raw (fact 𝓤 (HasFields p)) ⊛ raw (fact 𝓤 (expiry ≤ latest_expiry))) ∷ []) ∵
    split ! $ move ! (2 ∷ []) $ split ! $ heard ! _ (λ has. heard ! _ (λ soon.
    enter ! _ _ _ _ _ $ alloc_all ! (λ l. pass_all ! refl ((tt, tt), ((tt, record { fits = fa }), ((tt, record { fits = fe }), tt))) $
    sets ! (addr ! (through ! refl (stop !))) refl (tt, tt) $
    move ! (1 ∷ []) $ fsplit ! $ move ! (2 ∷ []) $ split3 ! $
    -- [the tokens of κ and of κ'; true; the Prepare; the other arguments; the locals]
    lft_new ! tt (λ α. let β : Lft = α ∷ κ' in let r : Share = (common full_share h₁).0 in let r₁ = left r in let r₂ = right r in let S : RattleType = MutSlice (named 0) β u8 in move ! (2 ∷ []) $
    use1 𝓛 (‵ (flft κ' h₁) ⊛ ‵ (flft κ' h₂)) (𝓛.lfts.lft_cut κ' q' h₁ h₂ (halves q')) $ split ! $
    move ! (2 ∷ 0 ∷ []) $ use2 𝓛 (‵ (flft β r) ⊛ raw (wand 𝓤 (𝓛.A.lft β r) (sep 𝓤 (𝓛.A.lft (α ∷ []) full_share) (𝓛.A.lft κ' h₁)))) (lft-common 𝓛 (α ∷ []) κ' full_share h₁) $ split ! $
    -- [the token of both; its way back; the rest of that of κ'; that of κ; true; the Prepare; ..]
    move ! (5 ∷ 3 ∷ []) $ use2 𝓛 (later (some (λ (δ : GName). ‵ ((MutRef (named 0) β R).own_val (at δ) vs) ⊛ ‵ (LentAgain R κ β q γ b o δ p))))
    (lends_again 𝓛 R (named 0) κ β q γ b o (named 0) p) $ await ! tt $ pick ! (λ δ. split ! $
    let z : G.Ghost = (((β, (κ', tt)), (r, (h₂, tt)), ((λ k m. mem-cons_of_mem α m), tt), (at δ, tt), (vs, tt)), tt) in
    nothing ! $ move ! (1 ∷ 0 ∷ []) $ join ! $ move ! (4 ∷ 5 ∷ []) $ join ! $ move ! (3 ∷ 0 ∷ []) $ join ! $ join ! $
    use0 𝓛 (raw (fact 𝓤 (HasFields p))) (fact_i 𝓤 (HasFields p) (emp 𝓤) has) $ move ! (1 ∷ 0 ∷ []) $ use2 𝓛 (raw (G.pre z)) (id⊢ 𝓤 _) $
    calls_at ! (framed 𝓤 𝓛.H 𝓜 𝓣) G (lend_met 𝓤 𝓛 𝓜 𝓡 (code.calls-ilp_view::prepare_mut::PrepareMut::lend 𝓡.env wired)) z (and_then ! (get ! refl) (no_more !)) (λ v.
    use1 𝓛 (later (some (λ (ranges : Ranges). ((‵ (flft β r) ⊛ ‵ (flft κ' h₂) ⊛ ‵ ftrue) ⊛ ‵ ((Tuple (S ∷ S ∷ [])).own_val ranges (v ∷ []))) ⊛
    some (λ (ws : Unit {0} × Unit {0}). ‵ (lasts lend.ended z.0.0 z.0.3 ws) ⊛ ‵ (LendsFields (at δ) ranges) ⊛ raw (fact 𝓤 (ranges.0.now ≡ (lent_of p).amount)) ⊛ raw (fact 𝓤 (ranges.1.now ≡ (lent_of p).expiry))
    ⊛ raw (fact 𝓤 (length ranges.0.now ≡ 8)) ⊛ raw (fact 𝓤 (length ranges.1.now ≡ 17)))))) (id⊢ 𝓤 _) $ await ! tt $ pick ! (λ ranges. split ! $ split ! $
    move ! (2 ∷ []) $ pick ! (λ ws. split ! $ drop ! $ split3 ! $ move ! (1 ∷ []) $ drop ! $ move ! (1 ∷ []) $ split3 ! $ drop ! $ heard ! _ (λ eight. heard ! _ (λ seventeen.
    -- [what the Prepare ends as; the tokens; the two ranges; what was kept of the Prepare; the way back; the other arguments; ..]
    move ! (2 ∷ []) $ fpick ! (λ vss. fsplit ! $ feq_l ! (λ is_pair. fsplit3 ! $
    peeks ! S _ (shows 𝓛 S) ranges.0 vss.0 (λ is₁. rewrite ! 0 (λ (us : List Val). ‵ (S.own_val ranges.0 us)) is₁.0.0 refl $ move ! (1 ∷ []) $
    peeks ! S _ (shows 𝓛 S) ranges.1 vss.1.0 (λ is₂. rewrite ! 0 (λ (us : List Val). ‵ (S.own_val ranges.1 us)) is₂.0.0 refl $
    let word : v ≡ vstruct (vcons (of ranges.0) (vcons (of ranges.1) vnil)) = ap only (is_pair ∙ (λ k. vstruct (of_list (is₁.0.0 k ++ (is₂.0.0 k ++ []))) ∷ [])) in
    let rm₁ : Room u8 (length ranges.0.now) = is₁.0.1 in
    let rm₂ : Room u8 (length ranges.1.now) = is₂.0.1 in
    lands_as ! word refl (tt, ((tt, (record { fits = rm₁.0 }, tt)), ((tt, (record { fits = rm₂.0 }, tt)), tt))) $
    sets ! (of_opd ! (get_in ! (fld ! refl (stop !)) (sub ! 0 refl (whole !)))) refl (tt, (tt, (record { fits = rm₁.0 }, tt))) $
    sets ! (of_opd ! (get_in ! (fld ! refl (stop !)) (sub ! 1 refl (whole !)))) refl (tt, (tt, (record { fits = rm₂.0 }, tt))) $
    sets ! (addr ! (from ! (fld ! refl (hop ! (look_in_at ! 4 (sub ! 0 refl (whole !))) (stop !))))) refl (tt, tt) $
    sets ! (agg ! (and_then ! (get ! refl) (and_then ! (get_in ! (fld ! refl (stop !)) (sub ! 1 refl (whole !))) (no_more !)))) refl (tt, (tt, (record { fits = rm₁.0 }, tt))) $
    sets ! (addr ! (from ! (fld ! refl (hop ! (look_in_at ! 5 (sub ! 0 refl (whole !))) (stop !))))) refl (tt, tt) $
    sets ! (agg ! (and_then ! (get ! refl) (and_then ! (get_in ! (fld ! refl (stop !)) (sub ! 1 refl (whole !))) (no_more !)))) refl (tt, (tt, (record { fits = rm₂.0 }, tt))) $
    -- [the second range; the first; true; what the Prepare ends as; the tokens; what was kept of it; the way back; the other arguments; ..]
    move ! (4 ∷ []) $ split3 ! $ use1 𝓛 (‵ (flft β r₁) ⊛ ‵ (flft β r₂)) (𝓛.lfts.lft_cut β r r₁ r₂ (halves r)) $ split ! $
    let z₂ : G₂.Ghost = (((β, (β, tt)), (r₁, (r₂, tt)), tt, (ranges.0, (ranges.1, (amount, (expiry, tt)))), (mut_slice_vals ranges.0, (mut_slice_vals ranges.1, (uint_vals w64 amount, (uint_vals w64 expiry, tt))))), tt) in
    move ! (4 ∷ 10 ∷ []) $ join ! $ move ! (5 ∷ 0 ∷ []) $ join ! $ move ! (2 ∷ 4 ∷ []) $ join ! $ move ! (2 ∷ 0 ∷ []) $ join ! $ join ! $
    use0 𝓛 (raw (fact 𝓤 (expiry ≤ latest_expiry))) (fact_i 𝓤 (expiry ≤ latest_expiry) (emp 𝓤) soon) $
    use0 𝓛 (raw (fact 𝓤 (length ranges.1.now ≡ 17))) (fact_i 𝓤 (length ranges.1.now ≡ 17) (emp 𝓤) seventeen) $ join ! $
    use0 𝓛 (raw (fact 𝓤 (length ranges.0.now ≡ 8))) (fact_i 𝓤 (length ranges.0.now ≡ 8) (emp 𝓤) eight) $ join ! $
    move ! (1 ∷ 0 ∷ []) $ use2 𝓛 (raw (G₂.pre z₂)) (id⊢ 𝓤 _) $
    calls_at ! (framed 𝓤 𝓛.H 𝓜 𝓣) G₂ (write_met 𝓤 𝓛 𝓜 𝓡 (code.calls-floor_core::rewriting::write_fields 𝓡.env wired)) z₂
    (and_then ! (get ! refl) (and_then ! (get ! refl) (and_then ! (get ! refl) (and_then ! (get ! refl) (no_more !))))) (λ u.
    use1 𝓛 (later (some (λ (e : Unit {0}). ((‵ (flft β r₁) ⊛ ‵ (flft β r₂) ⊛ ‵ ftrue) ⊛ ‵ (unit.own_val e (u ∷ []))) ⊛
    some (λ (ws : List ℕ × (List ℕ × (Unit {0} × (Unit {0} × Unit {0})))). ‵ (lasts write.ended z₂.0.0 z₂.0.3 ws) ⊛ raw (fact 𝓤 (ws.0 ≡ to_be_bytes w64 amount)) ⊛ raw (fact 𝓤 (ws.1.0 ≡ timestamp_of expiry)))))) (id⊢ 𝓤 _) $
    await ! tt $ pick ! (λ e. split ! $ split ! $ move ! (1 ∷ []) $ feq_l ! (λ is_unit. lands_as ! (ap only is_unit) refl (tt, tt) $
    move ! (1 ∷ []) $ pick ! (λ ws. split3 ! $ move ! (1 ∷ []) $ heard ! _ (λ first. move ! (1 ∷ []) $ heard ! _ (λ second.
    let now : PrepareMut = with_fields p ws.0 ws.1.0 in
    -- [what the ranges ended as; the tokens; the rest of that of κ'; true; what the Prepare ends as; what was kept of it; the way back; ..]
    fsplit3 ! $ fsplit ! $ fsplit ! $ use1 𝓛 (‵ (fres ranges.0.ghost_name ((Array u8 0).coded.code ws.0))) (finally-res 𝓛 u8 ranges.0.ghost_name ws.0) $
    move ! (3 ∷ []) $ fsplit ! $ fsplit ! $ use1 𝓛 (‵ (fres ranges.1.ghost_name ((Array u8 0).coded.code ws.1.0))) (finally-res 𝓛 u8 ranges.1.ghost_name ws.1.0) $
    move ! (3 ∷ 0 ∷ []) $ join ! $ move ! (0 ∷ 9 ∷ []) $
    use2 𝓛 (‵ (fres δ (R.coded.code now))) (followed_both 𝓛 R δ ranges.0.ghost_name ranges.1.ghost_name (with_fields p) ws.0 ws.1.0) $
    move ! (6 ∷ []) $ split3 ! $ use2 𝓛 (‵ (flft β r)) (𝓛.lfts.lft_glue β r r₁ r₂ (halves r)) $
    move ! (0 ∷ 11 ∷ []) $ use2 𝓛 (‵ (flft (α ∷ []) full_share) ⊛ ‵ (flft κ' h₁)) (apply∗ 𝓤 (𝓛.A.lft β r) (sep 𝓤 (𝓛.A.lft (α ∷ []) full_share) (𝓛.A.lft κ' h₁))) $ split ! $
    lft_end ! tt $ move ! (1 ∷ 9 ∷ []) $ use2 𝓛 (‵ (flft κ' q')) (𝓛.lfts.lft_glue κ' q' h₁ h₂ (halves q')) $
    move ! (1 ∷ []) $ use1 𝓛 (‵ (fdead β)) (𝓛.lfts.dead-incl β (α ∷ []) (λ k m. mem-append_left κ' m)) $ move ! (0 ∷ 10 ∷ 3 ∷ []) $
    use3 𝓛 (later (‵ ((MutRef (named 0) κ R).own_val (record { ref_ptr = (b, o); ghost_name = γ; now = now }) vs) ⊛ ‵ (flft κ q))) (comes_back 𝓛 R (named 0) κ β q γ b o δ p now) $ await ! tt $ split ! $
    -- [the Prepare; the tokens of κ and of κ'; true; ..]
    sets ! (of_opd ! (unit_lit !)) refl (tt, tt) $ returns ! (look_at ! 0 refl) $ free_all ! refl $ keep ! (0 ∷ 1 ∷ 2 ∷ 3 ∷ []) $
    suffices ! _ (ends_at 𝓛 f.ended stayed c y vunit tt (now, (tt, (tt, tt))) (tt, (tt, (tt, tt)))) $ says ! (λ k. with_fields p (first k) (second k)) $
    nothing ! $ nothing ! $ fjoin ! $ nothing ! $ fjoin ! $ move ! (1 ∷ 0 ∷ []) $ fjoin ! $
    feq_i ! (List Val) (vunit ∷ []) (vunit ∷ []) refl $ move ! (1 ∷ 0 ∷ []) $ join ! $ move ! (2 ∷ 3 ∷ []) $ join ! $ move ! (2 ∷ 0 ∷ []) $ join ! $ group ! 2 $ done !)))))))))))))))))))))
