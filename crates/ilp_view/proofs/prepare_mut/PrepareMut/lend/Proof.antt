-- The two ranges are made of one pointer, and the struct follows both.
use mathlib.Core.Path.{◌≡◌, refl, sym, ap, ◌∙◌}
use denote.Struct.Struct.{within as laid_within}
use denote.Struct.Tuple.{tuple_type}
use denote.Struct.Declared.{shape}
use Prim.Native.Nat.{ℕ, ◌+◌, ◌-◌, ◌^◌, ◌<◌, ◌≤◌}
use native.Mathlib.Omega.{arith}
use mathlib.Core.List.{List, [], ◌∷◌, ◌++◌}
use lib.ListN.{length, take, drop as drop_list, take-append-drop, length-drop}
use mir.Syntax.{Ty, named, erased}
use mir.Val.{Val, vstruct, vcons, vnil}
use base.Fml.{GName, ftrue, fat, flft, fobs, fbor}
use base.Logic.{emp}
use contract.Monad.{fact, fact_i}
use contract.Running.{tables}
use types.Kit.{‵, raw, ◌⊛◌, some, later, at_ret, ◌$◌, ◌∵◌, !, qed, move, keep, drop, split, split3, join, fsplit, fsplit3, fjoin, fpack, feq_i, rewrite, group, use0, use1, use2, use3, await, pick, suffices, frame, done}
use types.Part.{whole, sub, agg, look_in}
use types.Run.{lit, stop, fld, hop, addr, bin, and_then, no_more, of_opd, load, first, blocks, exec, returns, enter}
use types.ByLocal.{alloc_all, pass_all, free_all, look_at, through, get, sets, sets_last, env}
use denote.Builtin.{u8}
use denote.Exit.{no}
use denote.RattleType.{RattleType, Valss, owns}
use denote.Laws.{shows}
use denote.Memory.{mem, cell_at}
use denote.Ref.{at_last, MutBor, MutRef, NamedLft, mut_vals, mut_Tells}
use denote.Signature.{plain, named_lft}
use denote.Slice.{MutSlice, Room, slice_val, mut_slice_vals}
use denote.Steps.{nothing, heard, opens, closes, peeks}
use denote.Triple.Walked.{Stays, stay_dropped, walk_of, ends_at, Goes-spent_ref}
use denote.Array.{Array}
use denote.Follow.{both_by, follows, follows_both, follows_then}
use denote.Through.{renamed, lends_inner_slice}
use types.SemTy.{Body}
use base.Fraction.{full_share}
use Rattle.std.proofs.raw_atomic.Walks.{proved}
use borrow.Table.Elements.{at, at_byte, length-take-le}
use Rattle.std.proofs.lemmas.List.{drop-drop}
use Rattle.std.proofs.Common.{append_assoc, lit<}
use Rattle.ilp_view.proofs.Ranges.{pair_lent, lends_pair}
use Rattle.ilp_view.proofs.Lends.{hands_frame, follows_two}
use Rattle.ilp_view.specs.declared.prepare_mut.PrepareMut.{PrepareMut}
use Rattle.ilp_view.specs.contracts.prepare_mut.PrepareMut.{the_row}
use Rattle.ilp_view.specs.contracts.prepare_mut.PrepareMut.lend as f
use Rattle.ilp_view.proofs.prepare_mut.PrepareMut.TheLaws.{lowers, lowered, mir as laid}
use Rattle.ilp_view.proofs.prepare_mut.PrepareMut.lend.Statement.{statement}
use Rattle.ilp_view.proofs.prepare_mut.PrepareMut.lend.Code as code

-- the bytes before, those of the amount, those of the expiry, and the bytes behind
cut_in_four : (i : ℕ) (xs : List ℕ) → xs ≡ take i xs ++ ((take 8 (drop_list i xs) ++ take 17 (drop_list (i + 8) xs)) ++ drop_list (i + 25) xs)
cut_in_four i xs =
    let e₁ = take-append-drop i xs in
    let e₂ = take-append-drop 8 (drop_list i xs) in
    let e₃ = take-append-drop 17 (drop_list (i + 8) xs) in
    let d₁ = drop-drop 8 i xs in
    let d₂ = drop-drop 17 (i + 8) xs in
    let d₃ : drop_list (i + 8 + 17) xs ≡ drop_list (i + 25) xs = ap (λ (k : ℕ). drop_list k xs) (omega arith) in
    grind (arith, append_assoc)

abbrev stayed : Stays f.ended.signature.params f.ended.kept
stayed = (stay_dropped _ no, tt)

pub lend_spec : {M : Type 1} → statement M
unfolding both_by
lend_spec 𝓤 𝓛 𝓜 𝓡 wired =
    let c = f.clauses 𝓛 𝓜.mem 𝓡.returns in let W = walk_of 𝓛 f.ended stayed c in let 𝓣 = tables 𝓤 𝓛.H 𝓜 𝓡 𝓡.env in
    proved 𝓛 f.ended stayed c 𝓜 𝓡 (Goes-spent_ref 𝓛 2 (0 ∷ []) tt (plain (λ κs. the_row (named_lft 2 1 tt κs))), tt)
    f.Key.name code.function (code.unfolded 𝓤 𝓛.H 𝓜 𝓡 wired)
    (λ κs. (mut_vals, tt)) (λ κs. (mut_Tells (named 0) κs.0 (the_row (named_lft 2 1 tt κs)), tt)) (λ κs qs bounds a g are.
    let κ = κs.0 in let κ' = κs.1.0 in let q = qs.0 in let q' = qs.1.0 in
    let ν : NamedLft = named_lft 2 1 tt κs in let R : RattleType = the_row ν in
    let x : MutBor PrepareMut = a.0 in let b = x.ref_ptr.0 in let o = x.ref_ptr.1 in let γ = x.ghost_name in let p : PrepareMut = x.now in
    let fb = p.frame.ref_ptr.0 in let fo = p.frame.ref_ptr.1 in let xs : List ℕ = p.frame.now in let i = p.place in
    let y : W.Ghost = ((κs, qs, bounds, a, (mut_vals x, tt)), tt) in
    qed 𝓛 (((‵ (flft κ q) ⊛ ‵ (flft κ' q') ⊛ ‵ ftrue) ⊛ ‵ (owns (MutRef (named 0) κ R ∷ []) a y.0.4)) ∷ raw (fact 𝓤 (i + 25 ≤ length xs)) ∷ []) ∵
    split ! $ move ! (2 ∷ []) $ heard ! _ (λ le.
    enter ! _ _ _ _ _ $ alloc_all ! (λ l. pass_all ! refl ((tt, tt), tt) $
    move ! (1 ∷ []) $ fsplit ! $ fsplit3 ! $ drop ! $ move ! (3 ∷ []) $ split ! $ move ! (2 ∷ 3 ∷ 0 ∷ []) $ opens ! tt R b o (λ us.
    move ! (1 ∷ []) $ peeks ! R _ (shows 𝓛 R) p us (λ is.
    let word : us ≡ lowered p ∷ [] = (lowers ν).val_is p us is in
    let rm : Room u8 (length xs) = is.1.1.0.0.1 in
    let fi : i < 2 ^ 64 = is.1.1.1.0.1 in
    let fl : length xs < 2 ^ 64 = rm.0 in
    let fs : i + 8 < 2 ^ 64 = omega arith in
    let front : List ℕ = take i xs in
    let one_now : List ℕ = take 8 (drop_list i xs) in
    let two_now : List ℕ = take 17 (drop_list (i + 8) xs) in
    let back : List ℕ = drop_list (i + 25) xs in
    let rest_len : length (drop_list i xs) ≡ length xs - i = length-drop i xs in
    let rest_len₂ : length (drop_list (i + 8) xs) ≡ length xs - (i + 8) = length-drop (i + 8) xs in
    let l₀ : length front ≡ i = length-take-le i xs (omega arith) in
    let l₁ : length one_now ≡ 8 = length-take-le 8 (drop_list i xs) (omega arith) in
    let l₂ : length two_now ≡ 17 = length-take-le 17 (drop_list (i + 8) xs) (omega arith) in
    let cut : xs ≡ front ++ ((one_now ++ two_now) ++ back) = cut_in_four i xs in
    let p₁ : ℕ = i + fo in
    let p₂ : ℕ = i + 8 + fo in
    let on₁ : at fo (mem u8).size (length front) ≡ p₁ = at_byte fo (length front) ∙ ap (λ (k : ℕ). k + fo) l₀ in
    let on₂ : at p₁ (mem u8).size (length one_now) ≡ p₂ = at_byte p₁ (length one_now) ∙ (ap (λ (k : ℕ). k + p₁) l₁ ∙ omega arith) in
    let halves : List RattleType = MutSlice (named 0) κ u8 ∷ MutSlice (named 0) κ u8 ∷ [] in
    let one : GName × GName → MutBor (List ℕ) = λ γs. record { ref_ptr = (fb, p₁); ghost_name = γs.0; now = one_now } in
    let two : GName × GName → MutBor (List ℕ) = λ γs. record { ref_ptr = (fb, p₂); ghost_name = γs.1; now = two_now } in
    let v : Val = vstruct (vcons (slice_val (fb, p₁) 8) (vcons (slice_val (fb, p₂) 17) vnil)) in
    let F : RattleType = MutSlice (named 1) κ' u8 in
    let put : MutBor (List ℕ) → PrepareMut = λ r. record p { frame = r } in
    let Cell = λ (ws : List Val). ‵ (cell_at full_share R.mir ws b o) in
    let Mir : Ty = laid erased in
    let low : Val = lowered p in
    rewrite ! 1 Cell word refl $ move ! (1 ∷ []) $
    use1 𝓛 (‵ (fat full_share Mir b o low)) (𝓛.laws.raw_at full_share Mir b o low) $
    sets ! (addr ! (through ! refl (fld ! refl (fld ! refl (hop ! (look_in ! 0 (sub ! 0 refl (sub ! 0 refl (whole !)))) (stop !)))))) refl (tt, tt) $
    sets ! (of_opd ! (load ! (through ! refl (fld ! refl (stop !))) (look_in ! 0 (sub ! 1 refl (whole !))))) refl (tt, record { fits = fi }) $
    use1 𝓛 (Cell (low ∷ [])) (𝓛.laws.at_raw full_share Mir b o low) $
    rewrite ! 0 Cell (sym word) refl $ closes ! tt R p us b o $
    -- [obs and borrow of the struct; the token of κ; that of κ'; true; ..]
    use3 𝓛 (later (some (λ (γ₁ : GName). ‵ (fobs γ₁ (F.coded.code p.frame)) ⊛ ‵ (fbor κ (Body (mem F) b (o + 0) γ₁)) ⊛ ‵ (flft κ q) ⊛ ‵ (follows R F γ γ₁ put))))
    (hands_frame 𝓛 ν p κ q γ b o) $ await ! tt $ pick ! (λ γ₁. split3 ! $ move ! (2 ∷ []) $ split ! $ move ! (2 ∷ 3 ∷ 0 ∷ 1 ∷ []) $
    use3 𝓛 (later (some (λ (γ' : GName). ‵ ((MutSlice (named 0) κ u8).own_val (renamed p.frame γ') (mut_slice_vals p.frame)) ⊛ ‵ (flft κ q) ⊛ ‵ (follows F (Array u8 0) γ₁ γ' (at_last p.frame)))))
    (lends_inner_slice 𝓛 u8 (named 0) (named 1) κ κ' (record { ref_ptr = (b, o + 0); ghost_name = γ₁; now = p.frame }) bounds.0 rm q) $ await ! tt $ pick ! (λ γ'. split3 ! $
    -- [the slice; the token; the slice's way; the field's way; that of κ'; ..]
    move ! (3 ∷ 2 ∷ []) $ use2 𝓛 (‵ (follows R (Array u8 0) γ γ' (λ w. put (at_last p.frame w)))) (follows_then 𝓛 R F (Array u8 0) put (at_last p.frame) γ γ₁ γ') $ move ! (1 ∷ 2 ∷ []) $
    use2 𝓛 (later (some (pair_lent 𝓛 u8 (named 0) κ q fb fo γ' xs front one_now two_now back cut p₁ p₂ on₁ on₂)))
    (lends_pair 𝓛 u8 (named 0) κ q fb fo γ' xs front one_now two_now back cut p₁ p₂ on₁ on₂ (omega arith, omega arith) (omega arith, omega arith) (mut_slice_vals p.frame)) $ await ! tt $ pick ! (λ γs.
    split3 ! $ nothing ! $ move ! (2 ∷ 0 ∷ []) $ fjoin ! $ move ! (1 ∷ 0 ∷ []) $ fjoin ! $
    feq_i ! (List Val) (v ∷ []) (vstruct (vcons (slice_val (fb, p₁) (length one_now)) (vcons (slice_val (fb, p₂) (length two_now)) vnil)) ∷ []) (λ k. vstruct (vcons (slice_val (fb, p₁) (sym l₁ k)) (vcons (slice_val (fb, p₂) (sym l₂ k)) vnil)) ∷ []) $ fjoin ! $
    fpack ! (Valss halves) (laid_within (shape (tuple_type halves)) (one γs, (two γs, tt)) (v ∷ [])) (slice_val (fb, p₁) (length one_now) ∷ [], (slice_val (fb, p₂) (length two_now) ∷ [], tt)) $
    move ! (1 ∷ []) $ split ! $ move ! (3 ∷ 1 ∷ []) $
    use2 𝓛 (‵ (follows_both R (Array u8 0) (Array u8 0) γ γs.0 γs.1 (λ a e. put (at_last p.frame (front ++ ((a ++ e) ++ back)))))) (follows_two 𝓛 R γ γ' γs.0 γs.1 (λ w. put (at_last p.frame w)) (λ a e. front ++ ((a ++ e) ++ back))) $
    move ! (2 ∷ 1 ∷ 0 ∷ []) $
    -- [the result; the token of κ; what the struct ends as; the token of κ'; true; the locals]
    first ! $ blocks ! $
    sets ! (bin ! (get ! refl) (get ! refl) tt) refl (tt, tt) $
    sets ! (agg ! (and_then ! (get ! refl) (and_then ! (lit ! tt) (no_more !)))) refl (tt, (tt, (record { fits = lit< tt }, tt))) $
    sets ! (bin ! (get ! refl) (lit ! tt) (record { fits = fs })) refl (tt, record { fits = fs }) $
    sets ! (bin ! (get ! refl) (get ! refl) tt) refl (tt, tt) $
    sets ! (agg ! (and_then ! (get ! refl) (and_then ! (lit ! tt) (no_more !)))) refl (tt, (tt, (record { fits = lit< tt }, tt))) $
    sets_last ! (agg ! (and_then ! (get ! refl) (and_then ! (get ! refl) (no_more !)))) refl (tt, ((tt, (record { fits = lit< tt }, tt)), ((tt, (record { fits = lit< tt }, tt)), tt))) $
    exec ! 𝓣.C 𝓣.Λ (env code.Mir.locals l) code.Mir.t-4 (at_ret _ (W.post y)) $
    sets ! (of_opd ! (get ! refl)) refl (tt, ((tt, (record { fits = lit< tt }, tt)), ((tt, (record { fits = lit< tt }, tt)), tt))) $
    returns ! (look_at ! 0 refl) $ free_all ! refl $ keep ! (0 ∷ 1 ∷ 2 ∷ 3 ∷ []) $
    suffices ! _ (ends_at 𝓛 f.ended stayed c y v (one γs, two γs) (tt, tt) (tt, tt)) $
    nothing ! $ nothing ! $ fjoin ! $ join ! $ move ! (1 ∷ 3 ∷ []) $ join ! $ join ! $ frame ! $
    rewrite ! 0 (λ (F : List ℕ → List ℕ → PrepareMut). ‵ (follows_both R (Array u8 0) (Array u8 0) γ γs.0 γs.1 F)) (λ k a e. put (at_last p.frame (front ++ append_assoc a e back k))) refl $
    use0 𝓛 (raw (fact 𝓤 (length two_now ≡ 17))) (fact_i 𝓤 (length two_now ≡ 17) (emp 𝓤) l₂) $
    use0 𝓛 (raw (fact 𝓤 (length one_now ≡ 8))) (fact_i 𝓤 (length one_now ≡ 8) (emp 𝓤) l₁) $
    use0 𝓛 (raw (fact 𝓤 (two_now ≡ two_now))) (fact_i 𝓤 (two_now ≡ two_now) (emp 𝓤) refl) $
    use0 𝓛 (raw (fact 𝓤 (one_now ≡ one_now))) (fact_i 𝓤 (one_now ≡ one_now) (emp 𝓤) refl) $
    move ! (4 ∷ []) $ group ! 5 $ done !)))))))
    )
