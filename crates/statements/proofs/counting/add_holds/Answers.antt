use Rattle.std.proofs.Common.{◌≡◌, ℕ, List, inl, inr, refl, subst, arith, rules}
use Rattle.std.proofs.lemmas.Option.{slice_get_cases, get_or_from_slice_get}
use Rattle.tenant_core.specs.declared.hold.Hold.{Hold}
use Rattle.statements.specs.Sums.{by_hold, counted_for}
use Rattle.statements.proofs.OverSteps.{on_long, over_all, over_same}
use Rattle.statements.proofs.counting.add_holds.Goals as goal

pub returns-in_err-add-clause-long : goal.returns-in_err-add-clause-long
returns-in_err-add-clause-long c =
    let hs : List Hold = c.args.holds.now in
    let k : ℕ = c.loop-hold.hold-index in
    elim (slice_get_cases hs k).1 [
      | inl i ↦
          on_long _ _ _ c.in_err-add.field-0.0 c.from_residual.result (search rules)
          (λ over. over_all (by_hold c.args.what) c.args.tally.now c.loop-hold.tally hs k i.0 c.loop-hold.invariant i.2
          (over_same c.loop-hold.tally c.loop-hold.tally _ _ (λ n. refl)
          (λ n. subst (λ (h : Hold). counted_for c.hold_counts.result n ≡ by_hold c.args.what n h) (get_or_from_slice_get hs k i.0 _ i.2) (c.hold_counts.ensures n))
          over))
          c.in_err-add.ensures.long
      | inr p ↦ absurd (let past = p.0 in omega arith)
    ]
