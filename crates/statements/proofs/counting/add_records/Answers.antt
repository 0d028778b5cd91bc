use Rattle.std.proofs.Common.{ℕ, List, inl, inr, arith, rules}
use Rattle.std.proofs.lemmas.Option.{slice_get_cases}
use Rattle.tenant_core.specs.declared.journal.Record.{Record}
use Rattle.statements.specs.Sums.{by_record}
use Rattle.statements.proofs.OverSteps.{on_long, over_all}
use Rattle.statements.proofs.RecordSums.{one_more_sum}
use Rattle.statements.proofs.counting.add_records.Goals as goal

pub loop-place-preserved : goal.loop-place-preserved
loop-place-preserved c = λ (n : ℕ).
    let rs : List Record = c.args.records.now in
    elim (slice_get_cases rs c.loop-place.place).1 [
      | inl i ↦
          let added = c.in_ok-add_record_at.ensures.added i.0 i.2 n in
          let so_far = c.loop-place.invariant n in
          let more = one_more_sum (λ (r : Record). by_record c.args.what n r) rs c.loop-place.place i.0 i.2 in
          omega arith
      | inr p ↦ absurd (let past = p.0 in omega arith)
    ]

pub returns-in_err-add_record_at-clause-long : goal.returns-in_err-add_record_at-clause-long
returns-in_err-add_record_at-clause-long c =
    let rs : List Record = c.args.records.now in
    let k : ℕ = c.loop-place.place in
    elim (slice_get_cases rs k).1 [
      | inl i ↦
          on_long _ _ _ c.in_err-add_record_at.field-0.0 c.from_residual.result (search rules)
          (λ over. over_all (by_record c.args.what) c.args.tally.now c.loop-place.tally rs k i.0 c.loop-place.invariant i.2 (over i.0 i.2))
          c.in_err-add_record_at.ensures.long
      | inr p ↦ absurd (let past = p.0 in omega arith)
    ]
