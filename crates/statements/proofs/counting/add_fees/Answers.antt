use Rattle.std.proofs.Common.{◌+◌, ◌<◌, ◌≤◌, ℕ, List, length, inl, inr, ap, sym, ◌∙◌, arith, rules}
use Rattle.std.specs.Prelude.{Some, sum_by}
use Rattle.std.specs.List.{zip}
use Rattle.std.proofs.lemmas.List.{take_all}
use Rattle.std.proofs.lemmas.List.Sums.{sum_by_more}
use Rattle.std.proofs.lemmas.Option.{get_or_from_slice_get, slice_get_cases}
use Rattle.std.proofs.lemmas.Slice.Zip.{get_or-zip, length-zip}
use Rattle.tenant_core.specs.declared.hold.Hold.{Hold}
use Rattle.statements.specs.Sums.{fee_by, sum_at}
use Rattle.statements.proofs.OverSteps.{on_long, over_all}
use Rattle.statements.proofs.counting.add_fees.Goals as goal

pub loop-place-preserved : goal.loop-place-preserved
loop-place-preserved c = λ (n : ℕ).
    let hs : List Hold = c.args.holds.now in
    let fs : List ℕ = c.args.fees.now in
    let k : ℕ = c.loop-place.place in
    let here : k < length hs = omega arith in
    let there : k < length fs = omega arith in
    elim (slice_get_cases hs k).1 [
      | inl i ↦
          let h : Hold = i.0 in
          let both : k < length (zip hs fs) = omega (arith, length-zip hs fs) in
          let added = c.in_ok-add_fee_at.ensures.added h n in
          let so_far = c.loop-place.invariant n in
          let more = sum_by_more (fee_by n) (zip hs fs) k (h, 0) both in
          let pair = ap (fee_by n) (get_or-zip hs fs k (h, 0) here there) in
          omega (arith, added, so_far, more, pair)
      | inr p ↦ absurd (let past = p.0 in omega arith)
    ]

pub returns-clause-added : goal.returns-clause-added
returns-clause-added c = λ (n : ℕ).
    let hs : List Hold = c.args.holds.now in
    let fs : List ℕ = c.args.fees.now in
    let k : ℕ = c.loop-place.place in
    let past : length (zip hs fs) ≤ k = omega (arith, length-zip hs fs) in
    c.loop-place.invariant n
    ∙ ap (λ (xs : List (Hold × ℕ)). sum_at c.args.tally.now n + sum_by (fee_by n) xs) (take_all k (zip hs fs) past)

pub returns-in_err-add_fee_at-clause-long : goal.returns-in_err-add_fee_at-clause-long
returns-in_err-add_fee_at-clause-long c =
    let hs : List Hold = c.args.holds.now in
    let fs : List ℕ = c.args.fees.now in
    let k : ℕ = c.loop-place.place in
    let here : k < length hs = omega arith in
    let there : k < length fs = omega arith in
    elim (slice_get_cases (zip hs fs) k).1 [
      | inl j ↦
          let h : Hold = j.0.0 in
          let pair = sym (get_or_from_slice_get (zip hs fs) k j.0 (h, 0) j.2) ∙ get_or-zip hs fs k (h, 0) here there in
          on_long _ _ _ c.in_err-add_fee_at.field-0.0 c.from_residual.result (search rules)
          (λ over. over_all fee_by c.args.tally.now c.loop-place.tally (zip hs fs) k _ c.loop-place.invariant
          (j.2 ∙ ap (λ (x : Hold × ℕ). Some x) pair) (over h))
          c.in_err-add_fee_at.ensures.long
      | inr p ↦ absurd (let past = p.0 in omega (arith, length-zip hs fs))
    ]
