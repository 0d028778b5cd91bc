use Rattle.std.proofs.Common.{◌≡◌, ℕ, List, [], ◌∷◌, length, refl, ap, ◌∙◌, arith, rules}
use Rattle.std.specs.Prelude.{sum_by}
use Rattle.std.specs.List.{zip}
use Rattle.std.proofs.lemmas.List.{length-append}
use Rattle.std.proofs.lemmas.List.Sums.{sum_by_push}
use Rattle.tenant_core.specs.Purse.{taken_for, taken_from}
use Rattle.tenant_core.specs.Holds.{holds_of}
use Rattle.tenant_core.specs.Closing.{state_before_roll}
use Rattle.tenant_core.specs.declared.hold.Hold.{Hold}
use Rattle.tenant_core.specs.declared.period.PeriodParts.{PeriodParts}
use Rattle.statements.specs.Sums.{fee_by, went_by}
use Rattle.statements.specs.Totals.{came_from, went_to, fulfilled_from, fulfilled_to, settled_from, settled_to, fees_from}
use Rattle.statements.specs.Totals.IsTooLong.{FulfilledIn, FulfilledOut}
use Rattle.statements.specs.declared.tally.Tally.{Tally}
use Rattle.statements.proofs.OverSteps.{on_long, over_same}
use Rattle.statements.proofs.TotalSteps.{added_more, first_more, sum_more}
use Rattle.statements.proofs.totals.Totals.with.Goals as goal

pub returns-clause-totals : goal.returns-clause-totals
returns-clause-totals c = λ ps were.
    let p : PeriodParts = c.args.gone.now.period in
    let kept : List Hold = holds_of (state_before_roll p) in
    let same : c.as_slice-holds.result.now ≡ kept = c.as_slice-holds.ensures.value ∙ c.requires.holds in
    record {
      periods = c.in_ok-raised.ensures.sum ∙ (let was = were.periods in let long = length-append ps (p ∷ []) in omega arith);
      entries = c.in_ok-raised-2.ensures.sum ∙ (let was = were.entries in let more = sum_by_push (λ (q : PeriodParts). length q.records) ps p in omega arith);
      first = c.in_ok-first_with.ensures ∙ first_more c.args.self.now.periods c.as_slice.result.now ps p were.periods (c.as_slice.ensures.value ∙ were.first);
      added = c.in_ok-added_with.ensures.all ∙ added_more c.as_slice-2.result.now ps p (c.as_slice-2.ensures.value ∙ were.added);
      came = sum_more came_from _ c.args.self.now.came c.in_ok-with_records.field-0 ps p were.came c.in_ok-with_records.ensures.added (λ n. refl);
      went = sum_more went_to _ c.args.self.now.went c.in_ok-with_holds.field-0 ps p were.went c.in_ok-with_holds.ensures.added
          (λ n. ap (λ (xs : List Hold). sum_by (went_by n) xs) same);
      fulfilled_in = sum_more fulfilled_from _ c.args.self.now.fulfilled_in c.in_ok-with_holds-2.field-0 ps p were.fulfilled_in c.in_ok-with_holds-2.ensures.added
          (λ n. ap (λ (xs : List Hold). sum_by (taken_from n) xs) same);
      fulfilled_out = sum_more fulfilled_to _ c.args.self.now.fulfilled_out c.in_ok-with_holds-3.field-0 ps p were.fulfilled_out c.in_ok-with_holds-3.ensures.added
          (λ n. ap (λ (xs : List Hold). sum_by (taken_for n) xs) same);
      settled_in = sum_more settled_from _ c.args.self.now.settled_in c.in_ok-with_records-2.field-0 ps p were.settled_in c.in_ok-with_records-2.ensures.added (λ n. refl);
      settled_out = sum_more settled_to _ c.args.self.now.settled_out c.in_ok-with_records-3.field-0 ps p were.settled_out c.in_ok-with_records-3.ensures.added (λ n. refl);
      fees = sum_more fees_from _ c.args.self.now.fees c.in_ok-with_fees.field-0 ps p were.fees c.in_ok-with_fees.ensures.added
          (λ n. ap (λ (xs : List Hold). sum_by (fee_by n) (zip xs c.args.gone.now.fees.items)) c.requires.holds
          ∙ ap (λ (fs : List ℕ). sum_by (fee_by n) (zip kept fs)) c.requires.fees);
    }

pub returns-in_err-with_holds-2-clause-long : goal.returns-in_err-with_holds-2-clause-long
returns-in_err-with_holds-2-clause-long c =
    let t : Tally = c.args.self.now.fulfilled_in in
    on_long _ _ _ c.in_err-with_holds-2.field-0.0 c.from_residual-in_err-with_holds-2.result (search rules)
    (λ over. FulfilledIn (over_same t t _ _ (λ n. refl)
    (λ n. ap (λ (xs : List Hold). sum_by (taken_from n) xs) (c.as_slice-holds.ensures.value ∙ c.requires.holds)) over))
    c.in_err-with_holds-2.ensures.long

pub returns-in_err-with_holds-3-clause-long : goal.returns-in_err-with_holds-3-clause-long
returns-in_err-with_holds-3-clause-long c =
    let t : Tally = c.args.self.now.fulfilled_out in
    on_long _ _ _ c.in_err-with_holds-3.field-0.0 c.from_residual-in_err-with_holds-3.result (search rules)
    (λ over. FulfilledOut (over_same t t _ _ (λ n. refl)
    (λ n. ap (λ (xs : List Hold). sum_by (taken_for n) xs) (c.as_slice-holds.ensures.value ∙ c.requires.holds)) over))
    c.in_err-with_holds-3.ensures.long
