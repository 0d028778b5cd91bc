use Rattle.std.proofs.Common.{sym, ◌∙◌}
use Rattle.ilp_view.specs.Seen.{fulfill_of}
use Rattle.ilp_view.proofs.AnswerLaws.{fulfill_takes, fulfill_again}
use Rattle.ilp_view.proofs.fulfill.FulfillView.read.Goals as goal

pub returns-in_err-parts-clause-only : goal.returns-in_err-parts-clause-only
returns-in_err-parts-clause-only c = λ p is. let read = fulfill_again c.laws_below.ensures c.args.frame.now p is in let failed = c.in_err-parts.ensures in absurd cc

pub invariant_of-result : goal.invariant_of-result
invariant_of-result c =
    let is = fulfill_takes c.laws_below.ensures c.args.frame.now (fulfill_of c.in_ok-parts.parts) c.in_ok-parts.ensures in
    record { fulfillment = is.fulfillment; payload = is.payload }

pub returns-clause-found : goal.returns-clause-found
returns-clause-found c = fulfill_takes c.laws_below.ensures c.args.frame.now (fulfill_of c.in_ok-parts.parts) c.in_ok-parts.ensures

pub returns-clause-only : goal.returns-clause-only
returns-clause-only c = λ p is. sym c.in_ok-parts.ensures ∙ fulfill_again c.laws_below.ensures c.args.frame.now p is
