use Rattle.std.proofs.Common.{arith, below_more, subst, ◌∙◌}
use Rattle.std.proofs.lemmas.List.{get_or_default}
use Rattle.floor_core.specs.FloorView.{Fits}
use Rattle.core_tests.proofs.floors.all_fit.Goals as goal

pub loop-step-preserved : goal.loop-step-preserved
loop-step-preserved c = below_more _ _ c.loop-step.invariant (λ d.
    subst (Fits c.args.floor.now) (c.step-item.is ∙ get_or_default c.args.steps.now c.loop-step.step-index c.step-item.result d c.loop-step-test.true) (c.fits.ensures.0 c.if-not-fits.false))

pub returns : goal.returns
returns c = λ k d lt. c.loop-step.invariant k (omega arith) d
