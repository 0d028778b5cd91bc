use Rattle.floor_core.proofs.Forwarding.{step_sends}
use Rattle.floor_core.proofs.Whole.{met, stepped}
use Rattle.floor_core.proofs.floor.Floor.step.Goals as goal

pub step-requires-clause-met : goal.step-requires-clause-met
step-requires-clause-met c = met c.self.inside.parts c.self.invariant

pub invariant_of-self : goal.invariant_of-self
invariant_of-self c =
    (stepped c.open_holds.ensures c.calls.ensures c.self.inside.parts c.step.new.self c.args.step.now c.step.result c.self.invariant
    (rw c.self.view_is c.requires.fits) c.step.ensures.bytes c.step.ensures.asked c.step.ensures.told c.step.ensures.moved c.step.ensures.same).whole

pub returns-clause-told : goal.returns-clause-told
returns-clause-told c =
    rw (← c.self.view_is)
    (stepped c.open_holds.ensures c.calls.ensures c.self.inside.parts c.step.new.self c.args.step.now c.step.result c.self.invariant
    (rw c.self.view_is c.requires.fits) c.step.ensures.bytes c.step.ensures.asked c.step.ensures.told c.step.ensures.moved c.step.ensures.same).told

pub returns-clause-world : goal.returns-clause-world
returns-clause-world c =
    rw (← c.self.view_is)
    (stepped c.open_holds.ensures c.calls.ensures c.self.inside.parts c.step.new.self c.args.step.now c.step.result c.self.invariant
    (rw c.self.view_is c.requires.fits) c.step.ensures.bytes c.step.ensures.asked c.step.ensures.told c.step.ensures.moved c.step.ensures.same).world

pub returns-clause-forwards : goal.returns-clause-forwards
returns-clause-forwards c =
    step_sends c.frames_that_go_on.ensures c.args.self.now c.step.new.self c.args.step.now c.step.result c.has_taken.ensures c.requires.fits c.step.ensures.bytes
    (rw (← c.self.view_is)
    (stepped c.open_holds.ensures c.calls.ensures c.self.inside.parts c.step.new.self c.args.step.now c.step.result c.self.invariant
    (rw c.self.view_is c.requires.fits) c.step.ensures.bytes c.step.ensures.asked c.step.ensures.told c.step.ensures.moved c.step.ensures.same).told)
