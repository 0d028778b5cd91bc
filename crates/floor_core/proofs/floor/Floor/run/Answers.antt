use Rattle.std.proofs.Common.{◌∙◌, ap, arith, length, subst}
use Rattle.std.proofs.lemmas.List.Elements.{All-more}
use Rattle.std.proofs.lemmas.Grind.{common_steps}
use Rattle.floor_core.specs.FloorView.{world_of}
use Rattle.floor_core.specs.Forwards.{HasBytes}
use Rattle.floor_core.proofs.Forwarding.{so_far_sends}
use Rattle.floor_core.proofs.Views.{run_more, ran_all, ended_all, ran_so_far, ended_so_far}
use Rattle.floor_core.proofs.floor.Floor.run.Goals as goal

pub loop-step-preserved : goal.loop-step-preserved
loop-step-preserved c =
    let more = run_more (world_of c.args.self.now) (world_of c.loop-step.self) c.args.steps.now c.loop-step.step-index c.step-item.result c.loop-step.outputs.items c.loop-step-test.true c.step-item.is c.loop-step.invariant.told c.loop-step.invariant.world in
    record {
      told = rw (c.push_reserved.ensures.items, c.in-Ok.ensures.items, c.output.ensures ∙ c.in-Ok-step.ensures.told) more.0;
      world = c.in-Ok-step.ensures.world ∙ more.1;
      bytes = All-more HasBytes c.args.steps.now c.loop-step.step-index c.step-item.result c.loop-step-test.true c.loop-step.invariant.bytes (subst HasBytes c.step-item.is c.step.ensures.bytes);
      count = grind (arith, common_steps);
      workers = c.step.ensures.workers ∙ c.loop-step.invariant.workers;
      tenants = c.step.ensures.tenants ∙ c.loop-step.invariant.tenants;
      counted = λ t. omega (arith, c.step.ensures.counted t, c.loop-step.invariant.counted t);
    }

pub returns-clause-outputs : goal.returns-clause-outputs
returns-clause-outputs c = ran_all (world_of c.args.self.now) c.args.steps.now c.loop-step.step-index c.loop-step.outputs.items c.loop-step-test.false c.loop-step.invariant.told

pub returns-clause-left : goal.returns-clause-left
returns-clause-left c = ended_all (world_of c.args.self.now) (world_of c.loop-step.self) c.args.steps.now c.loop-step.step-index c.loop-step.outputs.items c.loop-step-test.false c.loop-step.invariant.told c.loop-step.invariant.world

pub returns-in_default-clause-done : goal.returns-in_default-clause-done
returns-in_default-clause-done c =
    let e = c.from_vec.ensures ∙ c.in_default.ensures.items in
    ran_so_far (world_of c.args.self.now) c.args.steps.now c.loop-step.step-index c.from_vec.result (ap length e ∙ c.loop-step.invariant.count) (e ∙ c.loop-step.invariant.told)

pub returns-in_default-clause-stands : goal.returns-in_default-clause-stands
returns-in_default-clause-stands c =
    let e = c.from_vec.ensures ∙ c.in_default.ensures.items in
    ended_so_far (world_of c.args.self.now) (world_of c.loop-step.self) c.args.steps.now c.loop-step.step-index c.from_vec.result (ap length e ∙ c.loop-step.invariant.count) (e ∙ c.loop-step.invariant.told) c.loop-step.invariant.world

pub returns-in_default-step-clause-done : goal.returns-in_default-step-clause-done
returns-in_default-step-clause-done c =
    let e = c.from_vec-in_default-step.ensures ∙ c.in-Ok.ensures.items in
    ran_so_far (world_of c.args.self.now) c.args.steps.now c.loop-step.step-index c.from_vec-in_default-step.result (ap length e ∙ c.loop-step.invariant.count) (e ∙ c.loop-step.invariant.told)

pub returns-in_default-step-clause-stands : goal.returns-in_default-step-clause-stands
returns-in_default-step-clause-stands c =
    let e = c.from_vec-in_default-step.ensures ∙ c.in-Ok.ensures.items in
    ended_so_far (world_of c.args.self.now) (world_of c.step.new.self) c.args.steps.now c.loop-step.step-index c.from_vec-in_default-step.result (ap length e ∙ c.loop-step.invariant.count) (e ∙ c.loop-step.invariant.told) (ap world_of c.in_default-step.ensures.same ∙ c.loop-step.invariant.world)

pub returns-clause-forwards : goal.returns-clause-forwards
returns-clause-forwards c =
    so_far_sends c.frames_that_go_on.ensures c.args.self.now c.args.steps.now c.loop-step.step-index c.loop-step.outputs.items c.has_taken.ensures c.requires.fit c.loop-step.invariant.bytes c.loop-step.invariant.told

pub returns-in_default-clause-forwards : goal.returns-in_default-clause-forwards
returns-in_default-clause-forwards c =
    so_far_sends c.frames_that_go_on.ensures c.args.self.now c.args.steps.now c.loop-step.step-index c.from_vec.result c.has_taken.ensures c.requires.fit c.loop-step.invariant.bytes
    (c.from_vec.ensures ∙ c.in_default.ensures.items ∙ c.loop-step.invariant.told)

pub returns-in_default-step-clause-forwards : goal.returns-in_default-step-clause-forwards
returns-in_default-step-clause-forwards c =
    so_far_sends c.frames_that_go_on.ensures c.args.self.now c.args.steps.now c.loop-step.step-index c.from_vec-in_default-step.result c.has_taken.ensures c.requires.fit c.loop-step.invariant.bytes
    (c.from_vec-in_default-step.ensures ∙ c.in-Ok.ensures.items ∙ c.loop-step.invariant.told)
