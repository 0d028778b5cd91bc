use Rattle.std.proofs.Common.{[], refl, arith}
use Rattle.floor_core.specs.FloorView.{world_of}
use Rattle.replay_text.proofs.Takings.{closes_one}
use Rattle.replay_text.proofs.Pieces.{prints_one}
use Rattle.replay_text.proofs.replays.run_step.Goals as goal

pub returns-clause-printed : goal.returns-clause-printed
returns-clause-printed g c =
    prints_one c.outputs_are_there.ensures.outputs c.outputs_are_there.ensures.left c.args.names.now c.args.step.now (world_of c.args.floor.now) (world_of c.step.new.self) _ c.args.text.now.items c.put_told.new.out.items
    c.in-Ok-step.ensures.told c.in-Ok-step.ensures.world (rw c.reserve.ensures.items at c.in-Ok-put_told.ensures.0)

pub returns-in_default-put_told-clause-lost : goal.returns-in_default-put_told-clause-lost
returns-in_default-put_told-clause-lost g c behind =
    let room = c.in-Ok.ensures.ok in
    let few = c.in_default-put_told.ensures in
    let long = c.reserve.new.self.ok.0 in (
      _,
      prints_one c.outputs_are_there.ensures.outputs c.outputs_are_there.ensures.left c.args.names.now c.args.step.now (world_of c.args.floor.now) (world_of c.step.new.self) _ [] _ c.in-Ok-step.ensures.told c.in-Ok-step.ensures.world refl,
      omega arith,
    )

pub returns-clause-closed : goal.returns-clause-closed
returns-clause-closed g c =
    closes_one c.outputs_are_there.ensures.outputs c.outputs_are_there.ensures.left g.K.PeriodKeeper.takes c.args.step.now (world_of c.args.floor.now) (world_of c.step.new.self) _ c.args.keeper.now c.hand_over.new.keeper
    c.in-Ok-step.ensures.told c.in-Ok-step.ensures.world (c.hand_over.ensures c.step.new.self.seats)
