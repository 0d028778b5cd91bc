use Rattle.std.proofs.Common.{◌+◌, length, ◌∙◌, arith}
use Rattle.replay_text.proofs.Begun.{on_line, on_none, on_same}
use Rattle.replay_text.proofs.Pieces.{Laws, room_for_fewer}
use Rattle.replay_text.proofs.replays.run_ended.Goals as goal

pub loop-alloc-init : goal.loop-alloc-init
loop-alloc-init g c = record {
  run = on_none g.K.PeriodKeeper.takes c.args.cast.now.names.now c.args.cast.now.workers c.args.part.now c.args.held.now.number c.args.floor.now c.args.held.now.text.items c.args.keeper.now;
  numbered = omega arith;
  workers = c.requires.workers;
  tenants = c.requires.tenants;
  room = c.requires.room;
}

pub run_line-requires-clause-room : goal.run_line-requires-clause-room
run_line-requires-clause-room g c = room_for_fewer c.loop-alloc.floor 1 (length c.loop-alloc.rest.now) (omega (arith, c.in-Some.ensures.shorter)) c.loop-alloc.invariant.room

pub loop-alloc-preserved : goal.loop-alloc-preserved
loop-alloc-preserved g c =
    let laws : Laws = record { outputs = c.one_after_the_other.ensures.outputs; left = c.one_after_the_other.ensures.left; replies = c.outputs_are_there.ensures.outputs; after = c.outputs_are_there.ensures.left } in
    let after = c.in-Some.after.now in
    record {
      run = on_line laws g.K.PeriodKeeper.takes c.args.cast.now.names.now c.args.cast.now.workers c.args.part.now c.loop-alloc.rest.now c.in-Some.line.now after _ _ _ _ _ _ _ _ _ _ _
          c.in-Some.ensures.value c.in-Some.ensures.shorter c.loop-alloc.invariant.run c.in-Ok.ensures.printed c.in-Ok.ensures.good c.in-Ok.ensures.closed
          c.run_line.ensures.workers c.run_line.ensures.tenants c.run_line.ensures.room;
      numbered = omega (arith, c.in-Some.ensures.shorter, c.loop-alloc.invariant.numbered);
      workers = c.run_line.ensures.workers ∙ c.loop-alloc.invariant.workers;
      tenants = c.run_line.ensures.tenants ∙ c.loop-alloc.invariant.tenants;
      room = c.run_line.ensures.room (length after) (room_for_fewer c.loop-alloc.floor (1 + length after) (length c.loop-alloc.rest.now) (omega (arith, c.in-Some.ensures.shorter)) c.loop-alloc.invariant.room);
    }

pub returns-in-Err-Bad-clause-run : goal.returns-in-Err-Bad-clause-run
returns-in-Err-Bad-clause-run g c =
    let kept = c.run_line.ensures.kept (rw c.in-Err-Bad.field-0-is at c.in-Err-Bad.is) in
    on_same g.K.PeriodKeeper.takes c.args.cast.now.names.now c.args.cast.now.workers _ _ _ _ _ _ _ _ _ _ _ _ _ c.loop-alloc.invariant.run kept.0 kept.1 kept.2
