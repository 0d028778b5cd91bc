use Rattle.std.proofs.Common.{◌≡◌, ◌+◌, List, [], length, sym, subst, ◌∙◌, arith}
use Rattle.std.proofs.lemmas.List.{nil_from_length}
use Rattle.std.proofs.lemmas.Bool.{eqb-true}
use Rattle.floor_core.specs.FloorView.{FloorState, world_of}
use Rattle.floor_core.specs.declared.step.Step.{Step}
use Rattle.replay_text.specs.Replay.{WritesDone}
use Rattle.replay_text.specs.Script.{lines_of, steps_in, NoneIsBad}
use Rattle.replay_text.specs.SoFar.{AreTaken}
use Rattle.replay_text.proofs.Takings.{all_taken, line_taken, none_taken}
use Rattle.replay_text.proofs.Pieces.{Laws, Far, not_far, line_farther, same_far, written_farther, some_written, written_before, all_written, done_written, room_for_fewer}
use Rattle.replay_text.proofs.replays.run_lines.Goals as goal

pub loop-rest-init : goal.loop-rest-init
loop-rest-init g c =
    let laws : Laws = record { outputs = c.one_after_the_other.ensures.outputs; left = c.one_after_the_other.ensures.left; replies = c.outputs_are_there.ensures.outputs; after = c.outputs_are_there.ensures.left } in
    let steps_left : List Step = steps_in c.args.cast.now.names.now c.args.cast.now.workers (lines_of c.args.script.now) in
    record {
      far = λ world steps so_far. not_far _ world (world_of c.args.floor.now) steps steps_left c.args.text.now.items (g.W.Write.contents c.args.writer.now) so_far;
      taken = none_taken laws g.K.PeriodKeeper.takes (world_of c.args.floor.now) steps_left c.args.keeper.now;
      good = c.requires.good;
      workers = c.requires.workers;
      tenants = c.requires.tenants;
      room = c.requires.room;
      before = c.failures-before.ensures;
      unfailed = grind arith;
    }

pub run_line-requires-clause-room : goal.run_line-requires-clause-room
run_line-requires-clause-room g c = room_for_fewer c.loop-rest.floor 1 (length c.loop-rest.rest.now) (omega (arith, c.first_line.ensures.shorter)) c.loop-rest.invariant.room

pub unreachable-requires : goal.unreachable-requires
unreachable-requires g c =
    (subst (NoneIsBad c.args.cast.now.names.now c.args.cast.now.workers) c.first_line.ensures.value c.loop-rest.invariant.good).0
    (c.run_line.ensures.bad (rw c.in-Err-Bad.field-0-is at c.in-Err-Bad.is))

pub returns-in_err-write_if_long-clause-front : goal.returns-in_err-write_if_long-clause-front
returns-in_err-write_if_long-clause-front g c = λ world steps so_far.
    let laws : Laws = record { outputs = c.one_after_the_other.ensures.outputs; left = c.one_after_the_other.ensures.left; replies = c.outputs_are_there.ensures.outputs; after = c.outputs_are_there.ensures.left } in
    some_written laws _ world _ steps _ _ _ _ _
    (line_farther laws _ c.args.cast.now.workers steps c.loop-rest.rest.now _ c.first_line.result.1.now _ _ _ _ _ _ _ c.first_line.ensures.value (c.loop-rest.invariant.far world steps so_far) c.in-Ok.ensures.printed)
    c.write_if_long.ensures.front

pub loop-rest-preserved : goal.loop-rest-preserved
loop-rest-preserved g c =
    let laws : Laws = record { outputs = c.one_after_the_other.ensures.outputs; left = c.one_after_the_other.ensures.left; replies = c.outputs_are_there.ensures.outputs; after = c.outputs_are_there.ensures.left } in
    record {
      far = λ world steps so_far. written_farther _ world _ steps _ _ _ _ _ _
          (line_farther laws _ c.args.cast.now.workers steps c.loop-rest.rest.now _ c.first_line.result.1.now _ _ _ _ _ _ _ c.first_line.ensures.value (c.loop-rest.invariant.far world steps so_far) c.in-Ok.ensures.printed)
          c.in_ok-write_if_long.ensures.written;
      taken = line_taken laws g.K.PeriodKeeper.takes _ c.args.cast.now.workers _ c.loop-rest.rest.now _ c.first_line.result.1.now _ _ _ _ _ _ c.first_line.ensures.value c.loop-rest.invariant.taken c.in-Ok.ensures.closed;
      good = (subst (NoneIsBad c.args.cast.now.names.now c.args.cast.now.workers) c.first_line.ensures.value c.loop-rest.invariant.good).1;
      workers = c.run_line.ensures.workers ∙ c.loop-rest.invariant.workers;
      tenants = c.run_line.ensures.tenants ∙ c.loop-rest.invariant.tenants;
      room = c.run_line.ensures.room (length c.first_line.result.1.now) (room_for_fewer c.loop-rest.floor (1 + length c.first_line.result.1.now) (length c.loop-rest.rest.now) (omega (arith, c.first_line.ensures.shorter)) c.loop-rest.invariant.room);
      before = c.loop-rest.invariant.before;
      unfailed = grind arith;
    }

pub returns-in_err-write_text-in-Err-Before-clause-front : goal.returns-in_err-write_text-in-Err-Before-clause-front
returns-in_err-write_text-in-Err-Before-clause-front g c = λ world steps so_far.
    let laws : Laws = record { outputs = c.one_after_the_other.ensures.outputs; left = c.one_after_the_other.ensures.left; replies = c.outputs_are_there.ensures.outputs; after = c.outputs_are_there.ensures.left } in
    let before = rw c.in-Err-Before.field-0-is at c.in-Err-Before.is in
    some_written laws _ world _ steps _ _ _ _ _
    (same_far _ _ _ _ _ _ _ _ _ (c.run_line.ensures.unprinted before) (c.loop-rest.invariant.far world steps so_far))
    (rw c.as_slice.ensures.value at c.write_text.ensures.front)

pub returns-in-Err-Before-clause-front : goal.returns-in-Err-Before-clause-front
returns-in-Err-Before-clause-front g c = λ world steps so_far.
    let laws : Laws = record { outputs = c.one_after_the_other.ensures.outputs; left = c.one_after_the_other.ensures.left; replies = c.outputs_are_there.ensures.outputs; after = c.outputs_are_there.ensures.left } in
    let before = rw c.in-Err-Before.field-0-is at c.in-Err-Before.is in
    some_written laws _ world _ steps _ _ _ _ _
    (same_far _ _ _ _ _ _ _ _ _ (c.run_line.ensures.unprinted before) (c.loop-rest.invariant.far world steps so_far))
    (rw c.as_slice.ensures.value at c.write_text.ensures.front)

pub returns-in-Err-Before-clause-done : goal.returns-in-Err-Before-clause-done
returns-in-Err-Before-clause-done g c = λ e world steps so_far.
    let before = rw c.in-Err-Before.field-0-is at c.in-Err-Before.is in
    let done =
    done_written _ world _ steps _ _ _ _ _
    (same_far _ _ _ _ _ _ _ _ _ (c.run_line.ensures.unprinted before) (c.loop-rest.invariant.far world steps so_far))
    (rw c.as_slice.ensures.value at c.in_ok-write_text-in-Err-Before.ensures.whole) in
    subst (λ (f : FloorState). WritesDone c.args.cast.now.names.now world steps (world_of f) (g.W.Write.contents c.args.writer.now) (g.W.Write.contents c.write_text.new.writer))
    (sym (c.run_line.ensures.undone before)) done

pub returns-in-Err-Behind-clause-front : goal.returns-in-Err-Behind-clause-front
returns-in-Err-Behind-clause-front g c = λ world steps so_far.
    let laws : Laws = record { outputs = c.one_after_the_other.ensures.outputs; left = c.one_after_the_other.ensures.left; replies = c.outputs_are_there.ensures.outputs; after = c.outputs_are_there.ensures.left } in
    written_before laws _ world _ steps _ _ _ _ (c.loop-rest.invariant.far world steps so_far)

pub returns-clause-written : goal.returns-clause-written
returns-clause-written g c = λ e world steps so_far.
    let names = c.args.cast.now.names.now in
    let none : c.loop-rest.rest.now ≡ [] = nil_from_length _ (eqb-true _ _ (sym c.loop-rest-test.ensures)) in
    let far = subst (λ t. Far names world (world_of c.loop-rest.floor) steps (steps_in names c.args.cast.now.workers (lines_of t)) c.loop-rest.text.items (g.W.Write.contents c.args.writer.now) (g.W.Write.contents c.loop-rest.writer)) none (c.loop-rest.invariant.far world steps so_far) in
    all_written _ _ _ _ _ _ _ _ far (rw c.as_slice-2.ensures.value at c.in_ok-write_text.ensures.whole)

pub returns-clause-closed : goal.returns-clause-closed
returns-clause-closed g c = λ e.
    let names = c.args.cast.now.names.now in
    let none : c.loop-rest.rest.now ≡ [] = nil_from_length _ (eqb-true _ _ (sym c.loop-rest-test.ensures)) in
    let steps : List Step = steps_in names c.args.cast.now.workers (lines_of c.args.script.now) in
    all_taken g.K.PeriodKeeper.takes _ _ steps _ _
    (subst (λ t. AreTaken g.K.PeriodKeeper.takes (world_of c.args.floor.now) (world_of c.loop-rest.floor) steps (steps_in names c.args.cast.now.workers (lines_of t)) c.args.keeper.now c.loop-rest.keeper)
    none c.loop-rest.invariant.taken)

pub returns-in_err-write_text-clause-front : goal.returns-in_err-write_text-clause-front
returns-in_err-write_text-clause-front g c = λ world steps so_far.
    let laws : Laws = record { outputs = c.one_after_the_other.ensures.outputs; left = c.one_after_the_other.ensures.left; replies = c.outputs_are_there.ensures.outputs; after = c.outputs_are_there.ensures.left } in
    some_written laws _ world _ steps _ _ _ _ _ (c.loop-rest.invariant.far world steps so_far) (rw c.as_slice-2.ensures.value at c.write_text-2.ensures.front)

pub returns-clause-front : goal.returns-clause-front
returns-clause-front g c = λ world steps so_far.
    let laws : Laws = record { outputs = c.one_after_the_other.ensures.outputs; left = c.one_after_the_other.ensures.left; replies = c.outputs_are_there.ensures.outputs; after = c.outputs_are_there.ensures.left } in
    some_written laws _ world _ steps _ _ _ _ _ (c.loop-rest.invariant.far world steps so_far) (rw c.as_slice-2.ensures.value at c.write_text-2.ensures.front)
