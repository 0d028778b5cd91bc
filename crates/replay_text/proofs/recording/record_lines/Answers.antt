use Rattle.std.proofs.Common.{◌≡◌, ◌+◌, List, [], length, inl, sym, subst, ◌∙◌, arith}
use Rattle.std.proofs.KnownBytes.{Keeps-refl}
use Rattle.std.proofs.lemmas.List.{nil_from_length}
use Rattle.std.proofs.lemmas.Bool.{eqb-true}
use Rattle.floor_core.specs.FloorView.{world_of}
use Rattle.floor_core.specs.declared.step.Step.{Step}
use Rattle.replay_text.specs.Recorded.{Recording, by_recorder}
use Rattle.replay_text.specs.Script.{lines_of, steps_in, NoneIsBad}
use Rattle.replay_text.proofs.Pieces.{Laws, room_for_fewer}
use Rattle.replay_text.proofs.Recordings.{Along, along_all, along_line, along_none, along_recorded, along_written, on_ok, printed_on}
use Rattle.replay_text.proofs.recording.record_lines.Goals as goal

pub loop-rest-init : goal.loop-rest-init
loop-rest-init g c =
    let laws : Laws = record { outputs = c.one_after_the_other.ensures.outputs; left = c.one_after_the_other.ensures.left; replies = c.outputs_are_there.ensures.outputs; after = c.outputs_are_there.ensures.left } in
    record {
      along = along_none laws (by_recorder g.K.PeriodKeeper.takes g.K.Recorder.keeps) c.args.cast.now.names.now (world_of c.args.floor.now) (steps_in c.args.cast.now.names.now c.args.cast.now.workers (lines_of c.args.script.now)) _ _ (g.W.Write.contents c.args.writer.now) c.new-text.ensures.items;
      kept = inl (Keeps-refl (g.W.Write.contents c.args.writer.now));
      good = c.requires.good;
      workers = c.requires.workers;
      tenants = c.requires.tenants;
      room = c.requires.room;
      before = c.failures-before.ensures;
      unfailed = grind arith;
    }

pub run_line-requires-clause-room : goal.run_line-requires-clause-room
run_line-requires-clause-room g c = room_for_fewer c.loop-rest.floor 1 (length c.loop-rest.rest.now) (omega (arith, c.first_line.ensures.shorter)) c.loop-rest.invariant.room

pub unreachable-requires : goal.unreachable-requires
unreachable-requires g c =
    (subst (NoneIsBad c.args.cast.now.names.now c.args.cast.now.workers) c.first_line.ensures.value c.loop-rest.invariant.good).0
    (c.run_line.ensures.bad (rw c.in-Err-Bad.field-0-is at c.in-Err-Bad.is))

pub returns-in_err-keep_and_write-clause-front : goal.returns-in_err-keep_and_write-clause-front
returns-in_err-keep_and_write-clause-front g c =
    let laws : Laws = record { outputs = c.one_after_the_other.ensures.outputs; left = c.one_after_the_other.ensures.left; replies = c.outputs_are_there.ensures.outputs; after = c.outputs_are_there.ensures.left } in
    let far =
    along_line laws _ _ c.args.cast.now.workers _ _ c.loop-rest.rest.now _ c.first_line.result.1.now _ _ _ _ _ _ _ _ _ c.first_line.ensures.value c.loop-rest.invariant.along c.in-Ok.ensures.printed c.in-Ok.ensures.closed in
    printed_on _ _ _ _ _ _ _ _ _ _ _ _ _ c.loop-rest.invariant.kept far (rw c.as_slice.ensures.value at c.keep_and_write.ensures.front)

pub loop-rest-preserved-in_ok-keep_and_write : goal.loop-rest-preserved-in_ok-keep_and_write
loop-rest-preserved-in_ok-keep_and_write g c =
    let laws : Laws = record { outputs = c.one_after_the_other.ensures.outputs; left = c.one_after_the_other.ensures.left; replies = c.outputs_are_there.ensures.outputs; after = c.outputs_are_there.ensures.left } in
    let far =
    along_line laws _ _ c.args.cast.now.workers _ _ c.loop-rest.rest.now _ c.first_line.result.1.now _ _ _ _ _ _ _ _ _ c.first_line.ensures.value c.loop-rest.invariant.along c.in-Ok.ensures.printed c.in-Ok.ensures.closed in
    record {
      along = along_written _ _ _ _ _ _ _ _ _ _ _ _ _ _ far c.in_ok-keep_and_write.ensures.kept (rw c.as_slice.ensures.value at c.in_ok-keep_and_write.ensures.whole) c.clear.ensures.items;
      kept = printed_on _ _ _ _ _ _ _ _ _ _ _ _ _ c.loop-rest.invariant.kept far (rw c.as_slice.ensures.value at c.keep_and_write.ensures.front);
      good = (subst (NoneIsBad c.args.cast.now.names.now c.args.cast.now.workers) c.first_line.ensures.value c.loop-rest.invariant.good).1;
      workers = c.run_line.ensures.workers ∙ c.loop-rest.invariant.workers;
      tenants = c.run_line.ensures.tenants ∙ c.loop-rest.invariant.tenants;
      room = c.run_line.ensures.room (length c.first_line.result.1.now) (room_for_fewer c.loop-rest.floor (1 + length c.first_line.result.1.now) (length c.loop-rest.rest.now) (omega (arith, c.first_line.ensures.shorter)) c.loop-rest.invariant.room);
      before = c.loop-rest.invariant.before;
      unfailed = grind arith;
    }

pub loop-rest-preserved : goal.loop-rest-preserved
loop-rest-preserved g c =
    let laws : Laws = record { outputs = c.one_after_the_other.ensures.outputs; left = c.one_after_the_other.ensures.left; replies = c.outputs_are_there.ensures.outputs; after = c.outputs_are_there.ensures.left } in
    record {
      along = along_line laws _ _ c.args.cast.now.workers _ _ c.loop-rest.rest.now _ c.first_line.result.1.now _ _ _ _ _ _ _ _ _ c.first_line.ensures.value c.loop-rest.invariant.along c.in-Ok.ensures.printed c.in-Ok.ensures.closed;
      kept = c.loop-rest.invariant.kept;
      good = (subst (NoneIsBad c.args.cast.now.names.now c.args.cast.now.workers) c.first_line.ensures.value c.loop-rest.invariant.good).1;
      workers = c.run_line.ensures.workers ∙ c.loop-rest.invariant.workers;
      tenants = c.run_line.ensures.tenants ∙ c.loop-rest.invariant.tenants;
      room = c.run_line.ensures.room (length c.first_line.result.1.now) (room_for_fewer c.loop-rest.floor (1 + length c.first_line.result.1.now) (length c.loop-rest.rest.now) (omega (arith, c.first_line.ensures.shorter)) c.loop-rest.invariant.room);
      before = c.loop-rest.invariant.before;
      unfailed = c.loop-rest.invariant.unfailed;
    }

pub returns-clause-written : goal.returns-clause-written
returns-clause-written g c =
    let R : Recording g.row.K.Denot = by_recorder g.K.PeriodKeeper.takes g.K.Recorder.keeps in
    let names = c.args.cast.now.names.now in
    let steps : List Step = steps_in names c.args.cast.now.workers (lines_of c.args.script.now) in
    let none : c.loop-rest.rest.now ≡ [] = nil_from_length _ (eqb-true _ _ (sym c.loop-rest-test.ensures)) in
    let far = subst (λ t. Along R names (world_of c.args.floor.now) steps (steps_in names c.args.cast.now.workers (lines_of t)) c.args.recorder.now c.loop-rest.recorder (world_of c.loop-rest.floor) c.loop-rest.text.items (g.W.Write.contents c.args.writer.now) (g.W.Write.contents c.loop-rest.writer)) none c.loop-rest.invariant.along in
    on_ok c.keep_and_write-2.result (λ whole. along_all _ _ _ _ _ _ _ _ _ _ _ far (rw c.as_slice-2.ensures.value at whole)) c.keep_and_write-2.ensures.whole

pub returns-clause-recorded : goal.returns-clause-recorded
returns-clause-recorded g c =
    let R : Recording g.row.K.Denot = by_recorder g.K.PeriodKeeper.takes g.K.Recorder.keeps in
    let names = c.args.cast.now.names.now in
    let steps : List Step = steps_in names c.args.cast.now.workers (lines_of c.args.script.now) in
    let none : c.loop-rest.rest.now ≡ [] = nil_from_length _ (eqb-true _ _ (sym c.loop-rest-test.ensures)) in
    let far = subst (λ t. Along R names (world_of c.args.floor.now) steps (steps_in names c.args.cast.now.workers (lines_of t)) c.args.recorder.now c.loop-rest.recorder (world_of c.loop-rest.floor) c.loop-rest.text.items (g.W.Write.contents c.args.writer.now) (g.W.Write.contents c.loop-rest.writer)) none c.loop-rest.invariant.along in
    on_ok c.keep_and_write-2.result (λ kept. along_recorded _ _ _ _ _ _ _ _ _ _ _ far kept) c.keep_and_write-2.ensures.kept

pub returns-clause-front : goal.returns-clause-front
returns-clause-front g c =
    printed_on _ _ _ _ _ _ _ _ _ _ _ _ _ c.loop-rest.invariant.kept c.loop-rest.invariant.along (rw c.as_slice-2.ensures.value at c.keep_and_write-2.ensures.front)
