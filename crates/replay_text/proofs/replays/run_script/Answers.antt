use Rattle.std.proofs.Common.{◌≡◌, ◌+◌, List, ℕ, None, Ok, inr, arith}
use Rattle.std.specs.Io.KnownBytes.{Appends}
use Rattle.floor_core.specs.declared.step.Step.{Step}
use Rattle.replay_text.specs.Closed.{TakesClosedFor}
use Rattle.replay_text.specs.Replay.{refusal_of, IsReplayedFor, world_of_setup}
use Rattle.replay_text.specs.Script.{lines_of, steps_in}
use Rattle.replay_text.specs.Streams.{AppendsFront}
use Rattle.replay_text.specs.declared.script.TheConstants.{MAX_SCRIPT}
use Rattle.replay_text.proofs.Composition.{has_room}
use Rattle.replay_text.proofs.Starts.{closed_for, from_start, left_none, of_known, refused_for, some_for, unrefused, written_for}
use Rattle.replay_text.proofs.replays.run_script.Goals.{in-Ok-Cut, in-Ok-Cut-2}
use Rattle.replay_text.proofs.replays.run_script.Goals as goal

pub good_front-requires-clause-room : goal.good_front-requires-clause-room
good_front-requires-clause-room g c =
    has_room c.as_slice-tenants.result.now c.args.setup.now.start (MAX_SCRIPT + 1) c.in-Ok.floor c.in-Ok.ensures.world (omega arith)

pub run_lines-requires-clause-good : goal.run_lines-requires-clause-good
run_lines-requires-clause-good g c = rw c.as_slice.ensures.value c.in-Ok-good_front.ensures.good.good

pub run_lines-requires-clause-room : goal.run_lines-requires-clause-room
run_lines-requires-clause-room g c = rw c.as_slice.ensures.value c.in-Ok-good_front.ensures.good.run.room

pub returns-in-Err-clause-refused : goal.returns-in-Err-clause-refused
returns-in-Err-clause-refused g c =
    refused_for c.args.cast.now.names.now c.args.cast.now.workers c.args.setup.now c.in-Err.fault (g.R.Read.remaining c.args.reader.now) c.requires.names c.in-Err.ensures.refused

pub returns-in-Err-clause-left : goal.returns-in-Err-clause-left
returns-in-Err-clause-left g c =
    left_none c.args.cast.now.workers c.args.setup.now c.in-Err.fault (g.R.Read.remaining c.args.reader.now) (g.W.Write.contents c.args.writer.now)

pub returns-in-Ok-Whole-clause-written : goal.returns-in-Ok-Whole-clause-written
returns-in-Ok-Whole-clause-written g c =
    let names = c.args.cast.now.names.now in
    let read = c.in-Ok-good_front.ensures.good in
    let steps : List Step = steps_in names c.args.cast.now.workers (lines_of read.script) in
    let so_far = from_start g.K.PeriodKeeper.takes names c.args.cast.now.workers read.script _ _ _ _ c.args.setup.now _ _ _ read.run (rw c.as_slice-tenants.ensures.value at c.in-Ok.ensures.world) c.as_slice.ensures.value in
    of_known (λ script. (text : List ℕ) × IsReplayedFor c.args.setup.now c.args.cast.now.workers script text × Appends (g.W.Write.contents c.args.writer.now) (g.W.Write.contents c.run_lines.new.writer) text)
    (g.R.Read.remaining c.args.reader.now) read.script read.is_all
    (written_for names c.args.cast.now.workers c.args.setup.now read.script steps _ _ c.requires.names read.steps
    (c.run_lines.ensures.written (rw c.in-Ok-Whole.field-0-is at c.in-Ok-Whole.is) (world_of_setup c.args.setup.now) steps so_far))

pub returns-in-Ok-Whole-clause-closed : goal.returns-in-Ok-Whole-clause-closed
returns-in-Ok-Whole-clause-closed g c =
    let names = c.args.cast.now.names.now in
    let read = c.in-Ok-good_front.ensures.good in
    of_known (λ script. TakesClosedFor g.K.PeriodKeeper.takes c.args.setup.now c.args.cast.now.workers script c.args.keeper.now c.run_lines.new.keeper)
    (g.R.Read.remaining c.args.reader.now) read.script read.is_all
    (closed_for c.one_after_the_other.ensures.outputs g.K.PeriodKeeper.takes names c.args.cast.now.workers c.args.setup.now read.script _ _ _ _ _ _ _ _
    c.requires.names read.steps (rw c.as_slice-tenants.ensures.value at c.in-Ok.ensures.world) c.as_slice.ensures.value read.run (c.run_lines.ensures.closed (rw c.in-Ok-Whole.field-0-is at c.in-Ok-Whole.is)))

pub returns-in-Err-Device-clause-left : goal.returns-in-Err-Device-clause-left
returns-in-Err-Device-clause-left g c =
    let names = c.args.cast.now.names.now in
    let read = c.in-Ok-good_front.ensures.good in
    let steps : List Step = steps_in names c.args.cast.now.workers (lines_of read.script) in
    let so_far = from_start g.K.PeriodKeeper.takes names c.args.cast.now.workers read.script _ _ _ _ c.args.setup.now _ _ _ read.run (rw c.as_slice-tenants.ensures.value at c.in-Ok.ensures.world) c.as_slice.ensures.value in
    inr (of_known (λ script. (text : List ℕ) × IsReplayedFor c.args.setup.now c.args.cast.now.workers script text × AppendsFront text (g.W.Write.contents c.args.writer.now) (g.W.Write.contents c.run_lines.new.writer))
    (g.R.Read.remaining c.args.reader.now) read.script read.is_all
    (some_for names c.args.cast.now.workers c.args.setup.now read.script steps _ _ c.requires.names read.steps (c.run_lines.ensures.front (world_of_setup c.args.setup.now) steps so_far)))

pub returns-in-Err-Device-clause-script_order : goal.returns-in-Err-Device-clause-script_order
returns-in-Err-Device-clause-script_order g c = λ failed few.
    let read = c.in-Ok-good_front.ensures.good in
    of_known (λ script. refusal_of (Ok c.args.setup.now) c.args.cast.now.workers script ≡ None) (g.R.Read.remaining c.args.reader.now) read.script read.is_all
    (unrefused c.args.cast.now.names.now c.args.cast.now.workers c.args.setup.now read.script _ c.requires.names read.steps)

pub returns-clause-left : goal.returns-clause-left
returns-clause-left g c =
    let names = c.args.cast.now.names.now in
    let read = c.in-Ok-good_front.ensures.good in
    let steps : List Step = steps_in names c.args.cast.now.workers (lines_of read.script) in
    let so_far = from_start g.K.PeriodKeeper.takes names c.args.cast.now.workers read.script _ _ _ _ c.args.setup.now _ _ _ read.run (rw c.as_slice-tenants.ensures.value at c.in-Ok.ensures.world) c.as_slice.ensures.value in
    let some = of_known (λ script. (text : List ℕ) × IsReplayedFor c.args.setup.now c.args.cast.now.workers script text × AppendsFront text (g.W.Write.contents c.args.writer.now) (g.W.Write.contents c.run_lines.new.writer))
    (g.R.Read.remaining c.args.reader.now) read.script read.is_all
    (some_for names c.args.cast.now.workers c.args.setup.now read.script steps _ _ c.requires.names read.steps (c.run_lines.ensures.front (world_of_setup c.args.setup.now) steps so_far)) in
    elim c.match-run_lines.branch [
      | in-Ok-Cut w ↦ rw w.result-is (inr some)
      | in-Ok-Cut-2 w ↦ rw w.result-is (inr some)
    ]
