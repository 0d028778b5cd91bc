use Rattle.replay_text.proofs.Fits.{too_long}
use Rattle.replay_text.proofs.Fronts.{nothing_read}
use Rattle.replay_text.proofs.Recordings.{script_fails}
use Rattle.replay_text.proofs.Scripts.{rest_is_good, steps_of_whole}
use Rattle.replay_text.proofs.recording.good_script.Goals as goal

pub returns-in-Err-Size-clause-refused : goal.returns-in-Err-Size-clause-refused
returns-in-Err-Size-clause-refused g c =
    too_long c.args.cast.now.names.now c.args.cast.now.workers (g.R.Read.remaining c.args.reader.now) (c.read_script.ensures.size (rw c.in-Err-Size.field-0-is at c.in-Err-Size.is))

pub returns-in-Ok-lines_checked-clause-good : goal.returns-in-Ok-lines_checked-clause-good
returns-in-Ok-lines_checked-clause-good g c =
    rest_is_good c.args.cast.now.names.now c.args.cast.now.workers 1 c.in-Ok.script.items (rw c.as_slice.ensures.value at c.in-Ok-lines_checked.ensures)

pub returns-in-Ok-lines_checked-clause-steps : goal.returns-in-Ok-lines_checked-clause-steps
returns-in-Ok-lines_checked-clause-steps g c =
    steps_of_whole c.args.cast.now.names.now c.args.cast.now.workers 1 c.in-Ok.script.items c.in-Ok.script.items c.in-Ok.ensures.short
    (nothing_read c.args.cast.now.names.now c.args.cast.now.workers c.in-Ok.script.items)
    (rw c.as_slice.ensures.value at c.in-Ok-lines_checked.ensures)

pub returns-clause-refused : goal.returns-clause-refused
returns-clause-refused g c =
    script_fails c.args.cast.now.names.now c.args.cast.now.workers (g.R.Read.remaining c.args.reader.now) _ _ c.in-Ok.ensures.whole c.in-Ok.ensures.short
    (rw (c.as_slice.ensures.value, c.in-Err-Fault.field-0-is) at c.in-Err-Fault.ensures)
