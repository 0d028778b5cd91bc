use Rattle.replay_text.proofs.Begun.{read_bad, read_good}
use Rattle.replay_text.proofs.Fits.{too_long}
use Rattle.replay_text.proofs.replays.good_front.Goals as goal

pub returns-in-Err-Size-clause-refused : goal.returns-in-Err-Size-clause-refused
returns-in-Err-Size-clause-refused g c =
    too_long c.args.cast.now.names.now c.args.cast.now.workers (g.R.Read.remaining c.args.reader.now) (c.whole_front.ensures.size (rw c.in-Err-Size.field-0-is at c.in-Err-Size.is))

pub returns-in-Ok-lines_checked-clause-good : goal.returns-in-Ok-lines_checked-clause-good
returns-in-Ok-lines_checked-clause-good g c =
    read_good g.K.PeriodKeeper.takes c.args.cast.now.names.now c.args.cast.now.workers _ _ _ _ _ _ _ _ c.in-Ok.ensures.whole (rw c.as_slice.ensures.value at c.in-Ok-lines_checked.ensures)

pub returns-clause-refused : goal.returns-clause-refused
returns-clause-refused g c =
    read_bad g.K.PeriodKeeper.takes c.args.cast.now.names.now c.args.cast.now.workers _ _ _ _ _ _ _ _ _ c.in-Ok.ensures.whole (rw (c.as_slice.ensures.value, c.in-Err-Fault.field-0-is) at c.in-Err-Fault.ensures)
