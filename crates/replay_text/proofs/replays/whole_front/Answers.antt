use Rattle.std.proofs.Common.{arith}
use Rattle.replay_text.proofs.Begun.{begun_whole, more_taken}
use Rattle.replay_text.proofs.Known.{takes_none}
use Rattle.replay_text.proofs.replays.whole_front.Goals as goal

pub returns-then-front-clause-whole : goal.returns-then-front-clause-whole
returns-then-front-clause-whole g c =
    begun_whole g.K.PeriodKeeper.takes c.args.cast.now.names.now c.args.cast.now.workers _ _ _ _ _ _ _ _ _ _ _ _ c.in_ok-front.ensures.begun (takes_none _ _) (c.in_ok-front.ensures.end c.if-front.true)
    (omega (arith, c.in_ok-front.ensures.short c.if-front.true))

pub returns-in_err-read_rest-clause-taken : goal.returns-in_err-read_rest-clause-taken
returns-in_err-read_rest-clause-taken g c =
    more_taken g.K.PeriodKeeper.takes c.args.cast.now.names.now c.args.cast.now.workers _ _ _ _ _ _ _ _ _ _ _ _ c.in_ok-front.ensures.begun c.read_rest.ensures.taken
    (omega (arith, c.read_rest.ensures.bound, c.in_ok-front.ensures.bound))

pub returns-clause-whole : goal.returns-clause-whole
returns-clause-whole g c =
    begun_whole g.K.PeriodKeeper.takes c.args.cast.now.names.now c.args.cast.now.workers _ _ _ _ _ _ _ _ _ _ _ _ c.in_ok-front.ensures.begun c.read_rest.ensures.taken c.in_ok-read_rest.ensures.whole
    (omega (arith, c.in_ok-read_rest.ensures.short, c.in_ok-front.ensures.bound))

pub returns-clause-taken : goal.returns-clause-taken
returns-clause-taken g c =
    more_taken g.K.PeriodKeeper.takes c.args.cast.now.names.now c.args.cast.now.workers _ _ _ _ _ _ _ _ _ _ _ _ c.in_ok-front.ensures.begun c.read_rest.ensures.taken
    (omega (arith, c.read_rest.ensures.bound, c.in_ok-front.ensures.bound))
