use Rattle.std.proofs.Common.{refl}
use Rattle.std.specs.Prelude.{Ok, Err}
use Rattle.workers.specs.Carrying.{circumstances}
use Rattle.workers.proofs.Growing.{rolled_roomy, rolled_untold, unripe_roomy}
use Rattle.workers.proofs.rolling.roll_if_ripe.Goals as goal

pub returns-in_default-clause-rolled : goal.returns-in_default-clause-rolled
returns-in_default-clause-rolled g c =
    unripe_roomy {under = (circumstances g.J.Run.openings (g.C.Clock.gives c.args.tools.now.clock.now) (g.K.Keeping.keeps c.args.tools.now.keeping.now) (g.K.Keeping.fails c.args.tools.now.keeping.now))}
    c.args.tenant c.args.percent c.args.share.now c.make_room.new.share c.rolled_book.new.share c.in_ok-make_room.ensures.1 (c.in_default.ensures.unripe refl)

pub returns-in_default-wait_for-clause-rolled : goal.returns-in_default-wait_for-clause-rolled
returns-in_default-wait_for-clause-rolled g c =
    rolled_untold {under = (circumstances g.J.Run.openings (g.C.Clock.gives c.args.tools.now.clock.now) (g.K.Keeping.keeps c.args.tools.now.keeping.now) (g.K.Keeping.fails c.args.tools.now.keeping.now))}
    c.args.tenant c.args.percent c.in-Some.answer c.in-Some.place c.args.share.now c.make_room.new.share c.rolled_book.new.share
    c.in_ok-make_room.ensures.1 c.in-Some.ensures.ripe.0 c.in-Some.ensures.ripe.1 c.in_default-wait_for.ensures.failed

pub returns-in-Ok-answer-clause-rolled : goal.returns-in-Ok-answer-clause-rolled
returns-in-Ok-answer-clause-rolled g c =
    rolled_roomy {under = (circumstances g.J.Run.openings (g.C.Clock.gives c.args.tools.now.clock.now) (g.K.Keeping.keeps c.args.tools.now.keeping.now) (g.K.Keeping.fails c.args.tools.now.keeping.now))}
    c.args.tenant c.args.percent c.in-Some.answer (Ok c.in-Ok-answer.answered) c.in-Some.place c.args.share.now c.make_room.new.share c.rolled_book.new.share
    c.in-Ok-answer.is c.in_ok-make_room.ensures.1 c.in-Some.ensures.ripe.0 c.in-Some.ensures.ripe.1 c.in-Ok.ensures.kept

pub returns-in-Err-clause-rolled : goal.returns-in-Err-clause-rolled
returns-in-Err-clause-rolled g c =
    rolled_roomy {under = (circumstances g.J.Run.openings (g.C.Clock.gives c.args.tools.now.clock.now) (g.K.Keeping.keeps c.args.tools.now.keeping.now) (g.K.Keeping.fails c.args.tools.now.keeping.now))}
    c.args.tenant c.args.percent c.in-Some.answer (Err c.in-Err.fault) c.in-Some.place c.args.share.now c.make_room.new.share c.rolled_book.new.share
    c.in-Err.is c.in_ok-make_room.ensures.1 c.in-Some.ensures.ripe.0 c.in-Some.ensures.ripe.1 c.in-Ok.ensures.kept
