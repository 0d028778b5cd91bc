use Rattle.std.specs.Prelude.{Ok, Err}
use Rattle.workers.specs.Carrying.{circumstances}
use Rattle.workers.proofs.Growing.{done_roomy, untold_roomy}
use Rattle.workers.proofs.governing.commanded.Goals as goal

pub returns-in_default-clause-done : goal.returns-in_default-clause-done
returns-in_default-clause-done g c =
    untold_roomy {under = (circumstances g.J.Run.openings (g.C.Clock.gives c.args.tools.now.clock.now) (g.K.Keeping.keeps c.args.tools.now.keeping.now) (g.K.Keeping.fails c.args.tools.now.keeping.now))}
    c.args.tenant c.args.command.now c.commanded_book-answer.result.0 c.commanded_book-answer.result.1 c.args.share.now c.make_room.new.share c.commanded_book-answer.new.share
    c.in_ok-make_room.ensures.1 c.commanded_book-answer.ensures.commanded.0 c.commanded_book-answer.ensures.commanded.1 c.in_default.ensures.failed

pub returns-in-Ok-answer-clause-done : goal.returns-in-Ok-answer-clause-done
returns-in-Ok-answer-clause-done g c =
    done_roomy {under = (circumstances g.J.Run.openings (g.C.Clock.gives c.args.tools.now.clock.now) (g.K.Keeping.keeps c.args.tools.now.keeping.now) (g.K.Keeping.fails c.args.tools.now.keeping.now))}
    c.args.tenant c.args.command.now c.commanded_book-answer.result.0 (Ok c.in-Ok-answer.answered) c.commanded_book-answer.result.1 c.args.share.now c.make_room.new.share c.commanded_book-answer.new.share
    c.in-Ok-answer.is c.in_ok-make_room.ensures.1 c.commanded_book-answer.ensures.commanded.0 c.commanded_book-answer.ensures.commanded.1 c.in-Ok.ensures.kept

pub returns-in-Err-clause-done : goal.returns-in-Err-clause-done
returns-in-Err-clause-done g c =
    done_roomy {under = (circumstances g.J.Run.openings (g.C.Clock.gives c.args.tools.now.clock.now) (g.K.Keeping.keeps c.args.tools.now.keeping.now) (g.K.Keeping.fails c.args.tools.now.keeping.now))}
    c.args.tenant c.args.command.now c.commanded_book-answer.result.0 (Err c.in-Err.fault) c.commanded_book-answer.result.1 c.args.share.now c.make_room.new.share c.commanded_book-answer.new.share
    c.in-Err.is c.in_ok-make_room.ensures.1 c.commanded_book-answer.ensures.commanded.0 c.commanded_book-answer.ensures.commanded.1 c.in-Ok.ensures.kept
