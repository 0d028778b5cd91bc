use Rattle.std.proofs.Common.{ap, ◌∙◌, subst, sym}
use Rattle.books_shared.specs.Kept.{LockedBook}
use Rattle.workers.specs.Carrying.{circumstances}
use Rattle.workers.specs.Keeping.{place_after}
use Rattle.books_shared.specs.Traced.{IsLedTo}
use Rattle.workers.proofs.Closing.{closed_by}
use Rattle.workers.proofs.Growing.{was_commanded}
use Rattle.workers.proofs.governing.commanded_book.Goals as goal

pub note_roll-requires : goal.note_roll-requires
note_roll-requires g c = record {
  closed = closed_by g.J.Run.openings c.command-answer.result c.args.command.now c.meet.new.self.state c.command-answer.new.self c.meet.new.self.steps
      c.meet.new.share.worker c.now.result (subst (λ (b : LockedBook). IsLedTo g.J.Run.openings b.state b.steps) (sym c.meet.ensures.book) c.enter-guard.ensures.led)
      c.command-answer.ensures.answer c.command-answer.ensures.steps;
}

pub returns : goal.returns
returns g c = record {
  commanded = was_commanded {under = (circumstances g.J.Run.openings (g.C.Clock.gives c.args.tools.now.clock.now) (g.K.Keeping.keeps c.args.tools.now.keeping.now) (g.K.Keeping.fails c.args.tools.now.keeping.now))}
      c.args.tenant c.enter-guard.result c.meet.new.self c.now.result c.args.command.now c.command-answer.result c.command-answer.new.self.state c.place_after.result c.args.share.now c.meet.new.share c.command-answer.new.share
      c.meet.ensures.book c.meet.ensures.share c.enter-guard.ensures.kept.sound c.enter-guard.ensures.led c.now.ensures c.enter-guard.ensures.own
      c.meet.ensures.shared c.command-answer.ensures.answer c.command-answer.ensures.share
      (c.place_after.ensures ∙ ap place_after (c.book.ensures.book ∙ ap (λ (b : LockedBook). b.state) c.note_roll.ensures.same));
}
