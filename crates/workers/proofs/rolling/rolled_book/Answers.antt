use Rattle.std.proofs.Common.{◌∙◌, ap, subst, sym}
use Rattle.books_shared.specs.Kept.{LockedBook}
use Rattle.workers.specs.Carrying.{circumstances}
use Rattle.workers.specs.Keeping.{place_after}
use Rattle.workers.specs.Rolling.{is_ripe}
use Rattle.books_shared.specs.Traced.{IsLedTo}
use Rattle.tenant_core.specs.declared.command.Command.TheVariants.{Roll}
use Rattle.workers.proofs.Closing.{closed_by}
use Rattle.workers.proofs.Growing.{was_ripe, was_unripe}
use Rattle.workers.proofs.rolling.rolled_book.Goals as goal

pub returns-then-not-is_ripe-clause-unripe : goal.returns-then-not-is_ripe-clause-unripe
returns-then-not-is_ripe-clause-unripe g c none =
    was_unripe c.args.tenant c.args.percent c.enter-guard.result c.meet.new.self c.now-now.result c.args.share.now c.meet.new.share
    c.meet.ensures.book c.meet.ensures.share c.enter-guard.ensures.kept.sound c.enter-guard.ensures.led c.now-now.ensures c.enter-guard.ensures.own
    c.meet.ensures.shared (ap (is_ripe c.args.percent) (sym c.book.ensures.book) ∙ (sym c.is_ripe.ensures ∙ search))

pub note_roll-requires : goal.note_roll-requires
note_roll-requires g c = record {
  closed = closed_by g.J.Run.openings c.command-answer.result Roll c.meet.new.self.state c.command-answer.new.self c.meet.new.self.steps
      c.meet.new.share.worker c.now-now.result (subst (λ (b : LockedBook). IsLedTo g.J.Run.openings b.state b.steps) (sym c.meet.ensures.book) c.enter-guard.ensures.led)
      c.command-answer.ensures.answer c.command-answer.ensures.steps;
}

pub returns-clause-ripe : goal.returns-clause-ripe
returns-clause-ripe g c =
    was_ripe {under = (circumstances g.J.Run.openings (g.C.Clock.gives c.args.tools.now.clock.now) (g.K.Keeping.keeps c.args.tools.now.keeping.now) (g.K.Keeping.fails c.args.tools.now.keeping.now))}
    c.args.tenant c.args.percent c.enter-guard.result c.meet.new.self c.now-now.result c.command-answer.result c.command-answer.new.self.state c.place_after.result c.args.share.now c.meet.new.share c.command-answer.new.share
    c.meet.ensures.book c.meet.ensures.share c.enter-guard.ensures.kept.sound c.enter-guard.ensures.led c.now-now.ensures c.enter-guard.ensures.own
    c.meet.ensures.shared c.command-answer.ensures.answer c.command-answer.ensures.share (ap (is_ripe c.args.percent) (sym c.book.ensures.book) ∙ (sym c.is_ripe.ensures ∙ search))
    (c.place_after.ensures ∙ ap place_after (c.book-2.ensures.book ∙ ap (λ (b : LockedBook). b.state) c.note_roll.ensures.same))
