use Rattle.std.proofs.Common.{rules, ◌≡◌, List, [], Some, ap, sym, subst, ◌∙◌}
use Rattle.std.specs.List.{slice_get}
use Rattle.std.proofs.lemmas.Option.{slice_get-get_or}
use Rattle.tenant_core.specs.State.{opened}
use Rattle.tenant_core.specs.declared.opening.Opening.{Opening}
use Rattle.books_shared.specs.Begun.{AreNumbered}
use Rattle.books_shared.specs.Traced.{IsLedTo}
use Rattle.book_journal.specs.Writer.{WriterState}
use Rattle.journal_shared.specs.Kept.{BeginsLog, ends_of, first_fronts}
use Rattle.journal_shared.proofs.Commits.{written_first}
use Rattle.journal_shared.proofs.Noting.{first_are, first_led, first_met}
use Rattle.journal_shared.proofs.shared.SharedJournal.new.Goals as goal

pub new-requires : goal.new-requires
new-requires g c =
    let o : Opening = c.opening-item.result in
    let at : slice_get c.args.openings.now c.loop-opening.opening-index ≡ Some o
    = slice_get-get_or c.args.openings.now c.loop-opening.opening-index o c.loop-opening-test.true ∙ ap (λ (x : Opening). Some x) (sym c.opening-item.is) in
    subst (λ (os : List Opening). IsLedTo os (opened o) []) (sym c.requires.openings)
    (first_led c.args.openings.now c.loop-opening.opening-index o c.requires.numbers at)

pub new-progress-requires-clause-ready : goal.new-progress-requires-clause-ready
new-progress-requires-clause-ready g c =
    let openings : g.J.Run.openings ≡ c.args.openings.now = c.requires.openings in
    let numbers : AreNumbered g.J.Run.openings = subst AreNumbered (sym openings) c.requires.numbers in
    let begins : BeginsLog g.D.LogFile.seen g.D.LogFile.may_leave g.J.Run.openings c.new-pen.result.writer
    = subst (λ (os : List Opening). BeginsLog g.D.LogFile.seen g.D.LogFile.may_leave os c.new-pen.result.writer) (sym c.requires.openings)
    (subst (λ (w : WriterState _). BeginsLog g.D.LogFile.seen g.D.LogFile.may_leave c.args.openings.now w) (sym (c.new-pen.ensures.writer ∙ c.writer.view_is)) c.requires.begins) in
    let places : c.new-pen.result.places.items ≡ ends_of (first_fronts g.J.Run.openings) = search rules in
    record {
      fronts = first_fronts g.J.Run.openings;
      are = first_are g.J.Run.openings numbers;
      written = written_first g.D.LogFile.seen g.D.LogFile.may_leave g.J.Run.openings c.new-pen.result.writer begins;
      places = places;
      met = first_met g.J.Run.openings c.new-pen.result.watcher;
      none = c.new-pen.ensures.lines;
    }

pub new-progress-requires-clause-on_disk : goal.new-progress-requires-clause-on_disk
new-progress-requires-clause-on_disk g c =
    let begins : BeginsLog g.D.LogFile.seen g.D.LogFile.may_leave g.J.Run.openings c.new-pen.result.writer
    = subst (λ (os : List Opening). BeginsLog g.D.LogFile.seen g.D.LogFile.may_leave os c.new-pen.result.writer) (sym c.requires.openings)
    (subst (λ (w : WriterState _). BeginsLog g.D.LogFile.seen g.D.LogFile.may_leave c.args.openings.now w) (sym (c.new-pen.ensures.writer ∙ c.writer.view_is)) c.requires.begins) in
    let places : c.in_ok-first_places-2.field-0.items ≡ ends_of (first_fronts g.J.Run.openings) = search rules in (
      first_fronts g.J.Run.openings,
      (c.new-pen.result.writer, written_first g.D.LogFile.seen g.D.LogFile.may_leave g.J.Run.openings c.new-pen.result.writer begins),
      places,
    )
