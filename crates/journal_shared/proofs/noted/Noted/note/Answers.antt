use Rattle.std.proofs.Common.{rules, ◌≡◌, ◌++◌, ◌∷◌, [], List, ap, sym, subst, ◌∙◌}
use Rattle.std.specs.Prelude.{All}
use Rattle.tenant_core.specs.State.{State}
use Rattle.book_log.specs.Lines.{place_of}
use Rattle.book_log.specs.Written.{IsLoggable}
use Rattle.book_log.specs.declared.line.LinePlace.{LinePlace}
use Rattle.book_journal.specs.Noted.{NotesState, noted_by, unnoted}
use Rattle.one_list.specs.Steps.{GoesOnFrom}
use Rattle.one_list.specs.declared.step.Beginning.{Beginning}
use Rattle.books_shared.specs.Kept.{LockedBook}
use Rattle.journal_shared.specs.Fronts.{NotedState}
use Rattle.journal_shared.proofs.Noting.{goes_on_more, noted_more, sound_as}
use Rattle.journal_shared.proofs.noted.Noted.note.Goals as goal

pub invariant_of-self-2 : goal.invariant_of-self-2
invariant_of-self-2 g c = λ sound.
    let b : LockedBook = c.args.guard.now in
    let before : NotedState = record { notes = c.self.inside.notes; met = c.self.inside.watcher; from = c.self.inside.from; to = c.self.inside.to } in
    let noted_state : c.book-2.result.now ≡ b.state = c.book-2.ensures.book ∙ ap (λ (k : LockedBook). k.state) c.watch.ensures.book in
    let notes : c.note.new.self ≡ noted_by c.self.inside.notes b.state = c.in_ok-note.ensures.noted ∙ ap (noted_by c.self.inside.notes) noted_state in
    let to : c.place_of-to.result ≡ place_of b.state = c.place_of-to.ensures ∙ ap place_of c.book.ensures.book in
    let own : c.place_of-to.result.tenant ≡ c.self.inside.to.tenant = search rules in
    let running : c.place_of-to.result.period ≡ c.self.inside.to.period = search rules in
    sound_as g.J.Run.openings (noted_by c.self.inside.notes b.state) c.note.new.self (c.self.inside.watcher ++ record { tenant = b.state.opening.tenant; steps = b.steps } ∷ [])
    c.watch.new.watcher c.self.inside.from (place_of b.state) c.place_of-to.result notes c.watch.ensures.watcher to
    (noted_more g.J.Run.openings before b (c.self.invariant (ap (λ (n : NotesState). n.spoilt) (sym notes) ∙ sound))
    c.book.ensures.led c.book.ensures.sound
    (ap (λ (p : LinePlace). p.tenant) (sym to) ∙ own) (ap (λ (p : LinePlace). p.period) (sym to) ∙ running) c.watch.ensures.goes_on
    (subst (λ (s : State). All IsLoggable (unnoted c.self.inside.notes.place s)) noted_state c.note.ensures.loggable))

pub returns-clause-noted : goal.returns-clause-noted
returns-clause-noted g c =
    let b : LockedBook = c.args.guard.now in
    record {
      is = c.book.ensures.led;
      to_is = c.place_of-to.ensures ∙ ap place_of c.book.ensures.book;
      goes_on = subst (λ (met : List Beginning). All (GoesOnFrom b.state.opening.tenant b.steps) met) (sym c.watch.ensures.watcher)
          (goes_on_more b.state.opening.tenant b.steps c.self.inside.watcher c.watch.ensures.goes_on);
    }
