use Rattle.std.proofs.Common.{rules, ◌≡◌, ◌++◌, ◌∷◌, [], ap, sym, subst, ◌∙◌}
use Rattle.book_log.specs.Lines.{place_of}
use Rattle.book_journal.specs.Noted.{NotesState, noted_by}
use Rattle.book_journal.specs.Written.{closed_state}
use Rattle.books_shared.specs.Kept.{LockedBook}
use Rattle.books_shared.specs.Traced.{IsLedTo}
use Rattle.journal_shared.specs.Fronts.{NotedState}
use Rattle.journal_shared.proofs.Noting.{noted_closed, sound_as}
use Rattle.journal_shared.proofs.noted.Noted.note_closed.Goals as goal

pub invariant_of-self-2 : goal.invariant_of-self-2
invariant_of-self-2 g c = λ sound.
    let b : LockedBook = c.args.guard.now in
    let before : NotedState = record { notes = c.self.inside.notes; met = c.self.inside.watcher; from = c.self.inside.from; to = c.self.inside.to } in
    let notes : c.note_closed.new.self ≡ noted_by c.self.inside.notes (closed_state c.args.period.now) = c.in_ok-note_closed.ensures.noted in
    let to : c.place_of-self-inside.result ≡ place_of b.state
    = c.place_of-self-inside.ensures ∙ ap place_of (c.book.ensures.book ∙ ap (λ (k : LockedBook). k.state) c.watch.ensures.book) in
    let own : c.args.period.now.opening.tenant ≡ c.self.inside.to.tenant = search rules in
    let running : c.args.period.now.opening.period ≡ c.self.inside.to.period = search rules in
    sound_as g.J.Run.openings (noted_by c.self.inside.notes (closed_state c.args.period.now)) c.note_closed.new.self
    (c.self.inside.watcher ++ record { tenant = b.state.opening.tenant; steps = b.steps } ∷ []) c.watch.new.watcher c.self.inside.from
    (place_of b.state) c.place_of-self-inside.result notes c.watch.ensures.watcher to
    (noted_closed g.J.Run.openings before b c.args.period.now (c.self.invariant (ap (λ (n : NotesState). n.spoilt) (sym notes) ∙ sound))
    (subst (λ (k : LockedBook). IsLedTo g.J.Run.openings k.state k.steps) c.watch.ensures.book c.book.ensures.led) c.requires.closed c.period_is_kept.ensures
    own running c.watch.ensures.goes_on c.note_closed.ensures.loggable)
