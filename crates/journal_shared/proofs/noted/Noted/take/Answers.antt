use Rattle.std.proofs.Common.{rules, ◌≡◌, false, ap, sym, subst, ◌∙◌}
use Rattle.book_journal.specs.Noted.{NotesState, taken}
use Rattle.journal_shared.specs.Fronts.{EndWith, IsSound, NotedState}
use Rattle.journal_shared.proofs.Noting.{taken_now, taken_sound}
use Rattle.journal_shared.proofs.noted.Noted.take.Goals as goal

pub invariant_of-self : goal.invariant_of-self
invariant_of-self g c = λ sound.
    let same : c.take.new.self ≡ c.self.inside.notes = c.in_err-take.ensures.untouched.1 in
    subst (λ (n : NotesState). IsSound g.J.Run.openings (record { notes = n; met = c.self.inside.watcher; from = c.self.inside.from; to = c.self.inside.to }))
    (sym same) (c.self.invariant (ap (λ (n : NotesState). n.spoilt) (sym same) ∙ sound))

pub invariant_of-self-2 : goal.invariant_of-self-2
invariant_of-self-2 g c = λ sound.
    let same : c.take.new.self ≡ taken c.self.inside.notes = c.in_ok-take.ensures.taken in
    let before : NotedState = record { notes = c.self.inside.notes; met = c.self.inside.watcher; from = c.self.inside.from; to = c.self.inside.to } in
    subst (λ (n : NotesState). IsSound g.J.Run.openings (record { notes = n; met = c.self.inside.watcher; from = c.self.inside.to; to = c.self.inside.to }))
    (sym same) (taken_sound g.J.Run.openings before (c.self.invariant (ap (λ (n : NotesState). n.spoilt) (sym same) ∙ sound)))

pub returns-clause-taken : goal.returns-clause-taken
returns-clause-taken g c =
    let sound : c.self.inside.notes.spoilt ≡ false = search rules in
    let from : c.self.inside.from ≡ c.args.from = search rules in
    let before : NotedState = record { notes = c.self.inside.notes; met = c.self.inside.watcher; from = c.self.inside.from; to = c.self.inside.to } in
    taken_now g.J.Run.openings before c.args.guard.now c.args.from c.args.lines.now.items c.take.new.lines.items (c.self.invariant sound)
    (subst (λ (n : NotedState). EndWith g.J.Run.openings n c.args.guard.now) (sym c.self.view_is) c.in_ok-note.ensures.noted) from c.in_ok-take.ensures.lines
