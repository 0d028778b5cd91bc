use Rattle.std.proofs.Common.{rules, ◌≡◌, ap, sym, subst, ◌∙◌}
use Rattle.tenant_core.specs.State.{opened}
use Rattle.book_journal.specs.Noted.{NotesState, no_notes}
use Rattle.book_log.specs.Lines.{place_of}
use Rattle.journal_shared.specs.Fronts.{IsSound}
use Rattle.journal_shared.proofs.Noting.{noted_first}
use Rattle.journal_shared.proofs.noted.Noted.new.Goals as goal

pub invariant_of-result : goal.invariant_of-result
invariant_of-result g c = λ sound.
    let notes : c.new-notes.result ≡ no_notes c.args.opening.now = search rules in
    let place : c.place-from.result ≡ place_of (opened c.args.opening.now) = search rules ∙ ap (λ (n : NotesState). n.place) notes in
    let same : record { notes = no_notes c.args.opening.now; met = c.args.watcher; from = place_of (opened c.args.opening.now); to = place_of (opened c.args.opening.now) }
    ≡ record { notes = c.new-notes.result; met = c.args.watcher; from = c.place-from.result; to = c.place-from.result }
    = λ i. record { notes = sym notes i; met = c.args.watcher; from = sym place i; to = sym place i } in
    subst (IsSound g.J.Run.openings) same (noted_first g.J.Run.openings c.args.opening.now c.args.watcher c.requires)
