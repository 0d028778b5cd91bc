use Rattle.std.proofs.Common.{◌≡◌, ◌-◌, ◌∙◌, ap, length, refl}
use Rattle.floor_core.specs.Work.{answer_call}
use Rattle.tenant_core.specs.State.{State}
use Rattle.books_shared.specs.Kept.{bad_answers_in}
use Rattle.books_shared.specs.Tracing.{last_beyond}
use Rattle.books_shared.proofs.Entries.{made_beyond, told_entries, told_rise}
use Rattle.books_shared.proofs.kept.answer_in.Goals as goal

abbrev entries_more : goal.After-rise_of_turn → Type 0
entries_more c = c.entries.result - c.entries-before.result ≡ length c.answer-turn.new.book.records - length c.args.book.now.records

more : (c : goal.After-rise_of_turn) → entries_more c
more c = rw (c.entries.ensures, c.entries-before.ensures) refl

pub returns-clause-rise : goal.returns-clause-rise
returns-clause-rise c =
    rw c.rise_of_turn.ensures
    (told_rise (answer_call c.args.slot.now c.args.book.now c.args.now c.args.got) c.args.book.now c.answer-turn.new.book c.answer-turn.result (c.entries.result - c.entries-before.result)
    c.answer-turn.ensures.turn c.answer-turn.ensures.book (more c))

pub returns-clause-entries : goal.returns-clause-entries
returns-clause-entries c =
    rw c.rise_of_turn.ensures
    (told_entries (answer_call c.args.slot.now c.args.book.now c.args.now c.args.got) c.args.book.now c.answer-turn.new.book c.answer-turn.result (c.entries.result - c.entries-before.result)
    c.answer-turn.ensures.turn c.answer-turn.ensures.book (more c))

pub returns-clause-bad : goal.returns-clause-bad
returns-clause-bad c =
    let call = answer_call c.args.slot.now c.args.book.now c.args.now c.args.got in
    let last : last_beyond (length c.args.book.now.records) c.answer-turn.new.book.records ≡ call.made =
    ap (λ (s : State). last_beyond (length c.args.book.now.records) s.records) c.answer-turn.ensures.book ∙ made_beyond c.args.book.now call.made in
    c.bad_answers_in-bad.ensures ∙ ap (λ o. bad_answers_in c.args.got o) (c.last_beyond.ensures ∙ ap (λ n. last_beyond n c.answer-turn.new.book.records) c.entries-before.ensures ∙ last)
