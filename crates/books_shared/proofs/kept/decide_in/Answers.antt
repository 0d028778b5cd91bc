use Rattle.std.proofs.Common.{◌≡◌, ◌-◌, length, refl}
use Rattle.floor_core.specs.Work.{decide_call}
use Rattle.books_shared.proofs.Entries.{told_entries, told_rise}
use Rattle.books_shared.proofs.kept.decide_in.Goals as goal

abbrev entries_more : goal.After-rise_of_turn → Type 0
entries_more c = c.entries.result - c.entries-before.result ≡ length c.decide-turn.new.book.records - length c.args.book.now.records

more : (c : goal.After-rise_of_turn) → entries_more c
more c = rw (c.entries.ensures, c.entries-before.ensures) refl

pub returns-clause-rise : goal.returns-clause-rise
returns-clause-rise c =
    rw c.rise_of_turn.ensures
    (told_rise (decide_call c.args.slot.now c.args.book.now c.args.now) c.args.book.now c.decide-turn.new.book c.decide-turn.result (c.entries.result - c.entries-before.result)
    c.decide-turn.ensures.turn c.decide-turn.ensures.book (more c))

pub returns-clause-entries : goal.returns-clause-entries
returns-clause-entries c =
    rw c.rise_of_turn.ensures
    (told_entries (decide_call c.args.slot.now c.args.book.now c.args.now) c.args.book.now c.decide-turn.new.book c.decide-turn.result (c.entries.result - c.entries-before.result)
    c.decide-turn.ensures.turn c.decide-turn.ensures.book (more c))
