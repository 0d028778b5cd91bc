-- How many entries each call of a slot appends to a book, and what rise it brings.
use Rattle.std.proofs.Common.{◌≡◌, ℕ, ◌+◌, ◌-◌, List, [], ◌∷◌, ◌++◌, length, Option, Some, None, refl, length-append, lt-ltb, le-ltb, arith}
use Rattle.std.proofs.lemmas.List.Sums.{fold-append}
use Rattle.tenant_core.specs.Journals.{last_of}
use Rattle.tenant_core.specs.State.{State, recorded}
use Rattle.tenant_core.specs.declared.journal.Record.{Record}
use Rattle.floor_core.specs.Work.{Called}
use Rattle.floor_core.specs.declared.parts.Turn.{Turn}
use Rattle.floor_core.specs.declared.parts.Turn.TheVariants.{Idle, Stray, Stranger, Reply, Send}
use Rattle.std.specs.Prelude.{Result, Ok, Err}
use Rattle.tenant_core.specs.declared.faults.BookFault.{BookFault}
use Rattle.books_shared.specs.Rises.{IsSmall, entries_of, rise_of, rise_of_turn, tick_rise}
use Rattle.books_shared.specs.Tracing.{last_beyond}

-- a book has the entries that were made
pub longer : (s : State) (made : Option Record) → length (recorded s made).records ≡ length s.records + entries_of made
longer s None = omega arith
longer s (Some r) = omega (arith, length-append s.records (r ∷ []))

pub entries_told : (turn : Turn) (n : ℕ) → (rise_of_turn turn n).entries ≡ n
entries_told Idle n = refl
entries_told Stray n = refl
entries_told Stranger n = refl
entries_told Reply n = refl
entries_told (Send peer hold) n = refl

last_pushed : (records : List Record) (r : Record) → last_of (records ++ r ∷ []) ≡ Some r
last_pushed records r = fold-append (λ o x. Some x) None records (r ∷ [])

-- the record that was made is the last beyond those that were there
pub made_beyond : (s : State) (made : Option Record) → last_beyond (length s.records) (recorded s made).records ≡ made
made_beyond s None = rw (le-ltb (length s.records) (length s.records) (omega arith)) refl
made_beyond s (Some r) =
    rw (lt-ltb (length s.records) (length (s.records ++ r ∷ [])) (omega (arith, length-append s.records (r ∷ [])))) (last_pushed s.records r)

-- the turn and the entries that were appended tell the rise
pub told_rise : (c : Called) (s after : State) (turn : Turn) (n : ℕ) → turn ≡ c.turn → after ≡ recorded s c.made
    → n ≡ length after.records - length s.records → rise_of_turn turn n ≡ rise_of c
told_rise c s after turn n turned left e =
    let more : length after.records ≡ length s.records + entries_of c.made = rw left (longer s c.made) in
    let same : n ≡ entries_of c.made = omega arith in
    rw (turned, same) refl

-- and that is how many there are more
pub told_entries : (c : Called) (s after : State) (turn : Turn) (n : ℕ) → turn ≡ c.turn → after ≡ recorded s c.made
    → n ≡ length after.records - length s.records → length after.records ≡ length s.records + (rise_of_turn turn n).entries
told_entries c s after turn n turned left e =
    let more : length after.records ≡ length s.records + entries_of c.made = rw left (longer s c.made) in
    rw (entries_told turn n) (omega arith)

-- no part of a rise is over 1
pub small : (turn : Turn) (made : Option Record) → IsSmall (rise_of_turn turn (entries_of made))
small Idle None = record { entries = omega arith; strangers = omega arith; full = omega arith }
small Idle (Some r) = record { entries = omega arith; strangers = omega arith; full = omega arith }
small Stray None = record { entries = omega arith; strangers = omega arith; full = omega arith }
small Stray (Some r) = record { entries = omega arith; strangers = omega arith; full = omega arith }
small Stranger None = record { entries = omega arith; strangers = omega arith; full = omega arith }
small Stranger (Some r) = record { entries = omega arith; strangers = omega arith; full = omega arith }
small Reply None = record { entries = omega arith; strangers = omega arith; full = omega arith }
small Reply (Some r) = record { entries = omega arith; strangers = omega arith; full = omega arith }
small (Send peer hold) None = record { entries = omega arith; strangers = omega arith; full = omega arith }
small (Send peer hold) (Some r) = record { entries = omega arith; strangers = omega arith; full = omega arith }

pub tick_small : (count : Result ℕ BookFault) → IsSmall (tick_rise count)
tick_small (Ok count) = record { entries = omega arith; strangers = omega arith; full = omega arith }
tick_small (Err fault) = record { entries = omega arith; strangers = omega arith; full = omega arith }
