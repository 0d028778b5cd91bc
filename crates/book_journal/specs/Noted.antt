-- The lines of one tenant's records, as they are noted and taken.
use Rattle.std.specs.Prelude.{ℕ, Bool, false, List, [], ◌++◌, drop}
use Rattle.book_log.specs.Lines.{place_of}
use Rattle.book_log.specs.declared.line.LinePlace.{LinePlace}
use Rattle.tenant_core.specs.State.{State, opened}
use Rattle.tenant_core.specs.declared.journal.Record.{Record}
use Rattle.tenant_core.specs.declared.opening.Opening.{Opening}
use Rattle.book_journal.specs.Written.{lines_from, place_in}

-- Notes: the lines that nobody has taken yet, where the first record without a line is, and whether lines are missing, since an
-- allocation failed.
pub record NotesState : Type 0 where
  pub pending : List ℕ
  pub place : LinePlace
  pub spoilt : Bool

-- the notes of a tenant to whom nothing has happened since its opening
abbrev pub no_notes : Opening → NotesState
no_notes o = record { pending = []; place = place_of (opened o); spoilt = false }

-- the records of a state that have no line yet, by the place of the first one
abbrev pub unnoted : LinePlace → State → List Record
unnoted p s = drop (place_in p s.opening.period).number s.records

-- the notes once a state was noted: the lines of its records that have none wait, and its next record is the first without one
abbrev pub noted_by : NotesState → State → NotesState
noted_by n s =
    record n {
      pending = n.pending ++ lines_from (place_in n.place s.opening.period) (unnoted n.place s);
      place = place_of s;
    }

-- the notes once their lines were taken
abbrev pub taken : NotesState → NotesState
taken n = record n { pending = [] }
