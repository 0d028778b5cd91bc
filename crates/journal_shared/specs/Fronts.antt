-- The first steps of a tenant's history, and the lines that say them.
use Rattle.std.specs.Prelude.{ℕ, ◌≡◌, ◌⊎◌, List, [], ◌∷◌, ◌++◌, All, Some, false}
use Rattle.std.specs.List.{slice_get}
use Rattle.tenant_core.specs.State.{State, opened}
use Rattle.tenant_core.specs.declared.opening.Opening.{Opening}
use Rattle.book_log.specs.Lines.{log_line, place_of}
use Rattle.book_log.specs.Written.{IsLoggable, IsPlace}
use Rattle.book_log.specs.declared.line.LinePlace.{LinePlace}
use Rattle.one_list.specs.Steps.{GoesOnFrom}
use Rattle.one_list.specs.declared.step.Beginning.{Beginning}
use Rattle.one_list.specs.declared.step.Done.{Done}
use Rattle.book_journal.specs.Noted.{NotesState}
use Rattle.book_journal.specs.Written.{place_in}
use Rattle.books_shared.specs.Kept.{LockedBook}
use Rattle.books_shared.specs.Traced.{IsLedTo}

-- the first steps of a tenant's history, and the state that they led to
pub record Front : Type 0 where
  pub steps : List Done
  pub state : State

-- they did lead to it
abbrev pub IsFront : List Opening → Front → Type 0
IsFront openings f = IsLedTo openings f.state f.steps

-- the front of a tenant to whom nothing has happened since its opening
abbrev pub first_front : Opening → Front
first_front o = record { steps = []; state = opened o }

-- all steps of a book whose lock is held
abbrev pub front_of : LockedBook → Front
front_of b = record { steps = b.steps; state = b.state }

-- the place of the first record after a front
abbrev pub end_of : Front → LinePlace
end_of f = place_of f.state

-- among the steps that were met are those of the front, if it has any
abbrev pub IsMet : List Beginning → Front → Type 0
IsMet met f = (f.steps ≡ []) ⊎ ((i : ℕ) × (slice_get met i ≡ Some (record { tenant = f.state.opening.tenant; steps = f.steps })))

-- ---- lines

-- the place of the record of a tenant's step
abbrev pub line_place : ℕ → Done → LinePlace
line_place tenant e = record { tenant = tenant; period = e.period; number = e.number }

-- a line for each step of a tenant
abbrev pub lines_of : ℕ → List Done → List ℕ
lines_of tenant [] = []
lines_of tenant (e ∷ es) = log_line (line_place tenant e) e.made ++ lines_of tenant es

-- the line of a tenant's step can be read back
pub record IsLined (tenant : ℕ) (e : Done) : Type 0 where
  pub place : IsPlace (line_place tenant e)
  pub loggable : IsLoggable e.made

-- the text has a line for each step from one front of a tenant's history to a later one, and no other
pub record AreLines (openings : List Opening) (before : Front) (text : List ℕ) (after : Front) : Type 0 where
  pub before_is : IsFront openings before
  pub after_is : IsFront openings after
  pub tenant : after.state.opening.tenant ≡ before.state.opening.tenant
  pub more : List Done
  pub goes_on : after.steps ≡ before.steps ++ more
  pub lined : All (IsLined before.state.opening.tenant) more
  pub text_is : text ≡ lines_of before.state.opening.tenant more

-- ---- under a tenant's lock

-- The lines that wait lead from a front whose next record has the first place to one whose next record has the second. The steps of
-- the latter were met.
pub record HasNoted (openings : List Opening) (from : LinePlace) (pending : List ℕ) (to : LinePlace) (met : List Beginning) : Type 0 where
  pub before : Front
  pub after : Front
  pub lines : AreLines openings before pending after
  pub from_is : from ≡ end_of before
  pub to_is : to ≡ end_of after
  pub met_is : IsMet met after

-- what contracts see of notes: they themselves, the steps that were met, and where their lines begin and end
pub record NotedState : Type 0 where
  pub notes : NotesState
  pub met : List Beginning
  pub from : LinePlace
  pub to : LinePlace

-- notes that are not spoilt have the lines that wait, and their next record is the first without one
pub record IsSound (openings : List Opening) (n : NotedState) : Type 0 where
  pub noted : HasNoted openings n.from n.notes.pending n.to n.met
  pub next : place_in n.notes.place n.to.period ≡ n.to

abbrev pub IsNoted : List Opening → NotedState → Type 0
IsNoted openings n = n.notes.spoilt ≡ false → IsSound openings n

-- the notes end where the book ends, to which its steps led, and they go on from all that were met
pub record EndWith (openings : List Opening) (n : NotedState) (book : LockedBook) : Type 0 where
  pub is : IsFront openings (front_of book)
  pub to_is : n.to ≡ place_of book.state
  pub goes_on : All (GoesOnFrom book.state.opening.tenant book.steps) n.met

-- lines of a tenant's steps, from a front whose next record has that place to the steps of its book, come after other lines
pub record AreTaken (openings : List Opening) (from : LinePlace) (book : Front) (before after : List ℕ) (to : LinePlace) : Type 0 where
  pub first : Front
  pub own : List ℕ
  pub from_is : from ≡ end_of first
  pub lines : AreLines openings first own book
  pub to_is : to ≡ end_of book
  pub after_is : after ≡ before ++ own

-- Lines of a tenant's steps come after others. They lead from that front to one that was met, whose next record has that place.
pub record AreAppended (openings : List Opening) (first : Front) (before after : List ℕ) (to : LinePlace) (met : List Beginning) : Type 0 where
  pub last : Front
  pub own : List ℕ
  pub lines : AreLines openings first own last
  pub to_is : to ≡ end_of last
  pub met_is : IsMet met last
  pub after_is : after ≡ before ++ own

-- other steps were met after those that were met before
abbrev pub HasMetMore : (before after : List Beginning) → Type 0
HasMetMore before after = (more : List Beginning) × (after ≡ before ++ more)
