-- The lines of the books' records in the journal on disk, as they are written.
use Rattle.std.specs.Prelude.{ℕ, ◌≡◌, ◌≤◌, ◌+◌, ◌==◌, Bool, false, List, [], ◌∷◌, ◌++◌, drop, length, if◌then◌else◌, slice_index_or, slice_set}
use Rattle.book_log.specs.Lines.{log_line, place_of}
use Rattle.book_log.specs.Sums.{sum_line}
use Rattle.book_log.specs.declared.base.TenantStart.{TenantStart}
use Rattle.book_log.specs.declared.line.LinePlace.{LinePlace}
use Rattle.line_log.specs.Log.{IsLines, LogState, recovered}
use Rattle.sha2.specs.Sha256.{sha256}
use Rattle.tenant_core.specs.State.{State, opened}
use Rattle.tenant_core.specs.declared.journal.Record.{Record}
use Rattle.tenant_core.specs.declared.period.PeriodParts.{PeriodParts}

-- the place of the record after that of a place
abbrev pub next_place : LinePlace → LinePlace
next_place p = record p { number = p.number + 1 }

-- the lines of records, the first of which has that place
abbrev pub lines_from : LinePlace → List Record → List ℕ
lines_from p [] = []
lines_from p (r ∷ records) = log_line p r ++ lines_from (next_place p) records

-- the place of the first record of a tenant to whom nothing has happened
abbrev pub first_place : TenantStart → LinePlace
first_place s = place_of (opened s.opening)

-- where a tenant's first record without a line is in a period of that number: from the start on, if the period is a later one
abbrev pub place_in : LinePlace → ℕ → LinePlace
place_in p period = if p.period == period then p else record { tenant = p.tenant; period = period; number = 0 }

-- where the first record of a state without a line is, by the places of all tenants; after the last, if none is kept for the tenant
abbrev pub place_for : List LinePlace → State → LinePlace
place_for places s = place_in (slice_index_or places s.opening.tenant (place_of s)) s.opening.period

-- its records that have no line yet
abbrev pub new_records : List LinePlace → State → List Record
new_records places s = drop (place_for places s).number s.records

-- the lines of its records that have none
abbrev pub lines_of_new : List LinePlace → State → List ℕ
lines_of_new places s = lines_from (place_for places s) (new_records places s)

-- A journal: its log, the sum of the last commit, the lines that are not on the disk, where each tenant's first record without a
-- line is, and whether a call has failed after which nothing can be written.
pub record Written (D : Type 0) : Type 0 where
  pub log : LogState D
  pub sum : List ℕ
  pub pending : List ℕ
  pub places : List LinePlace
  pub spoilt : Bool

-- the journal once a state was noted: its lines wait, and its next record is the first without one
abbrev pub noted : {D : Type 0} → Written D → State → Written D
noted j s =
    record j {
      pending = j.pending ++ lines_of_new j.places s;
      places = slice_set j.places s.opening.tenant (place_of s);
    }

-- what a commit writes after that sum: the lines and their sum; nothing if there are none
abbrev pub commit_text : List ℕ → List ℕ → List ℕ
commit_text sum [] = []
commit_text sum (byte ∷ bytes) = (byte ∷ bytes) ++ sum_line (sha256 (sum ++ (byte ∷ bytes)))

-- the log of a journal is not broken, and has no room for what a commit writes, and a zero
abbrev pub HasNoRoom : {D : Type 0} → Written D → Type 0
HasNoRoom j = (j.log.broken ≡ false) × (j.log.size ≤ j.log.end + length (commit_text j.sum j.pending))

-- the sum after it
abbrev pub sum_after_commit : List ℕ → List ℕ → List ℕ
sum_after_commit sum [] = sum
sum_after_commit sum (byte ∷ bytes) = sha256 (sum ++ (byte ∷ bytes))

-- a commit was acknowledged: its lines and their sum come after those that were there; they are whole lines
pub record IsCommitted {D : Type 0} (seen : D → List ℕ) (before after : Written D) : Type 0 where
  pub acknowledged : recovered (seen after.log.file) ≡ recovered (seen before.log.file) ++ recovered (commit_text before.sum before.pending)
  pub whole : IsLines (commit_text before.sum before.pending)
  pub sum : after.sum ≡ sum_after_commit before.sum before.pending
  pub pending : after.pending ≡ []
  pub places : after.places ≡ before.places
  pub was_sound : before.spoilt ≡ false
  pub is_sound : after.spoilt ≡ false

-- the state that a period was closed in, the roll too
abbrev pub closed_state : PeriodParts → State
closed_state p = record { opening = p.opening; records = p.records }
