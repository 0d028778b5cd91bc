-- A journal that is kept of the books of tenants, and the lines that are in it.
use Rattle.std.specs.Prelude.{ℕ, ◌≡◌, ◌⊎◌, ◌<◌, true, false, List, [], ◌∷◌, ◌++◌, All, fold, length, map, slice_index_or, slice_set, Some}
use Rattle.std.specs.List.{slice_get}
use Rattle.book_journal.specs.Written.{IsCommitted, Written, closed_state, commit_text, first_place, new_records, noted}
use Rattle.book_log.specs.Base.{states_of}
use Rattle.book_log.specs.Lines.{log_line, place_of}
use Rattle.book_log.specs.Sums.{summed}
use Rattle.book_log.specs.Written.{IsPlace, IsTextWritten}
use Rattle.book_log.specs.declared.base.TenantStart.{TenantStart}
use Rattle.book_recovery.specs.Recovery.{after_record}
use Rattle.floor_core.specs.World.{World, no_book}
use Rattle.line_log.specs.Log.{IsLines, all_of, lines, recovered}
use Rattle.replay_text.specs.Recorded.{Recording}
use Rattle.tenant_core.specs.Closing.{IsPeriod}
use Rattle.tenant_core.specs.Replay.{outcome_of}
use Rattle.tenant_core.specs.Sound.{IsSound}
use Rattle.tenant_core.specs.State.{State, opening_of}
use Rattle.tenant_core.specs.declared.journal.Record.{Record}
use Rattle.tenant_core.specs.declared.period.PeriodParts.{PeriodParts}
use Rattle.tenant_core.specs.declared.terms.TenantTerms.{TenantTerms}

-- ---- what is kept

-- the books of the tenants, by their numbers
abbrev pub AreBooks : World → List State → Type 0
AreBooks world books = (t : ℕ) → t < length books → (world.tenants t).book ≡ slice_index_or books t no_book

-- a closed period was noted, or the journal is spoilt; P holds of each record that had no line
pub record JournalTakes {D : Type 0} (P : Record → Type 0) (before : Written D) (p : PeriodParts) (after : Written D) : Type 0 where
  pub noted : (after ≡ noted before (closed_state p)) ⊎ (after.spoilt ≡ true)
  pub period : IsPeriod p
  pub records : All P (new_records before.places (closed_state p))

-- the books of all tenants were noted, and then committed; what was written is whole lines; P holds of each record that had no line
pub record JournalKeeps {D : Type 0} (P : Record → Type 0) (seen : D → List ℕ) (before : Written D) (world : World) (after : Written D)
    : Type 0 where
  pub books : List State
  pub are : AreBooks world books
  pub all : length books ≡ length before.places
  pub sound : All IsSound books
  pub records : All (λ b. All P (new_records before.places b)) books
  pub committed : IsCommitted seen (fold noted before books) after
  pub whole : IsLines (commit_text (fold noted before books).sum (fold noted before books).pending)

-- the recorder keeps that journal; P holds of each record when it is new
pub record KeepsJournal {D K : Type 0} (P : Record → Type 0) (seen : D → List ℕ) (R : Recording K) (journal : K → Written D) : Type 0 where
  pub takes : (before : K) (p : PeriodParts) (after : K) → R.takes before p after → JournalTakes P (journal before) p (journal after)
  pub keeps : (before : K) (world : World) (after : K) → R.keeps before world after
      → JournalKeeps P seen (journal before) world (journal after)

-- nothing has been written after that sum, and each tenant's first record is the next to be written
pub record IsNewJournal {D : Type 0} (seen : D → List ℕ) (sum : List ℕ) (starts : List TenantStart) (j : Written D) : Type 0 where
  pub log : recovered (seen j.log.file) ≡ []
  pub sum_is : j.sum ≡ sum
  pub pending : j.pending ≡ []
  pub places : j.places ≡ map first_place starts
  pub sound : j.spoilt ≡ false

-- the tenants of a world have just begun: each has its own number
pub record HaveBegun (world : World) (starts : List TenantStart) : Type 0 where
  pub books : AreBooks world (states_of starts)
  pub numbers : (t : ℕ) → t < length starts → (world.tenants t).book.opening.tenant ≡ t

-- each of these tenants begins its first period then, by the terms of that number
abbrev pub AreFirstStarts : List TenantTerms → ℕ → List TenantStart → Type 0
AreFirstStarts setups start starts =
    (t : ℕ) (s : TenantStart) → slice_get starts t ≡ Some s
    → (terms : TenantTerms) × (slice_get setups t ≡ Some terms) × (s.opening ≡ opening_of t terms start)

-- ---- the lines in the log

-- the line is that of one tenant's next record, which is what its entry leads to; it leaves the books so; P holds of the record
pub record IsLed (P : Record → Type 0) (line : List ℕ) (before after : List State) : Type 0 where
  pub tenant : ℕ
  pub state : State
  pub its_own : slice_get before tenant ≡ Some state
  pub number : state.opening.tenant ≡ tenant
  pub place : IsPlace (place_of state)
  pub next : Record
  pub fits : P next
  pub leads : outcome_of state next.entry ≡ Some next.outcome
  pub is_line : line ++ 10 ∷ [] ≡ log_line (place_of state) next
  pub left : after ≡ slice_set before tenant (after_record state next)

-- each line is such a line, one after another
abbrev pub AreLed : (Record → Type 0) → List (List ℕ) → List State → List State → Type 0
AreLed P [] before after = before ≡ after
AreLed P (line ∷ lines) before after = (between : List State) × IsLed P line before between × AreLed P lines between after

-- the text is commits, the lines of each with their sum, which leave the books so
pub record IsTextLed (P : Record → Type 0) (first text : List ℕ) (before after : List State) : Type 0 where
  pub commits : List (List (List ℕ))
  pub is : text ≡ summed first (map lines commits)
  pub led : AreLed P (all_of commits) before after

-- the log has the records that lead the tenants from their openings to their books in a world, and no others; P holds of each
pub record HasAllRecords (P : Record → Type 0) (sum text : List ℕ) (starts : List TenantStart) (world : World) : Type 0 where
  pub books : List State
  pub are : AreBooks world books
  pub all : length books ≡ length starts
  pub led : IsTextLed P sum text (states_of starts) books

-- the log of tenants is written, and leaves the books that they have in a world
pub record HasAllWritten (sum text : List ℕ) (starts : List TenantStart) (world : World) : Type 0 where
  pub books : List State
  pub are : AreBooks world books
  pub all : length books ≡ length starts
  pub written : IsTextWritten sum text (states_of starts) books
