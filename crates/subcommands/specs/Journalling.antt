-- What a replay keeps in a journal on disk.
use Rattle.std.specs.Prelude.{ℕ, ◌≡◌, ◌⊎◌, List, length, Ok}
use Rattle.admin_text.specs.declared.setup.Setup.{Setup}
use Rattle.book_journal.specs.Written.{Written}
use Rattle.book_log.specs.Base.{IsBase}
use Rattle.book_log.specs.Written.{IsLoggable}
use Rattle.book_log.specs.declared.base.TenantStart.{TenantStart}
use Rattle.floor_core.specs.World.{World}
use Rattle.floor_core.specs.declared.step.Step.{Step}
use Rattle.journal_law.specs.Crashes.{HasAdded}
use Rattle.journal_law.specs.Kept.{AreFirstStarts, HasAllWritten, IsNewJournal, JournalKeeps, JournalTakes}
use Rattle.line_log.specs.File.{Only}
use Rattle.line_log.specs.Log.{lines, recovered}
use Rattle.replay_text.specs.Closed.{Taking}
use Rattle.replay_text.specs.Recorded.{HasRecorded, Recording, by_recorder}
use Rattle.replay_text.specs.Replay.{names_in, world_of_setup}
use Rattle.replay_text.specs.Script.{steps_of_script}
use Rattle.tenant_core.specs.declared.period.PeriodParts.{PeriodParts}
use Rattle.subcommands.specs.declared.journalling.Journalist.{Journalist}

-- the closed period was noted, or the journal is spoilt; and it was handed on; the log is as it was
pub record TakesPeriod {D K : Type 0} (Takes : Taking K) (before : Journalist D K) (p : PeriodParts) (after : Journalist D K) : Type 0 where
  pub noted : JournalTakes IsLoggable before.journal p after.journal
  pub log : after.journal.log ≡ before.journal.log
  pub handed_on : Takes before.periods p after.periods

-- The books of all tenants were noted, and then committed. Nothing was written, or a crash at any moment of it leaves the records
-- from before and the first of those that were written.
pub record KeepsBooks {D K : Type 0} (seen : D → List ℕ) (moment : D → ℕ) (left_since : D → ℕ → List ℕ → Type 0)
    (before : Journalist D K) (world : World) (after : Journalist D K) : Type 0 where
  pub kept : JournalKeeps IsLoggable seen before.journal world after.journal
  pub added : (after.journal.log.file ≡ before.journal.log.file)
      ⊎ HasAdded seen moment left_since before.journal.log.file after.journal.log.file
  pub same : after.periods ≡ before.periods

-- what such a recorder does
abbrev pub journalling : {D K : Type 0} → (D → List ℕ) → (D → ℕ) → (D → ℕ → List ℕ → Type 0) → Taking K → Recording (Journalist D K)
journalling seen moment left_since Takes = by_recorder (TakesPeriod Takes) (KeepsBooks seen moment left_since)

-- the tenants of a setup begin so, each at its number
pub record AreStartsOf (setup : Setup) (starts : List TenantStart) : Type 0 where
  pub first : AreFirstStarts setup.tenants setup.start starts
  pub all : length starts ≡ length setup.tenants

-- a journal of the tenants of a setup, in which nothing comes after their base; its log is on the disk
pub record IsJournalOf {D : Type 0} (seen : D → List ℕ) (may_leave : D → List ℕ → Type 0) (setup : Setup) (journal : Written D) : Type 0 where
  pub starts : List TenantStart
  pub are : AreStartsOf setup starts
  pub base : List ℕ
  pub sum : List ℕ
  pub based : IsBase base starts sum
  pub new : IsNewJournal seen sum starts journal
  pub durable : Only (seen journal.log.file) (may_leave journal.log.file)

-- The steps of a script were done for the tenants of a setup, who began so. The log is written: it has the records that these steps
-- made, a line each, with the sum of each commit; they lead from the openings to the books that the steps left; there are no others.
pub record HasKept {D K : Type 0} (R : Recording (Journalist D K)) (seen : D → List ℕ) (starts : List TenantStart) (setup : Setup) (workers : ℕ)
    (script : List ℕ) (first last : Journalist D K) : Type 0 where
  pub steps : List Step
  pub steps_are : steps_of_script (names_in setup) workers script ≡ Ok steps
  pub left : World
  pub recorded : HasRecorded R (world_of_setup setup) steps left first last
  pub all : HasAllWritten first.journal.sum (lines (recovered (seen last.journal.log.file))) starts left
