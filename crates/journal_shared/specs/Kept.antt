-- What is kept on disk of what was done to books under locks.
use Rattle.std.specs.Prelude.{ℕ, ◌≡◌, ◌⊎◌, ◌==◌, ◌||◌, ◌&&◌, Bool, true, false, List, [], ◌∷◌, ◌++◌, All, map, Option, None, Some, nat_le, nat_lt}
use Rattle.std.specs.List.{slice_get}
use Rattle.tenant_core.specs.declared.opening.Opening.{Opening}
use Rattle.line_log.specs.File.{Only}
use Rattle.line_log.specs.Log.{IsLines, IsSettled, recovered}
use Rattle.book_log.specs.Base.{IsBase}
use Rattle.book_log.specs.declared.base.TenantStart.{TenantStart}
use Rattle.book_log.specs.declared.line.LinePlace.{LinePlace}
use Rattle.book_journal.specs.Writer.{WriterState}
use Rattle.book_journal.specs.Written.{commit_text, sum_after_commit}
use Rattle.workers.specs.declared.keeping.JournalPlace.{JournalPlace}
use Rattle.journal_shared.specs.Fronts.{AreLines, Front, first_front, end_of}

-- ---- lines of all tenants

-- the text has the lines of one tenant after those of another, in the order of the tenants' fronts
abbrev pub AreLinesOfAll : List Opening → (before : List Front) → (text : List ℕ) → (after : List Front) → Type 0
AreLinesOfAll openings [] text after = (text ≡ []) × (after ≡ [])
AreLinesOfAll openings (f ∷ before) text after =
    (own : List ℕ) × (g : Front) × (others : List ℕ) × (later : List Front)
    × AreLines openings f own g × AreLinesOfAll openings before others later × (text ≡ own ++ others) × (after ≡ g ∷ later)

-- nothing has happened to the tenants
abbrev pub first_fronts : List Opening → List Front
first_fronts openings = map first_front openings

-- the places of the first records after them
abbrev pub ends_of : List Front → List LinePlace
ends_of fronts = map end_of fronts

-- such texts, the last of them first, lead from fronts to fronts
abbrev pub AreCommits : List Opening → (before : List Front) → (texts : List (List ℕ)) → (after : List Front) → Type 0
AreCommits openings before [] after = before ≡ after
AreCommits openings before (text ∷ earlier) after =
    (between : List Front) × AreCommits openings before earlier between × AreLinesOfAll openings between text after

-- ---- the log

-- the sum of a writer after commits of these texts, the last of them first
abbrev pub sum_after : {D : Type 0} → WriterState D → List (List ℕ) → List ℕ
sum_after w [] = w.sum
sum_after w (text ∷ earlier) = sum_after_commit (sum_after w earlier) text

-- the records of its log after them
abbrev pub records_after : {D : Type 0} → (D → List ℕ) → WriterState D → List (List ℕ) → List (List ℕ)
records_after seen w [] = recovered (seen w.log.file)
records_after seen w (text ∷ earlier) = records_after seen w earlier ++ recovered (commit_text (sum_after w earlier) text)

-- what each of these commits writes is whole lines
abbrev pub AreWhole : {D : Type 0} → WriterState D → List (List ℕ) → Type 0
AreWhole w [] = Unit {0}
AreWhole w (text ∷ earlier) = IsLines (commit_text (sum_after w earlier) text) × AreWhole w earlier

-- a writer whose log is on the disk, and has no record after the base of these tenants
pub record IsNewLog {D : Type 0} (seen : D → List ℕ) (may_leave : D → List ℕ → Type 0) (starts : List TenantStart) (writer : WriterState D)
    : Type 0 where
  pub base : List ℕ
  pub based : IsBase base starts writer.sum
  pub none : recovered (seen writer.log.file) ≡ []
  pub durable : Only (seen writer.log.file) (may_leave writer.log.file)
  pub sound : writer.spoilt ≡ false

-- the same, of tenants with these openings
pub record BeginsLog {D : Type 0} (seen : D → List ℕ) (may_leave : D → List ℕ → Type 0) (openings : List Opening) (writer : WriterState D)
    : Type 0 where
  pub starts : List TenantStart
  pub openings_are : map (λ s. s.opening) starts ≡ openings
  pub new : IsNewLog seen may_leave starts writer

-- A log has a line for each step of these fronts of the tenants' histories, each commit with its sum, after the base of the tenants,
-- and no others. It is settled, so each crash leaves all of it, unless no text was committed yet.
pub record IsWritten {D : Type 0} (seen : D → List ℕ) (may_leave : D → List ℕ → Type 0) (openings : List Opening) (w : WriterState D)
    (fronts : List Front) : Type 0 where
  pub first : WriterState D
  pub begins : BeginsLog seen may_leave openings first
  pub texts : List (List ℕ)
  pub records : recovered (seen w.log.file) ≡ records_after seen first texts
  pub sum : w.sum ≡ sum_after first texts
  pub whole : AreWhole first texts
  pub lines : AreCommits openings (first_fronts openings) texts fronts
  pub settled : All (λ text. text ≡ []) texts ⊎ IsSettled seen may_leave w.log

-- there is such a log
abbrev pub AreOnDisk : {D : Type 0} → (D → List ℕ) → (D → List ℕ → Type 0) → List Opening → List Front → Type 0
AreOnDisk {D} seen may_leave openings fronts = (w : WriterState D) × IsWritten seen may_leave openings w fronts

-- all records of the tenant before a place are among those before another one
abbrev pub covers : (kept : LinePlace) → (place : JournalPlace) → Bool
covers kept place = (kept.tenant == place.tenant)
    && (nat_lt place.period kept.period || ((place.period == kept.period) && nat_le place.number kept.number))

-- there is such a log, and the tenant's front in it has all records before that place
pub record IsKept {D : Type 0} (seen : D → List ℕ) (may_leave : D → List ℕ → Type 0) (openings : List Opening) (place : JournalPlace) : Type 0 where
  pub fronts : List Front
  pub on_disk : AreOnDisk seen may_leave openings fronts
  pub own : Front
  pub at : slice_get fronts place.tenant ≡ Some own
  pub covered : covers (end_of own) place ≡ true

-- the same, if a journal is kept
abbrev pub IsKeptIn : {D J : Type 0} → (D → List ℕ) → (D → List ℕ → Type 0) → List Opening → Option J → JournalPlace → Type 0
IsKeptIn seen may_leave openings None place = Unit {0}
IsKeptIn seen may_leave openings (Some journal) place = IsKept seen may_leave openings place
