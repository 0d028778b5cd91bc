-- What a service keeps of its books on disk.
use Rattle.std.specs.Prelude.{ℕ, ◌≡◌, true, List, Option, is_some}
use Rattle.tenant_core.specs.State.{State}
use Rattle.tenant_core.specs.declared.opening.Opening.{Opening}
use Rattle.log_folder.specs.Disk.{disk_may_leave, disk_seen}
use Rattle.one_list.specs.declared.run.Run.{Ghosts}
use Rattle.workers.specs.Carrying.{Circumstances, circumstances}
use Rattle.workers.specs.Keeping.{place_after}
use Rattle.journal_shared.specs.Kept.{IsKeptIn}
use Rattle.service.specs.declared.office.Office.{Office}

-- keeping what is done may fail only with a journal on disk
abbrev pub may_fail : {K : Type 0} → Option K → Type 0
may_fail journal = is_some journal ≡ true

-- Under what books are found that began so, with a clock that gives such moments, and with such a journal. What is kept has its
-- lines in a log on disk that each crash leaves.
abbrev pub with_journal : {K : Type 0} → List Opening → (ℕ → Type 0) → Option K → Circumstances
with_journal openings Gives journal =
    circumstances openings Gives (λ place. IsKeptIn disk_seen disk_may_leave openings journal place) (may_fail journal)

-- under what the books of an office are found, with a clock that gives such moments
abbrev pub in_office : {J : Type 0} {r : Ghosts J} → (ℕ → Type 0) → Office J r → Circumstances
in_office {J} {r} Gives office = with_journal r.openings Gives office.journal

-- all records of a book are kept, if the office keeps a journal on disk
abbrev pub IsKeptOf : {J : Type 0} {r : Ghosts J} → List Opening → Office J r → State → Type 0
IsKeptOf openings office book = IsKeptIn disk_seen disk_may_leave openings office.journal (place_after book)
