-- What lies under the lock of a journal that threads share.
use Rattle.std.specs.Prelude.{ℕ, ◌≡◌, Bool, false, List, [], All, IfSome, Option, None, Some}
use Rattle.std.specs.List.{slice_get}
use Rattle.tenant_core.specs.declared.opening.Opening.{Opening}
use Rattle.book_log.specs.declared.line.LinePlace.{LinePlace}
use Rattle.workers.specs.declared.keeping.JournalPlace.{JournalPlace}
use Rattle.journal_shared.specs.Fronts.{Front, IsFront, IsMet}
use Rattle.journal_shared.specs.Kept.{AreLinesOfAll, AreOnDisk, IsWritten, covers, ends_of}
use Rattle.journal_shared.specs.declared.pen.Pen.{Pen}

-- for each tenant the place before which all its records are kept, and whether nothing more is kept
pub record ProgressState : Type 0 where
  pub kept : List LinePlace
  pub has_failed : Bool

-- The log of a pen is written up to fronts whose next records have its places. The pen's watcher has met them, and no line waits.
pub record IsReady {D J : Type 0} (seen : D → List ℕ) (may_leave : D → List ℕ → Type 0) (openings : List Opening) (pen : Pen D J) : Type 0 where
  pub fronts : List Front
  pub are : All (IsFront openings) fronts
  pub written : IsWritten seen may_leave openings pen.writer fronts
  pub places : pen.places.items ≡ ends_of fronts
  pub met : All (IsMet pen.watcher) fronts
  pub none : pen.lines.items ≡ []

-- The same, but lines wait which lead from these fronts to others. The places of the next records after those are known.
pub record HasNext {D J : Type 0} (seen : D → List ℕ) (may_leave : D → List ℕ → Type 0) (openings : List Opening) (pen : Pen D J) : Type 0 where
  pub before : List Front
  pub written : IsWritten seen may_leave openings pen.writer before
  pub after : List Front
  pub are : All (IsFront openings) after
  pub lines : AreLinesOfAll openings before pen.lines.items after
  pub places : pen.next.items ≡ ends_of after
  pub met : All (IsMet pen.watcher) after

-- what is said to be kept is on the disk
abbrev pub IsSaid : {D : Type 0} → (D → List ℕ) → (D → List ℕ → Type 0) → List Opening → List LinePlace → Type 0
IsSaid seen may_leave openings kept = (fronts : List Front) × AreOnDisk seen may_leave openings fronts × (kept ≡ ends_of fronts)

-- nobody writes, and the pen is ready, or somebody does
pub record IsProgress {D J : Type 0} (seen : D → List ℕ) (may_leave : D → List ℕ → Type 0) (openings : List Opening) (pen : Option (Pen D J))
    (kept : List LinePlace) (has_failed : Bool) : Type 0 where
  pub ready : IfSome pen (λ p. IsReady seen may_leave openings p)
  pub on_disk : has_failed ≡ false → IsSaid seen may_leave openings kept

-- whether the place that a tenant has covers another one
abbrev pub covers_in : Option LinePlace → JournalPlace → Bool
covers_in None place = false
covers_in (Some kept) place = covers kept place

-- whether all records of the tenant before that place are kept
abbrev pub has_kept : ProgressState → JournalPlace → Bool
has_kept p place = covers_in (slice_get p.kept place.tenant) place
