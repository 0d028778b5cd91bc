-- What the bytes of a log stand for.
use Rattle.std.specs.Prelude.{◌≡◌, ◌≢◌, ℕ, ◌+◌, ◌-◌, ◌<◌, ◌≤◌, Bool, false, List, [], ◌∷◌, ◌++◌, length, take, replicate, if◌then◌else◌, ◌==◌, Some, slice_get}
use Rattle.std.specs.List.{AllByRecursion}
use Rattle.line_log.specs.File.{Only}

-- The records of these bytes: each is ended by a line feed (10), and the first 0 ends them all. Of the first one these
-- bytes came before.
abbrev pub records_from : List ℕ → List ℕ → List (List ℕ)
records_from begun [] = []
records_from begun (b ∷ bytes) =
    if b == 0 then []
    else (if b == 10 then begun ∷ records_from [] bytes else records_from (begun ++ b ∷ []) bytes)

-- the records of a file: its whole lines before its first 0
abbrev pub recovered : List ℕ → List (List ℕ)
recovered file = records_from [] file

-- no byte of a record is 0 or a line feed
abbrev pub IsRecord : List ℕ → Type 0
IsRecord record_bytes = AllByRecursion (λ b. (b ≢ 0) × (b ≢ 10)) record_bytes

-- these records, a line each
abbrev pub lines : List (List ℕ) → List ℕ
lines [] = []
lines (r ∷ rs) = r ++ 10 ∷ lines rs

-- the bytes are whole lines
abbrev pub IsLines : List ℕ → Type 0
IsLines bytes = bytes ≡ lines (recovered bytes)

-- where the last whole line of a file ends
abbrev pub end_of_lines : List ℕ → ℕ
end_of_lines file = length (lines (recovered file))

-- these records, a line each, and zeros after them up to that size
abbrev pub filled : List (List ℕ) → (size end : ℕ) → List ℕ
filled records size end = lines records ++ replicate (size - end) 0

-- the file has nothing but zeros after its last whole line, one or more
pub record IsBlankAfterLines (file : List ℕ) : Type 0 where
  pub zeros : file ≡ filled (recovered file) (length file) (end_of_lines file)
  pub some : end_of_lines file < length file

-- a log: its file, where its records end, the size of the file, and whether a call on the file has failed
pub record LogState (D : Type 0) : Type 0 where
  pub file : D
  pub end : ℕ
  pub size : ℕ
  pub broken : Bool

-- the log in that file, where no call has failed
abbrev pub log_in : {D : Type 0} → D → (end size : ℕ) → LogState D
log_in file end size = record { file = file; end = end; size = size; broken = false }

-- the file is whole lines and zeros after them, one or more, all of it on the disk
pub record IsSettled {D : Type 0} (seen : D → List ℕ) (may_leave : D → List ℕ → Type 0) (log : LogState D)
    : Type 0 where
  pub file : seen log.file ≡ filled (recovered (seen log.file)) log.size log.end
  pub end : log.end ≡ end_of_lines (seen log.file)
  pub room : log.end < log.size
  pub size : log.size ≡ length (seen log.file)
  pub durable : Only (seen log.file) (may_leave log.file)

-- a log knows whether its file has failed; until then it is settled
pub record IsSound {D : Type 0} (seen : D → List ℕ) (may_leave : D → List ℕ → Type 0) (has_failed : D → Bool)
    (log : LogState D) : Type 0 where
  pub broken : log.broken ≡ has_failed log.file
  pub room : log.end < log.size
  pub settled : log.broken ≡ false → IsSettled seen may_leave log

-- the file has the records from before, and after them some of those that were being written: the first ones
pub record IsWithSome (before written : List (List ℕ)) (file : List ℕ) : Type 0 where
  pub count : ℕ
  pub few : count ≤ length written
  pub is : recovered file ≡ before ++ take count written

-- the records of these batches
abbrev pub all_of : List (List (List ℕ)) → List (List ℕ)
all_of [] = []
all_of (b ∷ bs) = b ++ all_of bs

-- one of the batches has no room, and those before it are acknowledged
pub record IsFullAt {D : Type 0} (seen : D → List ℕ) (may_leave : D → List ℕ → Type 0) (old new : LogState D)
    (batches : List (List (List ℕ))) : Type 0 where
  pub place : ℕ
  pub batch : List (List ℕ)
  pub at : slice_get batches place ≡ Some batch
  pub sound : new.broken ≡ false
  pub settled : IsSettled seen may_leave new
  pub acknowledged : recovered (seen new.file) ≡ recovered (seen old.file) ++ all_of (take place batches)
  pub no_room : new.size ≤ new.end + length (lines batch)
