-- What commits of lines do to a log and the sum of its last lines.
use Rattle.std.specs.Prelude.{ℕ, ◌≡◌, ◌≤◌, ◌+◌, Bool, false, List, ◌++◌, length}
use Rattle.line_log.specs.Log.{IsLines, LogState, recovered}
use Rattle.book_journal.specs.Written.{commit_text, sum_after_commit}

-- a writer: its log, the sum of the last commit, and whether a call has failed after which nothing can be written
pub record WriterState (D : Type 0) : Type 0 where
  pub log : LogState D
  pub sum : List ℕ
  pub spoilt : Bool

-- the log of a writer is not broken, and has no room for what a commit of these lines writes, and a zero
abbrev pub HasNoRoomFor : {D : Type 0} → List ℕ → WriterState D → Type 0
HasNoRoomFor lines w = (w.log.broken ≡ false) × (w.log.size ≤ w.log.end + length (commit_text w.sum lines))

-- a commit of these lines was acknowledged: they and their sum come after those that were there; they are whole lines
pub record AreCommitted {D : Type 0} (seen : D → List ℕ) (lines : List ℕ) (before after : WriterState D) : Type 0 where
  pub acknowledged : recovered (seen after.log.file) ≡ recovered (seen before.log.file) ++ recovered (commit_text before.sum lines)
  pub whole : IsLines (commit_text before.sum lines)
  pub sum : after.sum ≡ sum_after_commit before.sum lines
  pub was_sound : before.spoilt ≡ false
  pub is_sound : after.spoilt ≡ false
