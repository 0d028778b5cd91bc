-- What contracts see of a log's file on disk.
use Rattle.std.specs.Prelude.{◌≡◌, Bool, false, List, ℕ}
use Rattle.line_log.specs.File.{Only}
use Rattle.log_folder.specs.Calls.{Call, seen_after, may_leave_after, has_failed_after}
use Rattle.log_folder.specs.declared.disk_file.DiskFile.{DiskFile}

-- the calls on it, the newest first
abbrev pub disk_calls : DiskFile → List Call
disk_calls f = f.history.calls

-- what a read returns
abbrev pub disk_seen : DiskFile → List ℕ
disk_seen f = seen_after (disk_calls f)

-- what a crash may leave
abbrev pub disk_may_leave : DiskFile → List ℕ → Type 0
disk_may_leave f = may_leave_after (disk_calls f)

-- whether a call on it has failed
abbrev pub disk_has_failed : DiskFile → Bool
disk_has_failed f = has_failed_after (disk_calls f)

-- it holds these bytes, all of them on the disk, and no call on it has failed
pub record IsOnDisk (bytes : List ℕ) (f : DiskFile) : Type 0 where
  pub seen : disk_seen f ≡ bytes
  pub durable : Only (disk_seen f) (disk_may_leave f)
  pub sound : disk_has_failed f ≡ false
