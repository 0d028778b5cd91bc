-- What became of a file in which a log was to begin.
use Rattle.std.specs.Prelude.{◌≡◌, Result, Ok, Err}
use Rattle.line_log.specs.Log.{LogState}
use Rattle.line_log.specs.declared.log.LogError.{LogError}
use Rattle.line_log.specs.declared.log.NotBegun.{NotBegun}

-- the file as the call leaves it, with a log or without
abbrev pub file_after : {D : Type 0} → Result (LogState D) (NotBegun D) → D
file_after (Ok log) = log.file
file_after (Err not_begun) = not_begun.file

-- no log was begun, for that reason
abbrev pub IsNotBegun : {D : Type 0} → LogError → Result (LogState D) (NotBegun D) → Type 0
IsNotBegun error (Ok log) = ⊥
IsNotBegun error (Err not_begun) = not_begun.error ≡ error

-- a log was begun in this file, as it was
abbrev pub IsBegunIn : {D : Type 0} → D → Result (LogState D) (NotBegun D) → Type 0
IsBegunIn file (Ok log) = log.file ≡ file
IsBegunIn file (Err not_begun) = ⊥
