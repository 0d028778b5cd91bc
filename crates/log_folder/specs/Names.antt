-- The names of a journal's files.
use Rattle.std.specs.Prelude.{ℕ, List, [], ◌∷◌, ◌++◌}
use Rattle.std.specs.Fmt.{decimal}
use Rattle.log_folder.specs.Folder.{base_ending, log_ending, part_ending}
use Rattle.log_folder.specs.declared.fault.JournalFile.{JournalFile}
use Rattle.log_folder.specs.declared.fault.JournalFile.TheVariants.{Folder, Lock, Base, Log, BasePart, LogPart}

-- the name of a file, and in words what is said of the folder
abbrev pub file_name : JournalFile → List ℕ
file_name Folder = 116 ∷ 104 ∷ 101 ∷ 32 ∷ 102 ∷ 111 ∷ 108 ∷ 100 ∷ 101 ∷ 114 ∷ []
file_name Lock = 108 ∷ 111 ∷ 99 ∷ 107 ∷ []
file_name (Base number) = decimal number ++ base_ending
file_name (Log number) = decimal number ++ log_ending
file_name (BasePart number) = decimal number ++ base_ending ++ part_ending
file_name (LogPart number) = decimal number ++ log_ending ++ part_ending
