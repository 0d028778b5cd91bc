-- The fault of what is wrong with a script.
use Rattle.std.specs.Prelude.{Result, Ok, Err}
use Rattle.common_types.specs.declared.read_error.ReadError.{ReadError}
use Rattle.common_types.specs.declared.read_error.ReadError.TheVariants.{Memory, Fault}
use Rattle.replay_text.specs.declared.script.ScriptFault.{ScriptFault}
use Rattle.replay_text.specs.declared.script.ScriptFault.TheVariants as fault
use Rattle.replay_text.specs.declared.script.ScriptWrong.{ScriptWrong}
use Rattle.replay_text.specs.declared.script.ScriptWrong.TheVariants.{Size, Line}

-- its fault
abbrev pub script_fault_of : ScriptWrong → ScriptFault
script_fault_of Size = fault.Size
script_fault_of (Line number cause) = fault.Line number

-- what was checked, or the fault
abbrev pub script_fault_alone : {X : Type 0} → Result X (ReadError ScriptWrong) → Result X (ReadError ScriptFault)
script_fault_alone (Ok x) = Ok x
script_fault_alone (Err Memory) = Err Memory
script_fault_alone (Err (Fault wrong)) = Err (Fault (script_fault_of wrong))
