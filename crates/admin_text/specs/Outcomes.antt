-- What readers returned whose faults say more than the definitions.
use Rattle.std.specs.Prelude.{Option, Some, None, Result, Ok, Err}
use Rattle.common_types.specs.declared.read_error.ReadError.{ReadError}
use Rattle.common_types.specs.declared.read_error.ReadError.TheVariants.{Memory, Fault}

-- the value that was read, or `None` in it if something is wrong; nothing is known if it is out of
-- memory
abbrev pub known_value : {X F : Type 0} → Result X (ReadError F) → Option (Option X)
known_value (Ok x) = Some (Some x)
known_value (Err Memory) = None
known_value (Err (Fault fault)) = Some None
