-- What a function that reads returned, and how that fits the definition of reading.
use Rattle.std.specs.Prelude.{◌≡◌, Result, Ok, Err}
use Rattle.common_types.specs.declared.read_error.ReadError.{ReadError}
use Rattle.common_types.specs.declared.read_error.ReadError.TheVariants.{Memory, Fault}

-- The function returned what reading gives, with its value seen by `view`.
abbrev pub Gives : {X Y E : Type 0} → (X → Y) → Result X E → Result Y E → Type 0
Gives view (Ok x) read = read ≡ Ok (view x)
Gives view (Err e) read = read ≡ Err e

-- The function failed as reading does, or ran out of memory.
abbrev pub Fails : {Y F : Type 0} → ReadError F → Result Y F → Type 0
Fails Memory read = Unit {0}
Fails (Fault fault) read = read ≡ Err fault

-- The function returned what reading gives, with its value seen by `view`, or ran out of memory.
abbrev pub GivesUnlessMemory : {X Y F : Type 0} → (X → Y) → Result X (ReadError F) → Result Y F → Type 0
GivesUnlessMemory view (Ok x) read = read ≡ Ok (view x)
GivesUnlessMemory view (Err error) read = Fails error read

-- The fact holds if the function ran out of memory.
abbrev pub OnMemory : {X F : Type 0} → Result X (ReadError F) → Type 0 → Type 0
OnMemory (Err Memory) fact = fact
OnMemory _ fact = Unit {0}
