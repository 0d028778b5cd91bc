-- What tests see of a file in memory.
use Rattle.std.specs.Prelude.{ℕ, Bool, List}
use Rattle.line_log.specs.declared.memory.Memory.{Memory}

-- the bytes that are there
abbrev pub memory_bytes : Memory → List ℕ
memory_bytes m = m.bytes.items

-- whether a call has failed
abbrev pub memory_failed : Memory → Bool
memory_failed m = m.failed

-- how many calls are left before one fails
abbrev pub memory_calls : Memory → ℕ
memory_calls m = m.calls
