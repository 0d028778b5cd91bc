-- What counts as a failure of a reader or a writer.
use Rattle.std.specs.Prelude.{ℕ, ◌+◌, ◌-◌, ◌^◌, min, List, length, Result, Ok, Err, Bool, true, not, ◌==◌, ◌&&◌}
use Rattle.std.specs.Prelude.{if◌then◌else◌}

-- the count after a read or a write that failed, or that went well; it stops at the greatest number of 64 bits
abbrev pub count_after : Bool → ℕ → ℕ
count_after failed count = if failed then min (count + 1) (2 ^ 64 - 1) else count

-- a write failed, or took none of some bytes
abbrev pub takes_nothing : {E : Type 0} → Result ℕ E → List ℕ → Bool
takes_nothing (Ok n) bytes = (n == 0) && not (length bytes == 0)
takes_nothing (Err e) bytes = true
