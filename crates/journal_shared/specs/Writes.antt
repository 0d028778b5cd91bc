-- When a journal is written.
use Rattle.std.specs.Prelude.{ℕ, ◌==◌, ◌-◌, if◌then◌else◌}

-- for how many milliseconds a write is under way that began at that moment, if it is not 0
abbrev pub time_under_way : (begun now : ℕ) → ℕ
time_under_way begun now = if begun == 0 then 0 else (now - begun)
