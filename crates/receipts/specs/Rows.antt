-- Periods that were laid out, and the rows of their tenants.
use Rattle.std.specs.Prelude.{ℕ, List, Option, length}
use Rattle.receipts.specs.Layout.{HaveRows, IsIndexUpTo}
use Rattle.receipts.specs.declared.layout.Laid.{Laid}

-- all periods are found by tenant and number, and what is found is one of them
abbrev pub IsPeriodIndex : Laid → Type 0
IsPeriodIndex laid = IsIndexUpTo laid.index.now laid.periods.now (length laid.periods.now)

-- each tenant has a row, with room for the entries of its periods as they were laid out
abbrev pub AreRowsOf : Laid → (holders : List (List (Option ℕ))) → Type 0
AreRowsOf laid holders = HaveRows laid.index.now laid.periods.now laid.offsets.now holders
