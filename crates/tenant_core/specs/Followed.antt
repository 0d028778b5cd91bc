-- The outcome of an order that was made for an entry.
use Rattle.std.specs.Prelude.{Option, Some, None, Result, Ok, Err}
use Rattle.tenant_core.specs.declared.faults.CommandFault.{CommandFault}
use Rattle.tenant_core.specs.declared.faults.CommandFault.TheVariants.{Memory}
use Rattle.tenant_core.specs.declared.journal.Outcome.{Outcome}
use Rattle.tenant_core.specs.declared.journal.Outcome.TheVariants.{Done}

-- what the entry of its change leads to; nothing is said of that if it is out of memory
abbrev pub order_outcome : Result (Unit {0}) CommandFault → Option (Option Outcome)
order_outcome (Ok done) = Some (Some Done)
order_outcome (Err Memory) = None
order_outcome (Err fault) = Some None
