-- How much a service serves.
use Rattle.std.specs.Prelude.{ℕ, ◌+◌, ◌-◌, ◌*◌, ◌/◌, ◌^◌, ◌||◌, Bool, true, false, min, Option, Some, None, is_some}
use Rattle.books_shared.specs.Gathers.{max_workers}
use Rattle.service.specs.declared.running.plan.Plan.{Plan}

-- whether each tenant's running period is closed at the end: for an audit, or for its statement
abbrev pub closes_at_end : Plan → Bool
closes_at_end plan = plan.report.audit || is_some plan.statements

-- so many connections in all: so many rounds for each worker; without rounds as many as can be counted
abbrev pub connection_total : (workers : ℕ) → (rounds : Option ℕ) → ℕ
connection_total workers (Some rounds) = workers * rounds
connection_total workers None = 2 ^ 64 - 1

-- so many packets of each tenant may wait for a place: an equal part of half of the connections beyond the places
abbrev pub most_waiting_of : (connections places tenants : ℕ) → ℕ
most_waiting_of connections places tenants = (connections - places) / 2 / tenants

-- so many workers serve: one for each connection, and one less than may count in the books where operators send commands
abbrev pub worker_count : (connections : ℕ) → (operated : Bool) → ℕ
worker_count connections false = connections
worker_count connections true = min connections (max_workers - 1)

-- so many count in the books: the workers, and who answers operators
abbrev pub desk_count : (connections : ℕ) → (operated : Bool) → ℕ
desk_count connections false = worker_count connections false
desk_count connections true = worker_count connections true + 1
