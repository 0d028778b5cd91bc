-- What the command line asks for.
use Rattle.std.specs.Prelude.{ℕ, ◌≤◌, Bool, false, IfSome}
use Rattle.books_shared.specs.Gathers.{max_workers}
use Rattle.command_line.specs.declared.usage.Task.{Task}
use Rattle.command_line.specs.declared.usage.TheConstants.{MAX_ROUNDS}
use Rattle.command_line.specs.declared.usage.Task.TheVariants.{Replay, Check, Verify, Recover, Serve}

-- a service has 1 to 4,096 connections at once; if it ends by itself, it has served 1 to 1,000,000 for each
-- worker
abbrev pub IsBounded : Task → Type 0
IsBounded Replay = Unit {0}
IsBounded Check = Unit {0}
IsBounded Verify = Unit {0}
IsBounded Recover = Unit {0}
IsBounded (Serve connections rounds balances audit) =
    (1 ≤ connections) × (connections ≤ max_workers) × IfSome rounds (λ n. (1 ≤ n) × (n ≤ MAX_ROUNDS))

-- a service may audit its receipts
abbrev pub audits : Task → Bool
audits (Serve connections rounds balances audit) = audit
audits _ = false
