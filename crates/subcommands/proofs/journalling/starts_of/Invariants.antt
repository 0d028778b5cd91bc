use Rattle.std.proofs.Common.{◌≡◌, length}
use Rattle.journal_law.specs.Kept.{AreFirstStarts}
use Rattle.subcommands.proofs.journalling.starts_of.Given as goal

abbrev pub invariant-loop-number : goal.invariant-loop-number
invariant-loop-number l = AreFirstStarts l.setup.tenants l.setup.start l.starts.items × (length l.starts.items ≡ l.number)
