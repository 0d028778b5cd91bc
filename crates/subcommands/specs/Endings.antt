-- The exit status of the program.
use Rattle.std.specs.Prelude.{ℕ, Result, Ok, Err}
use Rattle.replay_text.specs.Replay.{replay_status}
use Rattle.service.specs.declared.running.ending.ServeFault.TheVariants as service
use Rattle.subcommands.specs.declared.ending.Ending.{Ending}
use Rattle.subcommands.specs.declared.ending.JournalEnding.{JournalEnding}
use Rattle.subcommands.specs.declared.ending.JournalEnding.TheVariants as journal
use Rattle.subcommands.specs.declared.ending.Ending.TheVariants.{Usage, Fault, Served, NoToken, NotGood, Audit, Journal, SetupDiffers}

-- 1 if memory ran out, otherwise 5: a journal is kept on a device
abbrev pub journal_status : JournalEnding → ℕ
journal_status journal.Memory = 1
journal_status _ = 5

-- 0 if nothing went wrong, 2 for a bad command line or token, 3 for another setup than that of the journal, 4 for a bad
-- statement or text of receipts, 6 for an audit that found a fault. Otherwise it depends on what went wrong: a replay, a
-- file, or a service
abbrev pub exit_status : Result (Unit {0}) Ending → ℕ
exit_status (Ok done) = 0
exit_status (Err (Usage error)) = 2
exit_status (Err (Fault fault)) = replay_status fault
exit_status (Err (Served service.Memory)) = 1
exit_status (Err (Served service.Device)) = 5
exit_status (Err (Served service.Differs)) = 6
exit_status (Err (Served service.Audit)) = 6
exit_status (Err NoToken) = 2
exit_status (Err NotGood) = 4
exit_status (Err Audit) = 6
exit_status (Err (Journal why)) = journal_status why
exit_status (Err SetupDiffers) = 3
