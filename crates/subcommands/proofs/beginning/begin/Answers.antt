use Rattle.subcommands.proofs.Openings.{has_log}
use Rattle.subcommands.proofs.beginning.begin.Goals as goal

pub returns-in-Some-Some : goal.returns-in-Some-Some
returns-in-Some-Some g c = has_log c.args.setup c.begin_in.result c.begin_in.ensures
