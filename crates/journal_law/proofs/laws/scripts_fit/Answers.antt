use Rattle.journal_law.proofs.Scripts.{script_fits}
use Rattle.journal_law.proofs.laws.scripts_fit.Goals as goal

pub returns : goal.returns
returns c = script_fits
