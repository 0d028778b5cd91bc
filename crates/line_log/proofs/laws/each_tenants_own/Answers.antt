use Rattle.line_log.proofs.Runs.{of_each}
use Rattle.line_log.proofs.laws.each_tenants_own.Goals as goal

pub returns : goal.returns
returns c = of_each
