use Rattle.tenant_core.proofs.Fates.{fate_law}
use Rattle.tenant_core.proofs.laws.fates.Goals as goal

pub returns : goal.returns
returns c = fate_law
