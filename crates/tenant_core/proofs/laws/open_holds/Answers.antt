use Rattle.tenant_core.proofs.Awaited.{open_hold_laws}
use Rattle.tenant_core.proofs.laws.open_holds.Goals as goal

pub returns : goal.returns
returns c = open_hold_laws
