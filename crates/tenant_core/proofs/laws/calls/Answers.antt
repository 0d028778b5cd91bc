use Rattle.tenant_core.proofs.Steady.{call_laws}
use Rattle.tenant_core.proofs.laws.calls.Goals as goal

pub returns : goal.returns
returns c = call_laws
