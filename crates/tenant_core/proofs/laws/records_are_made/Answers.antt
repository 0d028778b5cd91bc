use Rattle.tenant_core.proofs.Making.{made_laws}
use Rattle.tenant_core.proofs.laws.records_are_made.Goals as goal

pub returns : goal.returns
returns c = made_laws
