use Rattle.tenant_core.proofs.Presents.{staying_laws}
use Rattle.tenant_core.proofs.laws.what_stays.Goals as goal

pub returns : goal.returns
returns c = staying_laws
