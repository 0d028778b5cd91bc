use Rattle.rate_bucket.proofs.Running.{running_laws}
use Rattle.rate_bucket.proofs.laws.running.Goals as goal

pub returns : goal.returns
returns c = running_laws
