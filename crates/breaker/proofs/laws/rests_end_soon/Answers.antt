use Rattle.breaker.proofs.Runs.{soon}
use Rattle.breaker.specs.declared.breaker.State.TheVariants.{Closed}
use Rattle.breaker.proofs.laws.rests_end_soon.Goals as goal

pub returns : goal.returns
returns c steps first last ordered = soon (Closed 0) first last steps tt ordered
