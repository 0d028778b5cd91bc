use Rattle.breaker.proofs.Runs.{one}
use Rattle.breaker.proofs.laws.one_trial_at_a_time.Goals as goal

pub returns : goal.returns
returns c = one
