use Rattle.std.proofs.Common.{arith}
use Rattle.breaker.proofs.Runs.{few}
use Rattle.breaker.proofs.laws.few_misses_begin_no_rest.Goals as goal

pub returns : goal.returns
returns c steps now below = few 0 steps now (omega (arith, below))
