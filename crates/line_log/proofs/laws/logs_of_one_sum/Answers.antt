use Rattle.line_log.proofs.SumLaw.{sum_law}
use Rattle.line_log.proofs.laws.logs_of_one_sum.Goals as goal

pub returns : goal.returns
returns c = sum_law
