use Rattle.line_log.proofs.Recovering.{one_line, joined_lines}
use Rattle.line_log.proofs.laws.lines_are_read_back.Goals as goal

pub returns : goal.returns
returns c = record { one = one_line; joined = joined_lines }
