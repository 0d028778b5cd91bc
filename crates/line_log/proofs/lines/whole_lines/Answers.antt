use Rattle.line_log.proofs.Recovering.{read_back}
use Rattle.line_log.proofs.Steps.{front_is}
use Rattle.line_log.proofs.lines.whole_lines.Goals as goal

pub returns-clause-lines : goal.returns-clause-lines
returns-clause-lines c = front_is c.args.bytes.now c.end_of_lines.result c.end_of_lines.ensures.end

pub returns-clause-whole : goal.returns-clause-whole
returns-clause-whole c =
    (read_back c.args.bytes.now _ (front_is c.args.bytes.now c.end_of_lines.result c.end_of_lines.ensures.end)).0

pub returns-clause-records : goal.returns-clause-records
returns-clause-records c =
    (read_back c.args.bytes.now _ (front_is c.args.bytes.now c.end_of_lines.result c.end_of_lines.ensures.end)).1
