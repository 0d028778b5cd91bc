use Rattle.book_log.proofs.LinesBack.{Laws, line_back}
use Rattle.book_log.proofs.OneEnd.{one_end, one_end_of_all, written_line, written_no_sum}
use Rattle.book_log.proofs.laws.lines_are_read_back.Goals as goal

pub returns : goal.returns
returns c =
    let laws : Laws = record { numerals = c.numerals.ensures; targets = c.targets.ensures; statements = c.read_back.ensures } in
    record {
      read_back = line_back laws;
      one_line = written_line laws;
      no_sum = written_no_sum laws;
      one_end = one_end laws;
      one_end_of_all = one_end_of_all laws;
    }
