use Rattle.ilp_view.proofs.WrittenAnswers.{written_fulfill_read, written_reject_read}
use Rattle.ilp_view.proofs.laws.written_is_read_back.Goals as goal

pub returns-clause-fulfills : goal.returns-clause-fulfills
returns-clause-fulfills c = written_fulfill_read c.laws_below.ensures

pub returns-clause-rejects : goal.returns-clause-rejects
returns-clause-rejects c = written_reject_read c.laws_below.ensures
