use Rattle.ilp_view.specs.Reading.{prepare_at}
use Rattle.ilp_view.proofs.Cuts.{at_ok}
use Rattle.ilp_view.proofs.PrepareLaws.{prepare_again}
use Rattle.ilp_view.proofs.prepare_mut.PrepareMut.read.Goals as goal

pub returns-clause-only : goal.returns-clause-only
returns-clause-only c = λ p is. at_ok (prepare_at c.args.frame.now) _ p c.of_known.ensures.cut (prepare_again c.laws_below.ensures c.args.frame.now p is)
