use Rattle.ilp_view.proofs.PrepareLaws.{prepare_again}
use Rattle.ilp_view.proofs.laws.each_prepare_is_read.Goals as goal

pub returns : goal.returns
returns c = prepare_again c.laws_below.ensures
