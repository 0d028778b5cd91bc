use Rattle.ilp_view.proofs.PrepareLaws.{prepare_takes}
use Rattle.ilp_view.proofs.laws.what_is_read_is_a_prepare.Goals as goal

pub returns : goal.returns
returns c = prepare_takes c.laws_below.ensures
