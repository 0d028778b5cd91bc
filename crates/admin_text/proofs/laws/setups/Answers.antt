use Rattle.admin_text.proofs.Few.{setup_law}
use Rattle.admin_text.proofs.laws.setups.Goals as goal

pub returns : goal.returns
returns c = setup_law
