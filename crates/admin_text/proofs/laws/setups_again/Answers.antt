use Rattle.admin_text.proofs.SetupsAgain.{again_law}
use Rattle.admin_text.proofs.laws.setups_again.Goals as goal

pub returns : goal.returns
returns c = again_law
