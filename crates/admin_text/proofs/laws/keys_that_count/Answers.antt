use Rattle.admin_text.proofs.CountingKeys.{keys_count}
use Rattle.admin_text.proofs.laws.keys_that_count.Goals as goal

pub returns : goal.returns
returns c = keys_count
