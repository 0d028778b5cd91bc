use Rattle.journal_law.proofs.Starts.{have_begun}
use Rattle.journal_law.proofs.laws.tenants_have_begun.Goals as goal

pub returns : goal.returns
returns c = have_begun
