use Rattle.rate_bucket.proofs.Windows as windows
use Rattle.rate_bucket.proofs.laws.admitted_by_windows.Goals as goal

pub returns : goal.returns
returns c = windows.admitted_by_windows
