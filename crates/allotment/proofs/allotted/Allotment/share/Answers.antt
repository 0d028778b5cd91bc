use Rattle.std.proofs.Common.{subst, arith}
use Rattle.allotment.specs.Loans.{Loans, IsCovered}
use Rattle.allotment.proofs.allotted.Allotment.share.Goals as goal

pub returns-clause-covered : goal.returns-clause-covered
returns-clause-covered c =
    let P : Loans → Type 0 = IsCovered in
    subst P c.self.view_is (omega arith)
