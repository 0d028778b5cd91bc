use Rattle.std.proofs.Common.{List, ℕ, subst}
use Rattle.statements.specs.Statement.{IsStatement}
use Rattle.tenant_core.specs.declared.period.PeriodParts.{PeriodParts}
use Rattle.statements.proofs.ChainSteps.{fault_of_text}
use Rattle.statements.proofs.chain.Chain.add.Goals as goal

pub returns-clause-fault : goal.returns-clause-fault
returns-clause-fault c =
    let p : PeriodParts = c.in_ok-good.good.gone.period in
    fault_of_text c.args.self.now c.args.text.now p c.join.result
    (subst (λ (t : List ℕ). IsStatement t p) c.in_ok-good.ensures.text c.in_ok-good.ensures.good.stated) c.period_is_kept.ensures c.join.ensures.fault
