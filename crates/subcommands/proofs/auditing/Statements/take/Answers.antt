use Rattle.std.proofs.Common.{ℕ, List, [], ◌∷◌, ◌++◌, ap, ◌∙◌, subst}
use Rattle.statements.specs.Statement.{IsStatement}
use Rattle.tenant_core.specs.declared.period.PeriodParts.{PeriodParts}
use Rattle.subcommands.proofs.auditing.Statements.take.Goals as goal

pub returns-clause-more : goal.returns-clause-more
returns-clause-more g c =
    let p : PeriodParts = c.in_ok-good.good.gone.period in (
      p,
      subst (λ (text : List ℕ). IsStatement text p) c.in_ok-good.ensures.text c.in_ok-good.ensures.good.stated,
      c.push_reserved.ensures.items
          ∙ (ap (λ (ps : List PeriodParts). ps ++ c.into_period.result ∷ []) c.reserve.ensures.items
          ∙ ap (λ (q : PeriodParts). c.args.self.now.periods.items ++ q ∷ []) c.into_period.ensures),
    )
