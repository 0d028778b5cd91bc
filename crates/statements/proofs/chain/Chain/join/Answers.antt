use Rattle.std.proofs.Common.{◌≡◌, true, ap, refl, ◌∙◌}
use Rattle.statements.specs.declared.due.Due.TheVariants.{Ending}
use Rattle.tenant_core.specs.declared.period.PeriodParts.{PeriodParts}
use Rattle.statements.proofs.ChainSteps.{chain_more}
use Rattle.statements.proofs.chain.Chain.join.Goals as goal

pub returns-then-not-is_followed-clause-apart : goal.returns-then-not-is_followed-clause-apart
returns-then-not-is_followed-clause-apart c = λ line is. record {
  period = c.args.good.now.gone.period;
  stated = c.requires.stated;
  closed = c.period_is_kept.ensures;
  apart = λ opens.
      let yes : c.is_followed.result ≡ true = c.is_followed.ensures.1 opens in
      let no = c.if-not-is_followed.true in
      cc;
}

pub returns-in-Ok-clause-chain : goal.returns-in-Ok-clause-chain
returns-in-Ok-clause-chain c = λ links chain.
    let p : PeriodParts = c.args.good.now.gone.period in
    chain_more links c.args.self.now _ c.args.good.now.text.now p c.requires.stated c.period_is_kept.ensures
    (c.is_followed.ensures.0 c.if-not-is_followed.false) (ap Ending (c.in_ok-ending.ensures ∙ c.ending.ensures)) refl c.in-Ok.ensures.totals chain
