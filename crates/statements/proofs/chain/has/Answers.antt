use Rattle.std.proofs.Common.{◌≡◌, inr, rules, subst}
use Rattle.statements.specs.Known.{IsOtherSetup}
use Rattle.tenant_core.specs.PresentSetup.{present_setup}
use Rattle.tenant_core.specs.State.{opened}
use Rattle.tenant_core.specs.declared.terms.TenantTerms.{TenantTerms}
use Rattle.statements.proofs.chain.has.Goals as goal

pub returns-clause-not : goal.returns-clause-not
returns-clause-not c = λ no.
    let before : c.terms-2.result.now ≡ present_setup (opened c.args.opening.now) c.args.setup.now.admin = search rules in
    let after : c.terms-3.result.now ≡ c.args.setup.now = search rules in
    inr (subst (λ (t : TenantTerms). IsOtherSetup t c.args.setup.now) before
    (subst (λ (t : TenantTerms). IsOtherSetup c.terms-2.result.now t) after (c.in_ok-goes_on.ensures.other no)))
