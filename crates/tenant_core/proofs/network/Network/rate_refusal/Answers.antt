use Rattle.std.proofs.Common.{rules, ◌≡◌, ◌∙◌, true, false, sym}
use Rattle.tenant_core.specs.declared.terms.RateTerms.{RateTerms}
use Rattle.tenant_core.specs.Network.{Net, has_pair}
use Rattle.tenant_core.specs.Nets.{net_of}
use Rattle.tenant_core.proofs.Pairs.{rate_replaced}
use Rattle.tenant_core.proofs.network.Network.rate_refusal.Goals as goal

pub returns-then-has_pair : goal.returns-then-has_pair
returns-then-has_pair c =
    let net : Net = net_of c.self.inside in
    let r : RateTerms = c.args.rate.now in
    let there : has_pair r net.rates ≡ true = sym c.has_pair.ensures ∙ c.if-has_pair.true in
    rw (← c.self.view_is) (sym (rate_replaced net r there))

pub returns : goal.returns
returns c =
    let net : Net = net_of c.self.inside in
    let r : RateTerms = c.args.rate.now in
    let absent : has_pair r net.rates ≡ false = sym c.has_pair.ensures ∙ c.if-has_pair.false in
    rw (← c.self.view_is, absent) (search rules)
