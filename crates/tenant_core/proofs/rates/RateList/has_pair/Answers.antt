use Rattle.std.proofs.Common.{◌∙◌, sym}
use Rattle.tenant_core.specs.declared.terms.RateTerms.{RateTerms}
use Rattle.tenant_core.proofs.Pairs.{pair_found}
use Rattle.tenant_core.proofs.rates.RateList.has_pair.Goals as goal

pub returns : goal.returns
returns c =
    let r : RateTerms = c.args.rate.now in
    let range = rw c.deref-2.ensures.value at c.search_pair.ensures.range in
    let searched = rw (c.deref.ensures.value, c.deref-2.ensures.value) at c.search_pair.ensures.position in
    rw (← c.self.view_is) (c.is_ok.ensures.value ∙ sym (pair_found c.self.inside.rates.items c.self.inside.by_pair.items c.self.invariant.pairs r.from r.to c.search_pair.result range searched))
