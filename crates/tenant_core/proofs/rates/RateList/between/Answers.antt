use Rattle.std.proofs.Common.{rules, ◌<◌, length, ap, sym}
use Rattle.std.specs.Prelude.{option_map}
use Rattle.tenant_core.specs.declared.terms.RateTerms.{RateTerms}
use Rattle.tenant_core.proofs.Pairs.{pair_within, pair_here, pair_nowhere}
use Rattle.tenant_core.proofs.rates.RateList.between.Goals as goal

pub index-requires-in-Ok : goal.index-requires-in-Ok
index-requires-in-Ok c =
    let within : c.in-Ok.at < length c.self.inside.by_pair.items = search rules in
    let inside : c.index.result.now < length c.self.inside.rates.items =
    pair_within c.self.inside.rates.items c.self.inside.by_pair.items c.self.invariant.pairs c.in-Ok.at c.index.result.now within c.index.ensures in
    search rules

pub returns-in-Ok : goal.returns-in-Ok
returns-in-Ok c =
    let within : c.in-Ok.at < length c.self.inside.by_pair.items = search rules in
    let found = rw (c.deref.ensures.value, c.deref-2.ensures.value) at (c.in-Ok.ensures.position c.index.result.now) in
    rw (← c.self.view_is)
    (sym (ap (option_map (λ (r : RateTerms). r.rate))
    (pair_here c.self.inside.rates.items c.self.inside.by_pair.items c.self.invariant.pairs c.args.from c.args.to c.self.invariant.apart c.in-Ok.at c.index.result.now c.index-in-Ok.result.now within c.index.ensures found c.index-in-Ok.ensures)))

pub returns-in-Err : goal.returns-in-Err
returns-in-Err c =
    let searched = rw (c.deref.ensures.value, c.deref-2.ensures.value) at c.in-Err.ensures.position in
    rw (← c.self.view_is)
    (sym (ap (option_map (λ (r : RateTerms). r.rate))
    (pair_nowhere c.self.inside.rates.items c.self.inside.by_pair.items c.self.invariant.pairs c.args.from c.args.to c.in-Err.field-0 searched)))
