use Rattle.std.proofs.Common.{arith, rules, ◌≡◌, ◌<◌, ◌≤◌, ◌++◌, ◌∷◌, [], List, ℕ, length, true, Ok, IsOk, sym}
use Rattle.std.specs.List.{insert}
use Rattle.std.proofs.lemmas.Grind.{common_steps}
use Rattle.std.proofs.lemmas.List.{length-set, length_push}
use Rattle.tenant_core.specs.declared.terms.RateTerms.{RateTerms}
use Rattle.tenant_core.specs.Limits.{max_rates}
use Rattle.tenant_core.specs.Network.{has_pair}
use Rattle.tenant_core.proofs.Pairs.{pair_within, pair_found, pair_absent, pair_added, apart_added, pair_replaced, apart_replaced, set_is}
use Rattle.tenant_core.proofs.rates.RateList.set.Goals as goal

pub index_mut-requires : goal.index_mut-requires
index_mut-requires c =
    let found : c.in-Ok.at < length c.self.inside.by_pair.items = search rules in
    let inside : c.index.result.now < length c.self.inside.rates.items =
    pair_within c.self.inside.rates.items c.self.inside.by_pair.items c.self.invariant.pairs c.in-Ok.at c.index.result.now found c.index.ensures in
    search rules

pub invariant_of-self : goal.invariant_of-self
invariant_of-self c =
    let rates : List RateTerms = c.self.inside.rates.items in
    let r : RateTerms = c.args.rate.now in
    let found : c.in-Ok.at < length c.self.inside.by_pair.items = search rules in
    let tie = rw (c.deref.ensures.value, c.deref-2.ensures.value) at (c.in-Ok.ensures.position c.index.result.now) in
    let long = length-set rates c.index.result.now r in
    let few = c.self.invariant.few in
    record {
      pairs = pair_replaced rates c.self.inside.by_pair.items c.self.invariant.pairs c.self.invariant.apart r c.in-Ok.at c.index.result.now found c.index.ensures tie;
      apart = apart_replaced rates c.self.inside.by_pair.items c.self.invariant.pairs c.self.invariant.apart r c.in-Ok.at c.index.result.now found c.index.ensures tie;
      few = omega arith;
    }

pub returns-in-Ok-clause-set : goal.returns-in-Ok-clause-set
returns-in-Ok-clause-set c =
    let rates : List RateTerms = c.self.inside.rates.items in
    let r : RateTerms = c.args.rate.now in
    let found : c.in-Ok.at < length c.self.inside.by_pair.items = search rules in
    let tie = λ (d : ℕ). rw (c.deref.ensures.value, c.deref-2.ensures.value) at (c.in-Ok.ensures.position d) in
    let there : has_pair r rates ≡ true =
    pair_found rates c.self.inside.by_pair.items c.self.invariant.pairs r.from r.to (Ok c.in-Ok.at) found tie in
    let is = set_is rates c.self.inside.by_pair.items c.self.invariant.pairs c.self.invariant.apart r c.in-Ok.at c.index.result.now found c.index.ensures (tie c.index.result.now) in
    rw (← c.self.view_is, there) is

pub returns-clause-set : goal.returns-clause-set
returns-clause-set c =
    let rates : List RateTerms = c.self.inside.rates.items in
    let range : c.in-Err.at ≤ length c.self.inside.by_pair.items = search rules in
    let searched = rw (c.deref.ensures.value, c.deref-2.ensures.value) at c.in-Err.ensures.position in
    let absent = pair_absent rates c.self.inside.by_pair.items c.self.invariant.pairs c.args.rate.now c.in-Err.at range searched in
    let pushed : c.push.new.self.items ≡ rates ++ c.args.rate.now ∷ [] = search rules in
    rw (← c.self.view_is, absent) pushed

pub invariant_of-self-2 : goal.invariant_of-self-2
invariant_of-self-2 c =
    let rates : List RateTerms = c.self.inside.rates.items in
    let range : c.in-Err.at ≤ length c.self.inside.by_pair.items = search rules in
    let searched = rw (c.deref.ensures.value, c.deref-2.ensures.value) at c.in-Err.ensures.position in
    let absent = pair_absent rates c.self.inside.by_pair.items c.self.invariant.pairs c.args.rate.now c.in-Err.at range searched in
    let pushed : c.push.new.self.items ≡ rates ++ c.args.rate.now ∷ [] = search rules in
    let ok : IsOk c.insert.result = c.insert.ensures.succeeds (search rules) in
    let order : c.insert.new.self.items ≡ insert c.self.inside.by_pair.items c.in-Err.at (length rates) = grind (arith, common_steps, ok) in
    let room : length rates < max_rates = (rw (sym c.self.view_is) at c.requires) absent in
    let long = length_push rates c.args.rate.now in
    record {
      pairs = rw (pushed, order) (pair_added rates c.self.inside.by_pair.items c.self.invariant.pairs c.args.rate.now c.in-Err.at range searched);
      apart = rw pushed (apart_added rates c.self.inside.by_pair.items c.self.invariant.pairs c.args.rate.now c.in-Err.at range searched c.self.invariant.apart);
      few = rw pushed (omega arith);
    }
