use Rattle.std.proofs.Common.{ap, arith, subst, length, ◌≢◌, ◌≤◌, not, ◌∙◌}
use Rattle.std.specs.declared.cmp.Ordering.TheVariants.{Equal}
use Rattle.std.proofs.lemmas.List.Kept.{AllPairs-filter}
use Rattle.tenant_core.specs.Limits.{max_rates}
use Rattle.tenant_core.specs.declared.terms.RateTerms.{RateTerms}
use Rattle.tenant_core.specs.Network.{names_peer}
use Rattle.tenant_core.specs.Places.{pair, pair_at, pair_cmp, IsByPair}
use Rattle.tenant_core.proofs.Indexes.{kept_fewer, size}
use Rattle.tenant_core.proofs.Pairs.{pairs_total}
use Rattle.tenant_core.proofs.rates.RateList.drop_named.Goals as goal

pub order_by_pair-requires-clause-few : goal.order_by_pair-requires-clause-few
order_by_pair-requires-clause-few c =
    let kept = kept_fewer (λ r. not (names_peer c.args.number r)) c.self.inside.rates.items in
    let left = ap length (c.deref.ensures.value ∙ c.drop_rates.ensures) in
    let few = c.self.invariant.few in
    omega arith

pub order_by_pair-requires-clause-room : goal.order_by_pair-requires-clause-room
order_by_pair-requires-clause-room c =
    let kept = kept_fewer (λ r. not (names_peer c.args.number r)) c.self.inside.rates.items in
    let left = ap length (c.deref.ensures.value ∙ c.drop_rates.ensures) in
    let long = size pairs_total (pair_at c.self.inside.rates.items) (length c.self.inside.rates.items) c.self.inside.by_pair.items c.self.invariant.pairs in
    omega arith

pub invariant_of-self : goal.invariant_of-self
invariant_of-self c =
    let kept = kept_fewer (λ r. not (names_peer c.args.number r)) c.self.inside.rates.items in
    let few : length c.drop_rates.new.rates.items ≤ max_rates =
    (let left = ap length c.drop_rates.ensures in let was = c.self.invariant.few in omega arith) in
    record {
      pairs = subst (λ rs. IsByPair rs c.order_by_pair.new.order.items) c.deref.ensures.value c.order_by_pair.ensures;
      apart = rw c.drop_rates.ensures (AllPairs-filter (λ (x y : RateTerms). pair_cmp (pair x) (pair y) ≢ Equal) (λ r. not (names_peer c.args.number r)) c.self.inside.rates.items c.self.invariant.apart);
      few = few;
    }
