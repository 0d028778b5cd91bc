use Rattle.std.proofs.Common.{arith, rules, ◌≡◌, ℕ, length, subst}
use Rattle.std.specs.List.{range_with_len}
use Rattle.std.specs.List.Sorted.{IsPermutation}
use Rattle.std.specs.Ordering.{is_lt}
use Rattle.std.proofs.lemmas.Fn.{always_returns_same}
use Rattle.std.proofs.lemmas.List.Sorted.{ranks_by}
use Rattle.tenant_core.specs.Places.{pair_at, pair_cmp}
use Rattle.tenant_core.proofs.Indexes.{counted}
use Rattle.tenant_core.proofs.Pairs.{pairs_total}
use Rattle.tenant_core.proofs.places.order_by_pair.Goals as goal

pub returns : goal.returns
returns c =
    let key = pair_at c.args.rates.now in
    let n = length c.args.rates.now in
    let ends : n ≡ c.loop-place.place = search rules in
    let is : c.loop-place.order.items ≡ range_with_len 0 n = counted c.loop-place.order.items n c.loop-place.invariant.long (λ k d h. c.loop-place.invariant.done k d (omega arith)) in
    let lt = λ (p q : ℕ). is_lt (pair_cmp (key p) (key q)) in
    record {
      places = subst (λ ps. IsPermutation ps c.sort_unstable_by.new.self.items) is c.sort_unstable_by.ensures.permutation;
      rising = c.sort_unstable_by.ensures.sorted lt (ranks_by pairs_total key) (always_returns_same _ (λ a r. is_lt r ≡ lt a.0.now a.1.0.now) _ (λ a r f' k. search rules));
    }
