use Rattle.std.proofs.Common.{arith, rules, ◌≡◌, ℕ, length, subst}
use Rattle.std.specs.Cmp.Lexicographic.{slice_cmp}
use Rattle.std.specs.List.{range_with_len}
use Rattle.std.specs.List.Sorted.{IsPermutation}
use Rattle.std.specs.Ordering.{is_lt, nat_cmp}
use Rattle.std.proofs.lemmas.Cmp.{nat_list_cmp_total}
use Rattle.std.proofs.lemmas.Fn.{always_returns_same}
use Rattle.std.proofs.lemmas.List.Sorted.{ranks_by}
use Rattle.tenant_core.specs.Places.{token_at}
use Rattle.tenant_core.proofs.Indexes.{counted}
use Rattle.tenant_core.proofs.places.order_by_token.Goals as goal

pub returns : goal.returns
returns c =
    let key = token_at c.args.peers.now in
    let n = length c.args.peers.now in
    let ends : n ≡ c.loop-place.place = search rules in
    let is : c.loop-place.order.items ≡ range_with_len 0 n = counted c.loop-place.order.items n c.loop-place.invariant.long (λ k d h. c.loop-place.invariant.done k d (omega arith)) in
    let lt = λ (p q : ℕ). is_lt (slice_cmp nat_cmp (key p) (key q)) in
    record {
      places = subst (λ ps. IsPermutation ps c.sort_unstable_by.new.self.items) is c.sort_unstable_by.ensures.permutation;
      rising = c.sort_unstable_by.ensures.sorted lt (ranks_by nat_list_cmp_total key) (always_returns_same _ (λ a r. is_lt r ≡ lt a.0.now a.1.0.now) _ (λ a r f' k. search rules));
    }
