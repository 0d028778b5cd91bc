use Rattle.std.proofs.Common.{◌≡◌, ◌+◌, ◌*◌, ◌<◌, ℕ, true, false, List, [], ◌∷◌, ◌++◌, length, nat_le, replicate, refl, sym, subst, arith, slice_index}
use Rattle.joint_order.specs.Orders.{list_at}
use Rattle.joint_order.specs.Steps.{IsGoing, Progress, points_left, next_at}
use Rattle.joint_order.proofs.Looks.{can_go_on}
use Rattle.joint_order.proofs.Going.{all_counted, all_end, look_on, look_smaller, no_elements, stands_still, starts}
use Rattle.joint_order.proofs.joining.join.Goals as goal

pub loop-i-init : goal.loop-i-init
loop-i-init c =
    let lists = c.args.lists.now in
    let holders = c.args.holders.now in
    let P : List ℕ → List ℕ → List ℕ → Type 0
    = λ t d o. IsGoing lists holders (record { taken = t; done = d; order = o; waiting = c.in_ok-waiting.waiting.items }) in
    let taken : c.in_ok-taken.taken.items ≡ replicate (length lists) 0 = c.in_ok-taken.ensures.items_if_clones_equal (λ y e. e) in
    let done : c.in_ok-done.done.items ≡ replicate (length holders) 0 = c.in_ok-done.ensures.items_if_clones_equal (λ y e. e) in
    subst (λ t. P t c.in_ok-done.done.items c.new-order.result.items) (sym taken)
    (subst (λ d. P (replicate (length lists) 0) d c.new-order.result.items) (sym done)
    (subst (λ o. P (replicate (length lists) 0) (replicate (length holders) 0) o) (sym c.new-order.ensures.items)
    (starts lists holders c.in_ok-waiting.waiting.items c.in_ok-waiting.ensures)))

pub loop-i-smaller : goal.loop-i-smaller
loop-i-smaller c =
    let lists = c.args.lists.now in
    let holders = c.args.holders.now in
    let i = c.in-Some.i in
    let g : Progress = record { taken = c.loop-i.taken.items; done = c.loop-i.done.items; order = c.loop-i.order.items; waiting = c.pop.new.self.items } in
    let after : Progress = record { taken = c.look.new.taken.items; done = c.look.new.done.items; order = c.look.new.order.items; waiting = c.look.new.waiting.items } in
    let less = look_smaller lists holders g i (next_at lists g.taken g.done i) refl
    (λ p e. can_go_on lists holders g.taken g.done i p c.loop-i.invariant.wide c.requires c.lists_are_short.ensures c.holders_are_short.ensures e) in
    let M : Progress → Type 0 = λ h. 2 * points_left lists h.taken + length h.waiting < 2 * points_left lists g.taken + (length g.waiting + 1) in
    let there : M after = subst M (sym c.in_ok-look.ensures) less in
    let popped = c.in-Some.ensures.len in
    omega arith

pub loop-i-preserved : goal.loop-i-preserved
loop-i-preserved c =
    let lists = c.args.lists.now in
    let holders = c.args.holders.now in
    let i = c.in-Some.i in
    let taken = c.loop-i.taken.items in
    let done = c.loop-i.done.items in
    let order = c.loop-i.order.items in
    let rest = c.pop.new.self.items in
    let W : List ℕ → Type 0 = λ w. IsGoing lists holders (record { taken = taken; done = done; order = order; waiting = w }) in
    let before : W (rest ++ i ∷ []) = subst W c.in-Some.ensures.items c.loop-i.invariant in
    let G : Progress → Type 0 = λ g. IsGoing lists holders g in
    subst G (sym c.in_ok-look.ensures)
    (look_on lists holders taken done order rest i (next_at lists taken done i) c.requires refl
    (λ p e. can_go_on lists holders taken done i p c.loop-i.invariant.wide c.requires c.lists_are_short.ensures c.holders_are_short.ensures e)
    before)

pub returns-then-all_taken-clause-order : goal.returns-then-all_taken-clause-order
returns-then-all_taken-clause-order c =
    let lists = c.args.lists.now in
    let g : Progress = record { taken = c.loop-i.taken.items; done = c.loop-i.done.items; order = c.loop-i.order.items; waiting = c.loop-i.waiting.items } in
    let P : List ℕ → Type 0 = λ taken. (k : ℕ) → k < length lists → nat_le (length (list_at lists k)) (slice_index taken k) ≡ true in
    all_end lists c.args.holders.now g c.loop-i.invariant (subst P c.as_slice.ensures.value (c.if-all_taken.ensures.yes refl))

pub returns-else-all_taken-clause-stuck : goal.returns-else-all_taken-clause-stuck
returns-else-all_taken-clause-stuck c =
    let lists = c.args.lists.now in
    let g : Progress = record { taken = c.loop-i.taken.items; done = c.loop-i.done.items; order = c.loop-i.order.items; waiting = c.loop-i.waiting.items } in
    let P : List ℕ → Type 0 = λ taken. (k : ℕ) × (nat_le (length (list_at lists k)) (slice_index taken k) ≡ false) in
    let none_left = c.in_default.ensures.cases.0 in
    let nothing : c.loop-i.waiting.items ≡ [] = no_elements c.loop-i.waiting.items (omega arith) in
    stands_still lists c.args.holders.now g c.requires c.loop-i.invariant nothing (subst P c.as_slice.ensures.value (c.if-all_taken.ensures.no refl))

pub returns-then-all_taken-clause-count : goal.returns-then-all_taken-clause-count
returns-then-all_taken-clause-count c =
    let lists = c.args.lists.now in
    let g : Progress = record { taken = c.loop-i.taken.items; done = c.loop-i.done.items; order = c.loop-i.order.items; waiting = c.loop-i.waiting.items } in
    let P : List ℕ → Type 0 = λ taken. (k : ℕ) → k < length lists → nat_le (length (list_at lists k)) (slice_index taken k) ≡ true in
    all_counted lists c.args.holders.now g c.loop-i.invariant (subst P c.as_slice.ensures.value (c.if-all_taken.ensures.yes refl))
