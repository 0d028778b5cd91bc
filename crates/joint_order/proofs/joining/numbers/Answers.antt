use Rattle.std.proofs.Common.{ℕ, List, subst, sym, Contains, ◌<◌, ◌+◌, arith}
use Rattle.joint_order.proofs.Going.{one_number_more}
use Rattle.joint_order.proofs.joining.numbers.Goals as goal

pub loop-i-preserved : goal.loop-i-preserved
loop-i-preserved c =
    let many = c.loop-i.invariant.0 in
    let room = c.loop-i.invariant.1 in
    let len = c.push_reserved.ensures.len in
    let capacity = c.push_reserved.ensures.capacity in
    let P : List ℕ → Type 0 = λ xs. (k : ℕ) → k < c.loop-i.i + 1 → Contains xs k in
    (omega arith, omega arith, subst P (sym c.push_reserved.ensures.items) (one_number_more c.loop-i.numbers.items c.loop-i.i c.loop-i.invariant.2))
