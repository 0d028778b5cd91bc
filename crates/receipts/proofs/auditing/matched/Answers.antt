use Rattle.std.proofs.Common.{ℕ, List, Option, Bor, sym, subst, map, length, arith}
use Rattle.joint_order.specs.Orders.{AreHeld}
use Rattle.joint_order.specs.declared.point.ListPoint.{ListPoint}
use Rattle.receipts.specs.Audits.{points_of}
use Rattle.receipts.specs.declared.receipt.Receipt.{Receipt}
use Rattle.receipts.proofs.Naming.{are_matched, is_lacking, points_held}
use Rattle.receipts.proofs.Places.{shown_length}
use Rattle.receipts.proofs.auditing.matched.Goals as goal

pub returns-then-not-are_held_whole-clause-fault : goal.returns-then-not-are_held_whole-clause-fault
returns-then-not-are_held_whole-clause-fault c =
    let lists : List (List Receipt) = map (λ list. list.now) c.args.lists.now in
    let many = shown_length (λ (l : Bor (List Receipt)). l.now) c.args.lists.now in
    let found = c.are_held_whole.ensures.nowhere c.if-not-are_held_whole.true in
    is_lacking c.args.periods.now lists c.note_lists.new.holders (length c.args.lists.now) found.0 found.1 (omega arith)
    c.in_ok-points.ensures.noted found.2 found.3

pub returns-clause-matched : goal.returns-clause-matched
returns-clause-matched c =
    let lists : List (List Receipt) = map (λ list. list.now) c.args.lists.now in
    let many = shown_length (λ (l : Bor (List Receipt)). l.now) c.args.lists.now in
    are_matched c.in_ok-index.index c.args.periods.now c.in_ok-offsets.offsets.items lists c.note_lists.new.holders (length c.args.lists.now)
    c.in_ok-check_joined.ensures.joined (omega arith) c.in_ok-points.ensures.noted
    (c.are_held_whole.ensures.whole c.if-not-are_held_whole.false)

pub returns-clause-held : goal.returns-clause-held
returns-clause-held c =
    let lists : List (List Receipt) = map (λ list. list.now) c.args.lists.now in
    let many = shown_length (λ (l : Bor (List Receipt)). l.now) c.args.lists.now in
    let P : List (List ListPoint) → Type 0 = λ points. AreHeld points c.in_ok-holders.holders.items in
    let Q : List (List (Option ℕ)) → Type 0 = λ holders. AreHeld (points_of c.args.periods.now lists) holders in
    subst P (sym c.in_ok-points.ensures.points) (subst Q (sym c.in_ok-holders.ensures)
    (points_held c.args.periods.now lists c.note_lists.new.holders (length c.args.lists.now) (omega arith) c.in_ok-points.ensures.noted))
