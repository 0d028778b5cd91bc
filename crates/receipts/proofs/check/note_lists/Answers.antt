use Rattle.std.proofs.Common.{◌≡◌, List, [], ◌∷◌, ◌++◌, Some, refl, sym, ◌∙◌, ap, map, take, length, slice_get, arith, Bor}
use Rattle.std.proofs.lemmas.Option.{slice_get_read}
use Rattle.joint_order.specs.declared.point.ListPoint.{ListPoint}
use Rattle.receipts.specs.Audits.{points_of}
use Rattle.receipts.specs.Layout.{points_in}
use Rattle.receipts.specs.declared.receipt.Receipt.{Receipt}
use Rattle.receipts.proofs.Naming.{point_at, point_more}
use Rattle.receipts.proofs.check.note_lists.Goals as goal

pub loop-i-preserved : goal.loop-i-preserved
loop-i-preserved c =
    let periods = c.args.laid.now.periods.now in
    let lists : List (List Receipt) = map (λ list. list.now) c.args.lists.now in
    let below = c.loop-i-test.true in
    let at = slice_get_read c.args.lists.now (length c.args.lists.now) c.loop-i.i c.index-lists-i.result refl (omega arith) c.index-lists-i.is in
    let list = c.index-lists-i.result.now in
    let there : slice_get lists c.loop-i.i ≡ Some list = point_at (λ (l : Bor (List Receipt)). l.now) c.args.lists.now c.loop-i.i c.index-lists-i.result at in
    let many = c.loop-i.invariant.3 in
    let room = c.loop-i.invariant.4 in
    let len = c.push_reserved.ensures.len in
    let capacity = c.push_reserved.ensures.capacity in (
      c.in_ok-noted.ensures.noted,
      c.in_ok-noted.ensures.rows,
      c.push_reserved.ensures.items
          ∙ ap (λ (l : List (List ListPoint)). l ++ c.from_vec.result ∷ []) c.loop-i.invariant.2
          ∙ ap (λ (p : List ListPoint). take c.loop-i.i (points_of periods lists) ++ p ∷ []) (c.from_vec.ensures ∙ c.in_ok-noted.ensures.points)
          ∙ sym (point_more (points_in periods) lists c.loop-i.i list there),
      omega arith,
      omega arith,
    )
