use Rattle.std.proofs.Common.{◌≡◌, List, [], ◌∷◌, ◌++◌, Option, Some, refl, sym, ◌∙◌, ap, map, take, length, slice_get, unwrap_or, arith}
use Rattle.std.proofs.lemmas.Option.{slice_get_read}
use Rattle.joint_order.specs.Orders.{list_at, point}
use Rattle.joint_order.specs.declared.point.ListPoint.{ListPoint}
use Rattle.receipts.specs.Audits.{journal_place}
use Rattle.receipts.specs.Layout.{points_in}
use Rattle.receipts.specs.declared.receipt.Receipt.{Receipt}
use Rattle.receipts.proofs.Naming.{all_points, list_noted, point_at, point_more}
use Rattle.receipts.proofs.Places.{shown_length}
use Rattle.receipts.proofs.check.note_list.Goals as goal

pub note_at-requires-clause-there : goal.note_at-requires-clause-there
note_at-requires-clause-there c =
    let below = c.loop-n-test.true in
    let at = slice_get_read c.args.list.now (length c.args.list.now) c.loop-n.n c.index-list-n.result refl (omega arith) c.index-list-n.is in
    ap (λ (l : List Receipt). slice_get l c.loop-n.n) (sym c.requires.list) ∙ at

pub loop-n-preserved : goal.loop-n-preserved
loop-n-preserved c =
    let periods = c.args.laid.now.periods.now in
    let below = c.loop-n-test.true in
    let at = slice_get_read c.args.list.now (length c.args.list.now) c.loop-n.n c.index-list-n.result refl (omega arith) c.index-list-n.is in
    let f : Receipt → ListPoint = λ r. point r.tenant (journal_place periods r) in
    let one : ◌≡◌ {A = Option ListPoint} (Some (f c.index-list-n.result)) (Some c.in_ok-point.point)
    = sym (point_at f c.args.list.now c.loop-n.n c.index-list-n.result at)
    ∙ ap (λ (l : List Receipt). slice_get (points_in periods l) c.loop-n.n) c.requires.list
    ∙ c.in_ok-point.ensures.is in
    let same : f c.index-list-n.result ≡ c.in_ok-point.point = ap (λ (o : Option ListPoint). unwrap_or o c.in_ok-point.point) one in
    let many = c.loop-n.invariant.3 in
    let room = c.loop-n.invariant.4 in
    let len = c.push_reserved.ensures.len in
    let capacity = c.push_reserved.ensures.capacity in (
      c.in_ok-point.ensures.noted,
      c.in_ok-point.ensures.rows,
      c.push_reserved.ensures.items
          ∙ ap (λ (l : List ListPoint). l ++ c.in_ok-point.point ∷ []) c.loop-n.invariant.2
          ∙ ap (λ (p : ListPoint). take c.loop-n.n (points_in periods c.args.list.now) ++ p ∷ []) (sym same)
          ∙ sym (point_more f c.args.list.now c.loop-n.n c.index-list-n.result at),
      omega arith,
      omega arith,
    )

pub returns-clause-noted : goal.returns-clause-noted
returns-clause-noted c =
    let lists : List (List Receipt) = map (λ list. list.now) c.args.lists.now in
    let past = c.loop-n-test.false in
    let end = c.loop-n.auto.n-end in
    let whole : length c.args.list.now ≡ length (list_at lists c.args.i) = ap (λ (l : List Receipt). length l) c.requires.list in
    list_noted c.args.laid.now.periods.now lists c.loop-n.holders c.args.i c.loop-n.n (omega arith) c.loop-n.invariant.0

pub returns-clause-points : goal.returns-clause-points
returns-clause-points c =
    let past = c.loop-n-test.false in
    let shown = shown_length (λ r. point r.tenant (journal_place c.args.laid.now.periods.now r)) c.args.list.now in
    c.loop-n.invariant.2 ∙ all_points (points_in c.args.laid.now.periods.now c.args.list.now) c.loop-n.n (omega arith)
