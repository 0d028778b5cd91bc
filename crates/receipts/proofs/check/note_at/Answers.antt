use Rattle.std.proofs.Common.{List, Some, sym, ◌∙◌, ap, map}
use Rattle.joint_order.specs.Orders.{list_at, point}
use Rattle.joint_order.specs.declared.point.ListPoint.{ListPoint}
use Rattle.receipts.specs.Audits.{journal_place}
use Rattle.receipts.specs.declared.receipt.Receipt.{Receipt}
use Rattle.receipts.proofs.Naming.{noted_next, point_at, refused_is_fault}
use Rattle.receipts.proofs.check.note_at.Goals as goal

pub returns-in-Ok-clause-noted : goal.returns-in-Ok-clause-noted
returns-in-Ok-clause-noted c =
    let lists : List (List Receipt) = map (λ list. list.now) c.args.lists.now in
    noted_next c.args.laid.now.periods.now lists c.args.holders.now c.note.new.holders c.args.i c.args.n c.args.receipt.now c.in-Ok.point c.requires.noted c.requires.there
    c.in-Ok.ensures.noted (c.in-Ok.ensures.noted.tenant, c.in-Ok.ensures.noted.room)

pub returns-in-Ok-clause-is : goal.returns-in-Ok-clause-is
returns-in-Ok-clause-is c =
    let lists : List (List Receipt) = map (λ list. list.now) c.args.lists.now in
    point_at (λ r. point r.tenant (journal_place c.args.laid.now.periods.now r)) (list_at lists c.args.i) c.args.n c.args.receipt.now c.requires.there
    ∙ ap (λ (p : ListPoint). Some p) (sym c.in-Ok.ensures.noted.is)

pub returns-in-Err-clause-fault : goal.returns-in-Err-clause-fault
returns-in-Err-clause-fault c =
    let lists : List (List Receipt) = map (λ list. list.now) c.args.lists.now in
    refused_is_fault c.args.laid.now.periods.now lists c.args.holders.now c.args.i c.args.n c.args.receipt.now c.requires.noted c.requires.there c.in-Err.fault
    c.in-Err.ensures.refused
