use Rattle.receipts.specs.Audits.{points_of}
use Rattle.receipts.proofs.Naming.{are_distinct}
use Rattle.receipts.proofs.laws.no_order_where_stuck.Goals as goal

pub returns : goal.returns
returns c = λ periods lists front order matched stuck complete.
    c.no_order_behind_a_stuck_front.ensures (points_of periods lists) front order (are_distinct periods lists matched) stuck complete.takes
