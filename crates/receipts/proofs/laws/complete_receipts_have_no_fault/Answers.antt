use Rattle.receipts.proofs.Faultless.{faultless}
use Rattle.receipts.proofs.laws.complete_receipts_have_no_fault.Goals as goal

pub returns : goal.returns
returns c = faultless c.no_order_where_stuck.ensures
