use Rattle.std.proofs.Common.{◌≡◌, vec_capacity}
use Rattle.receipts.proofs.ledger.shrink_last.Given as goal

abbrev pub invariant-loop-place : goal.invariant-loop-place
invariant-loop-place l = (l.receipts.items ≡ l.fn.receipts.items) × (vec_capacity l.receipts ≡ vec_capacity l.fn.receipts)
