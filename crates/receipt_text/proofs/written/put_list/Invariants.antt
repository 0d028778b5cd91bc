use Rattle.std.proofs.Common.{◌≡◌, ◌++◌, take}
use Rattle.std.specs.List.{flat_map}
use Rattle.receipt_text.specs.ReceiptText.{receipt_line}
use Rattle.receipt_text.proofs.written.put_list.Given as goal

abbrev pub invariant-loop-receipt : goal.invariant-loop-receipt
invariant-loop-receipt l = l.out.items ≡ l.fn.out.items ++ flat_map receipt_line (take l.receipt-index l.list)
