use Rattle.std.proofs.Common.{◌≡◌, ◌++◌, map, take}
use Rattle.std.specs.List.{flat_map}
use Rattle.receipt_text.specs.ReceiptText.{worker_text}
use Rattle.receipt_text.proofs.written.put_workers.Given as goal

abbrev pub invariant-loop-list : goal.invariant-loop-list
invariant-loop-list l = l.out.items ≡ l.fn.out.items ++ flat_map worker_text (map (λ list. list.now) (take l.list-index l.lists))
