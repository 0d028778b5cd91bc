use Rattle.std.proofs.Common.{◌≡◌, ◌≤◌, map, vec_len, vec_capacity}
use Rattle.receipts.proofs.holders.items_of.Given as goal

abbrev pub invariant-loop-row : goal.invariant-loop-row
invariant-loop-row l =
    (l.lists.items ≡ map (λ row. row.items) l.yielded) × (vec_len l.fn.rows ≤ vec_capacity l.lists)
