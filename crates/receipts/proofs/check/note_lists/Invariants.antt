use Rattle.std.proofs.Common.{◌≡◌, ◌≤◌, map, take, length, vec_len, vec_capacity}
use Rattle.receipts.specs.Audits.{points_of}
use Rattle.receipts.specs.Layout.{AreNoted, HaveRows}
use Rattle.receipts.proofs.check.note_lists.Given as goal

abbrev pub invariant-loop-i : goal.invariant-loop-i
invariant-loop-i l =
    AreNoted l.laid.periods.now (map (λ list. list.now) l.lists) l.holders l.i 0
    × HaveRows l.laid.index.now l.laid.periods.now l.laid.offsets.now l.holders
    × (l.points.items ≡ take l.i (points_of l.laid.periods.now (map (λ list. list.now) l.lists)))
    × (vec_len l.points ≡ l.i)
    × (length l.lists ≤ vec_capacity l.points)
