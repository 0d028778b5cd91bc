use Rattle.std.proofs.Common.{◌≡◌, ◌≤◌, length, map, take, vec_len, vec_capacity}
use Rattle.receipts.specs.Layout.{AreNoted, HaveRows, points_in}
use Rattle.receipts.proofs.check.note_list.Given as goal

abbrev pub invariant-loop-n : goal.invariant-loop-n
invariant-loop-n l =
    AreNoted l.laid.periods.now (map (λ list. list.now) l.lists) l.holders l.i l.n
    × HaveRows l.laid.index.now l.laid.periods.now l.laid.offsets.now l.holders
    × (l.points.items ≡ take l.n (points_in l.laid.periods.now l.list))
    × (vec_len l.points ≡ l.n)
    × (length l.list ≤ vec_capacity l.points)
