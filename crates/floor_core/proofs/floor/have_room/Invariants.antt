use Rattle.std.proofs.Common.{ℕ, ◌<◌, ◌≤◌, ◌+◌, ◌^◌, get_or}
use Rattle.floor_core.proofs.floor.have_room.Given as goal

abbrev pub invariant-loop-next : goal.invariant-loop-next
invariant-loop-next l = (t : ℕ) → t < l.next-index → get_or l.next_calls t 0 + l.steps ≤ 2 ^ 63
