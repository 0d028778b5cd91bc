use Rattle.std.proofs.Common.{◌≡◌, take}
use Rattle.statements.proofs.seen.copied.Given as goal

abbrev pub invariant-loop-seen : goal.invariant-loop-seen
invariant-loop-seen l = l.copy.items ≡ take l.seen-index l.peers
