use Rattle.std.proofs.Common.{take}
use Rattle.ilp_addr.proofs.Dots.{HasNoDot}
use Rattle.ilp_addr.proofs.segments.split_at_dot.Given as goal

abbrev pub invariant-loop-i : goal.invariant-loop-i
invariant-loop-i l = HasNoDot (take l.i l.bytes)
