use Rattle.statements.specs.Gone.{IsCharged}
use Rattle.statements.proofs.checked.Course.follow_lines.Given as goal

abbrev pub invariant-loop-place : goal.invariant-loop-place
invariant-loop-place l = IsCharged l.self
