use Rattle.std.proofs.Common.{◌≡◌, ◌+◌, ◌≤◌, length}
use Rattle.line_log.proofs.Recovering.{whole_from}
use Rattle.line_log.proofs.lines.end_of_lines.Given as goal

abbrev pub invariant-loop-rest : goal.invariant-loop-rest
invariant-loop-rest l = record { scanned : whole_from l.at l.end l.rest ≡ whole_from 0 0 l.bytes; size : l.at + length l.rest ≡ length l.bytes; within : l.end ≤ l.at }

abbrev pub decreases-loop-rest : goal.decreases-loop-rest
decreases-loop-rest l = length l.rest
