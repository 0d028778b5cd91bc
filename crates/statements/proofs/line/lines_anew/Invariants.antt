use Rattle.std.proofs.Common.{◌≡◌, map, take}
use Rattle.statements.specs.Line.{line_anew}
use Rattle.statements.proofs.line.lines_anew.Given as goal

abbrev pub invariant-loop-line : goal.invariant-loop-line
invariant-loop-line l = l.out.items ≡ map (line_anew l.peers l.others) (take l.line-index l.lines)
