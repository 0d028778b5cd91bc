use Rattle.std.proofs.Common.{◌≡◌, ◌++◌, map, take}
use Rattle.statements.specs.Line.{line_with}
use Rattle.statements.specs.Summary.{told_by}
use Rattle.statements.proofs.line.put_lines_with.Given as goal

abbrev pub invariant-loop-line : goal.invariant-loop-line
invariant-loop-line l = l.out.items ≡ l.fn.out.items ++ map (line_with (told_by l.chain)) (take l.line-index l.lines)
