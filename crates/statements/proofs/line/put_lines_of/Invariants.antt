use Rattle.std.proofs.Common.{◌≡◌, ◌++◌, map, take}
use Rattle.statements.specs.Line.{line_of}
use Rattle.statements.specs.Summary.{told_by}
use Rattle.statements.proofs.line.put_lines_of.Given as goal

abbrev pub invariant-loop-seen : goal.invariant-loop-seen
invariant-loop-seen l = l.out.items ≡ l.fn.out.items ++ map (line_of (told_by l.chain)) (take l.seen-index l.peers)
