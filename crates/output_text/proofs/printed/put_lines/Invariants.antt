use Rattle.std.proofs.Common.{◌≡◌, ◌++◌, take}
use Rattle.output_text.specs.Printed.{printed_lines}
use Rattle.output_text.proofs.printed.put_lines.Given as goal

abbrev pub invariant-loop-output : goal.invariant-loop-output
invariant-loop-output l = l.out.items ≡ l.fn.out.items ++ printed_lines l.names (take l.output-index l.outputs)
