use Rattle.std.proofs.Common.{◌≡◌, ◌++◌}
use Rattle.service.specs.Balances.{balance_lines}
use Rattle.service.proofs.running.balances.put_all.Given as goal

abbrev pub invariant-loop-entry : goal.invariant-loop-entry
invariant-loop-entry l = l.text.items ≡ l.fn.text.items ++ balance_lines l.names l.yielded
