use Rattle.std.proofs.Common.{◌≡◌, ◌++◌}
use Rattle.service.specs.Explaining.{passed_upto}
use Rattle.service.proofs.operators.explaining.put_passed.Given as goal

abbrev pub invariant-loop-check : goal.invariant-loop-check
invariant-loop-check l = l.text.items ≡ l.fn.text.items ++ passed_upto l.check
