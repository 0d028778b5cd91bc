use Rattle.std.proofs.Common.{◌≡◌, ◌++◌, take}
use Rattle.std.specs.List.{flat_map}
use Rattle.statements.specs.Statement.{rate_line}
use Rattle.statements.proofs.written.put_rates.Given as goal

abbrev pub invariant-loop-rate : goal.invariant-loop-rate
invariant-loop-rate l = l.out.items ≡ l.fn.out.items ++ flat_map rate_line (take l.rate-index l.rates)
