use Rattle.std.proofs.Common.{◌≡◌}
use Rattle.service.specs.Served.{lines_upto}
use Rattle.service.proofs.running.serving.lines_of.Given as goal

abbrev pub invariant-loop-tenant : goal.invariant-loop-tenant
invariant-loop-tenant l = l.text.items ≡ lines_upto l.tenant l.names l.totals
