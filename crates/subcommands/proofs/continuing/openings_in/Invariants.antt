use Rattle.std.proofs.Common.{◌≡◌, map}
use Rattle.book_log.specs.declared.base.TenantStart.{TenantStart}
use Rattle.subcommands.proofs.continuing.openings_in.Given as goal

abbrev pub invariant-loop-start : goal.invariant-loop-start
invariant-loop-start l = l.openings.items ≡ map (λ (s : TenantStart). s.opening) l.yielded
