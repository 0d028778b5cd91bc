use Rattle.std.proofs.Common.{◌≡◌, map, take}
use Rattle.std.specs.List.{enumerate_from}
use Rattle.tenant_core.specs.State.{opening_of}
use Rattle.subcommands.proofs.beginning.openings_of_setup.Given as goal

abbrev pub invariant-loop-number : goal.invariant-loop-number
invariant-loop-number l =
    l.openings.items ≡ map (λ t. opening_of t.0 t.1 l.setup.start) (enumerate_from 0 (take l.number l.setup.tenants))
