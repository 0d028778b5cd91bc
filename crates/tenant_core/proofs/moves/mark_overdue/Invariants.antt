use Rattle.std.proofs.Common.{◌≡◌, map}
use Rattle.tenant_core.specs.Ground.{state_on}
use Rattle.tenant_core.specs.Running.{purse_by}
use Rattle.tenant_core.proofs.Marking.{IsTicked}
use Rattle.tenant_core.proofs.moves.mark_overdue.Given as goal

abbrev pub invariant-loop-k : goal.invariant-loop-k
invariant-loop-k l =
    record {
      ticked : IsTicked l.clock l.k l.count l.initial.holds l.holds;
      purses : l.purses.items ≡ map (purse_by (state_on l.ground) l.holds.holds) l.ground.network.now.peers;
    }
