use Rattle.std.proofs.Common.{arith}
use Rattle.tenant_core.specs.Nets.{net_of}
use Rattle.tenant_core.proofs.Networks.{skipped_is}
use Rattle.tenant_core.proofs.network.Network.skip_to.Goals as goal

pub invariant_of-self : goal.invariant_of-self
invariant_of-self c =
    record {
      network = skipped_is (net_of c.self.inside) c.args.number c.self.invariant.network (omega arith) (omega arith);
      tokens = c.self.invariant.tokens;
    }
