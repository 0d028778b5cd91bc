use Rattle.std.specs.FinMap.{remove}
use Rattle.tenant_core.specs.Network.{Net}
use Rattle.tenant_core.specs.Nets.{net_of}
use Rattle.tenant_core.proofs.Networks.{without_route_is, either_routes_is}
use Rattle.tenant_core.proofs.network.Network.remove_route.Goals as goal

pub invariant_of-self : goal.invariant_of-self
invariant_of-self c =
    let net : Net = net_of c.self.inside in
    record {
      network = either_routes_is net (remove net.routes c.args.prefix.now) c.remove.new.self c.remove.result c.self.invariant.network
          (without_route_is net c.args.prefix.now c.self.invariant.network) c.remove.ensures.removed c.remove.ensures.unchanged;
      tokens = c.self.invariant.tokens;
    }
