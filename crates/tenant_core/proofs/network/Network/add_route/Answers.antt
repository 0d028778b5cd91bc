use Rattle.std.proofs.Common.{subst, sym}
use Rattle.std.specs.Prelude.{IsSome}
use Rattle.std.specs.FinMap.{insert}
use Rattle.tenant_core.specs.Network.{Net, peer_numbered}
use Rattle.tenant_core.specs.Nets.{net_of}
use Rattle.tenant_core.proofs.Networks.{with_route_is, either_routes_is}
use Rattle.tenant_core.proofs.network.Network.add_route.Goals as goal

pub invariant_of-self : goal.invariant_of-self
invariant_of-self c =
    let net : Net = net_of c.self.inside in
    let there = subst (λ (n : Net). IsSome (peer_numbered c.args.hop.peer n.peers)) (sym c.self.view_is) c.requires in
    record {
      network = either_routes_is net (insert net.routes c.args.prefix c.args.hop) c.add.new.self c.add.result c.self.invariant.network
          (with_route_is net c.args.prefix c.args.hop c.self.invariant.network there) c.add.ensures.added c.add.ensures.unchanged;
      tokens = c.self.invariant.tokens;
    }
