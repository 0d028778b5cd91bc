use Rattle.route_table.proofs.Named.{names_peer_is, names_peer_listed}
use Rattle.route_table.proofs.routes.Routes.names_peer.Goals as goal

pub returns-clause-named : goal.returns-clause-named
returns-clause-named c = names_peer_is c.self.inside.root.routes _ _ _ c.self.view_is c.self.invariant.prefixes c.names.ensures

pub returns-clause-listed : goal.returns-clause-listed
returns-clause-listed c = names_peer_listed c.self.inside.root.routes _ _ _ c.self.view_is c.self.invariant.prefixes c.names.ensures
