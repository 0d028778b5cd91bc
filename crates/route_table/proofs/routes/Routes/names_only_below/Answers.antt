use Rattle.route_table.proofs.Named.{names_below_is}
use Rattle.route_table.proofs.routes.Routes.names_only_below.Goals as goal

pub returns : goal.returns
returns c = names_below_is c.self.inside.root.routes _ _ _ c.self.view_is c.self.invariant.prefixes c.names.ensures
