use Rattle.route_table.proofs.Rekeyed.{hop_of_prefix}
use Rattle.route_table.proofs.routes.Routes.hop_of.Goals as goal

pub returns : goal.returns
returns c = hop_of_prefix c.self.inside.root.routes _ _ _ _ c.self.view_is c.self.invariant.prefixes c.segments.ensures c.hop_at.ensures
