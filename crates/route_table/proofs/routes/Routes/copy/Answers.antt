use Rattle.std.proofs.Common.{ap, sym, subst, ◌∙◌}
use Rattle.route_table.specs.Kept.{routes_of, RoutesInvariant}
use Rattle.route_table.specs.Nodes.{Branch}
use Rattle.route_table.proofs.routes.Routes.copy.Goals as goal

pub invariant_of-result : goal.invariant_of-result
invariant_of-result c = subst (λ (b : Branch). RoutesInvariant b.routes c.self.inside.count) (sym c.in_ok-root.ensures) c.self.invariant

pub returns : goal.returns
returns c = ap (λ (b : Branch). routes_of b.routes) c.in_ok-root.ensures ∙ c.self.view_is
