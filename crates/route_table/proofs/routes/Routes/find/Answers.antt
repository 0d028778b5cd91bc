use Rattle.std.proofs.Common.{sym, ap, ◌∙◌}
use Rattle.std.specs.FinMap.{get}
use Rattle.route_table.specs.Paths.{longest_at}
use Rattle.route_table.specs.Routes.{best_route}
use Rattle.route_table.proofs.BestAtPath.{best_is, found_best, none_best}
use Rattle.route_table.proofs.routes.Routes.find.Goals as goal

pub returns-clause-exact : goal.returns-clause-exact
returns-clause-exact c =
    c.find.ensures
    ∙ ap (longest_at (get c.self.inside.root.routes)) c.segments.ensures
    ∙ sym (best_is c.prefixes.ensures c.self.inside.root.routes c.args.destination.now c.self.invariant.prefixes)
    ∙ ap (λ routes. best_route routes c.args.destination.now) c.self.view_is

pub returns-clause-found : goal.returns-clause-found
returns-clause-found c = found_best c.prefixes.ensures _ c.args.destination.now _ (returns-clause-exact c)

pub returns-clause-none : goal.returns-clause-none
returns-clause-none c = none_best c.prefixes.ensures _ c.args.destination.now _ (returns-clause-exact c)
