use Rattle.route_table.proofs.AllListed.{alone, are_spelled, all_listed, once_listed, few_listed}
use Rattle.route_table.proofs.routes.Routes.list.Goals as goal

pub returns-clause-all : goal.returns-clause-all
returns-clause-all c =
    all_listed c.self.inside.root.routes _ _ c.self.view_is (alone _ _ _ (c.in_ok-list.ensures (are_spelled _ c.self.invariant.prefixes)) c.in_ok-routes.ensures.items)

pub returns-clause-once : goal.returns-clause-once
returns-clause-once c =
    once_listed c.self.inside.root.routes _ c.self.invariant.prefixes (alone _ _ _ (c.in_ok-list.ensures (are_spelled _ c.self.invariant.prefixes)) c.in_ok-routes.ensures.items)

pub returns-clause-few : goal.returns-clause-few
returns-clause-few c =
    few_listed c.self.inside.root.routes _ _ c.self.invariant (alone _ _ _ (c.in_ok-list.ensures (are_spelled _ c.self.invariant.prefixes)) c.in_ok-routes.ensures.items)
