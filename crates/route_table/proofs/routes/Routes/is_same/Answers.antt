use Rattle.std.proofs.Common.{sym}
use Rattle.route_table.proofs.Included.{same_routes_from, within_from}
use Rattle.route_table.proofs.routes.Routes.is_same.Goals as goal

pub returns-then-is_within : goal.returns-then-is_within
returns-then-is_within c = (
  λ yes. same_routes_from c.self.inside.root.routes c.other.inside.root.routes _ _ c.self.view_is c.other.view_is (c.is_within.ensures.0 c.if-is_within.true) (c.is_within-then-is_within.ensures.0 yes),
  λ same. c.is_within-then-is_within.ensures.1
      (within_from c.other.inside.root.routes c.self.inside.root.routes _ _ c.other.view_is c.self.view_is c.other.invariant.prefixes c.self.invariant.prefixes (sym same)),
)

pub returns-else-is_within : goal.returns-else-is_within
returns-else-is_within c = (
  λ yes. absurd cc,
  λ same. c.is_within.ensures.1
      (within_from c.self.inside.root.routes c.other.inside.root.routes _ _ c.self.view_is c.other.view_is c.self.invariant.prefixes c.other.invariant.prefixes same),
)
