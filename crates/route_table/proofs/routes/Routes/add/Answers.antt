use Rattle.std.proofs.Common.{◌≡◌, ap, sym, ◌∙◌, arith, false}
use Rattle.std.specs.Prelude.{is_some}
use Rattle.std.specs.FinMap.{contains_key}
use Rattle.route_table.proofs.Rekeyed.{kept_more, routes_more, ok_gives}
use Rattle.route_table.proofs.routes.Routes.add.Goals as goal

pub invariant_of-self-2 : goal.invariant_of-self-2
invariant_of-self-2 c =
    let few = c.self.invariant.few in
    let absent : contains_key c.args.self.now c.args.prefix ≡ false = sym (ap is_some c.hop_of.ensures) ∙ sym c.if-is_some.ensures in
    kept_more _ _ c.args.self.now c.args.prefix _ c.args.hop _ c.bytes.ensures.prefix c.self.view_is c.self.invariant c.segments.ensures
    (ok_gives c.add.result _ c.if-is_err.ensures.negation c.add.ensures.added) absent (omega (arith, few, c.if-self-eq-MAX_ROUTES.false))

pub returns-clause-added : goal.returns-clause-added
returns-clause-added c =
    routes_more _ _ c.args.self.now c.args.prefix _ c.args.hop c.bytes.ensures.prefix c.self.view_is c.self.invariant.prefixes c.segments.ensures
    (ok_gives c.add.result _ c.if-is_err.ensures.negation c.add.ensures.added)
