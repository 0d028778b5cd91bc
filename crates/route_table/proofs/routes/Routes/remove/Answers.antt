use Rattle.std.proofs.Common.{◌≡◌, ap, sym, ◌∙◌, arith, true}
use Rattle.std.specs.Prelude.{is_some}
use Rattle.std.specs.FinMap.{contains_key}
use Rattle.route_table.proofs.Rekeyed.{some_kept, kept_less, routes_less, ok_gives}
use Rattle.route_table.proofs.routes.Routes.remove.Goals as goal

pub overflow_sub-self : goal.overflow_sub-self
overflow_sub-self c =
    let present : contains_key c.args.self.now c.args.prefix.now ≡ true = sym (ap is_some c.hop_of.ensures) ∙ c.if-is_none.ensures in
    omega (arith, some_kept _ c.args.self.now c.args.prefix.now _ c.self.view_is c.self.invariant present)

pub invariant_of-self-2 : goal.invariant_of-self-2
invariant_of-self-2 c =
    let present : contains_key c.args.self.now c.args.prefix.now ≡ true = sym (ap is_some c.hop_of.ensures) ∙ c.if-is_none.ensures in
    kept_less _ _ c.args.self.now c.args.prefix.now _ _ c.self.view_is c.self.invariant c.segments.ensures (ok_gives c.remove.result _ c.if-is_err.ensures.negation c.remove.ensures.removed) present

pub returns-clause-removed : goal.returns-clause-removed
returns-clause-removed c = routes_less _ _ c.args.self.now c.args.prefix.now _ c.self.view_is c.self.invariant.prefixes c.segments.ensures
    (ok_gives c.remove.result _ c.if-is_err.ensures.negation c.remove.ensures.removed)
