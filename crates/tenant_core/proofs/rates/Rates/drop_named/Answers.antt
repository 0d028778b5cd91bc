use Rattle.std.proofs.Common.{rules, ◌≡◌, false, ap, sym, ◌∙◌}
use Rattle.std.specs.List.{list_any}
use Rattle.tenant_core.specs.Network.{names_peer}
use Rattle.tenant_core.specs.Rates.{rates_without}
use Rattle.tenant_core.proofs.Pairs.{none_dropped}
use Rattle.tenant_core.proofs.rates.Rates.drop_named.Goals as goal

pub returns-then-not-names-clause-dropped : goal.returns-then-not-names-clause-dropped
returns-then-not-names-clause-dropped c =
    let none : list_any (names_peer c.args.number) c.in-Some.list.value ≡ false =
    sym (c.names.ensures ∙ ap (list_any (names_peer c.args.number)) c.deref.ensures) ∙ c.if-not-names.true in
    let same : c.in-Some.list.value ≡ c.args.self.now = search rules in
    sym (none_dropped c.args.number c.in-Some.list.value none) ∙ ap (rates_without c.args.number) same
