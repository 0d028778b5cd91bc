use Rattle.std.proofs.Common.{rules, ◌≡◌, ◌-◌, length, ap, ◌∙◌}
use Rattle.std.specs.List.{slice_get}
use Rattle.tenant_core.proofs.Lasts.{last_at}
use Rattle.tenant_core.proofs.arena.Journal.last.Goals as goal

pub returns-clause-value : goal.returns-clause-value
returns-clause-value c =
    let place : c.in_ok-checked_sub.field-0 ≡ length c.args.self.now.records - 1 = search rules in
    c.get.ensures.value ∙ (ap (slice_get c.args.self.now.records) place ∙ last_at c.args.self.now.records)
