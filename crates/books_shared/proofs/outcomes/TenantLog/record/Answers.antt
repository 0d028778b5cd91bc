use Rattle.std.proofs.Common.{◌++◌, List, ap, subst, sym, rules}
use Rattle.tenant_core.specs.Journals.{last_of}
use Rattle.one_list.specs.Steps.{PartView, done_last, last_place}
use Rattle.one_list.specs.declared.step.Done.{Done}
use Rattle.books_shared.specs.Outcomes.{AreCounted}
use Rattle.books_shared.specs.declared.outcomes.PacketCounts.{PacketCounts}
use Rattle.books_shared.proofs.Recounting.{record_steps_counted}
use Rattle.books_shared.proofs.outcomes.TenantLog.record.Goals as goal

pub invariant_of-self : goal.invariant_of-self
invariant_of-self g c =
    let worker = c.args.worker.now.number in
    let part : PartView = c.self.inside.part in
    let steps : List Done = part.steps ++ done_last worker part.number c.args.period c.args.journal.now.records in
    subst (λ (all : List Done). AreCounted c.count_last.new.self all)
    (sym (ap (λ (p : PartView). p.steps) c.record.ensures.tenant))
    (subst (λ (packets : PacketCounts). AreCounted packets steps)
    (sym c.count_last.ensures)
    (record_steps_counted c.self.inside.packets part.steps worker
    (last_place part.number c.args.period c.args.journal.now.records) (last_of c.args.journal.now.records)
    (λ o. search rules) c.self.invariant))
