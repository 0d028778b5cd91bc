use Rattle.std.proofs.Common.{ap, ◌∙◌, [], List, true, false}
use Rattle.atomic_table.specs.Table.{Me}
use Rattle.tenant_core.specs.Journals.{Recorded}
use Rattle.one_list.specs.declared.rule.Claim.{Claim}
use Rattle.one_list.specs.declared.step.Size.{Size}
use Rattle.one_list.specs.Parts.{OpenedView}
use Rattle.one_list.specs.Rules.{claims_of, first_view}
use Rattle.one_list.proofs.Moves.{tenants_of_first, workers_of_first}
use Rattle.one_list.proofs.opened.Opened.named.Goals as goal

pub new-requires-clause-tenants : goal.new-requires-clause-tenants
new-requires-clause-tenants g c =
    let size = ap (λ (o : OpenedView). o.size) c.self.view_is ∙ c.requires.size in
    c.workers-workers.ensures.rest
    ∙ (ap (λ (m : Me Recorded (List Claim)). (claims_of false m.0, m.1)) c.self.invariant.claims
    ∙ (ap (λ (z : Size). (claims_of false (first_view z), [])) size ∙ (λ k. (tenants_of_first g.J.Run.size k, []))))

pub new-requires-clause-workers : goal.new-requires-clause-workers
new-requires-clause-workers g c =
    let size = ap (λ (o : OpenedView). o.size) c.self.view_is ∙ c.requires.size in
    c.workers-workers.ensures.workers
    ∙ (ap (λ (m : Me Recorded (List Claim)). (claims_of true m.0, [])) c.self.invariant.claims
    ∙ (ap (λ (z : Size). (claims_of true (first_view z), [])) size ∙ (λ k. (workers_of_first g.J.Run.size k, []))))
