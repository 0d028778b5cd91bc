use Rattle.std.proofs.Common.{◌≡◌, sym, ap, ◌∙◌, true, false, [], ◌∷◌, ◌++◌, List, subst}
use Rattle.atomic_table.specs.Table.{Me}
use Rattle.tenant_core.specs.Journals.{Recorded}
use Rattle.one_list.specs.declared.rule.Claim.{Claim}
use Rattle.one_list.specs.Parts.{met_in, claimed_steps, worker_part_of}
use Rattle.one_list.specs.Rules.{claim}
use Rattle.one_list.specs.Steps.{PartView, WorkerView, has_met, of_tenant, of_worker}
use Rattle.one_list.proofs.Gathered.{claimed_met, seated}
use Rattle.one_list.proofs.chronicle.Chronicle.meet.Goals as goal
use Rattle.one_list.proofs.chronicle.Chronicle.meet.Given.{Over}

pub introduce-mine-requires-clause-mine : goal.introduce-mine-requires-clause-mine
introduce-mine-requires-clause-mine g c =
    let s = c.into_seat-mine.ensures in
    (claimed_steps c.tenant.inside.pass.views, seated (sym s.2 ∙ (ap (λ b. b.views) c.replace.ensures.value ∙ c.tenant.invariant.claims)) s.3)

pub introduce-mine-requires-clause-theirs : goal.introduce-mine-requires-clause-theirs
introduce-mine-requires-clause-theirs g c =
    let s = c.into_seat-theirs.ensures in
    (c.worker.inside.number, claimed_steps c.worker.inside.pass.views, met_in c.worker.inside.pass.views, seated (sym s.2 ∙ (ap (λ b. b.views) c.replace-2.ensures.value ∙ c.worker.invariant.claims)) s.3)

-- the passes as they were handed to be put together
mine : (g : Over) (c : goal.After-drop-worker-inside g) → c.into_seat-mine.result.me ≡ (claim false c.tenant.inside.number (claimed_steps c.tenant.inside.pass.views) [] ∷ [], [])
mine g c = seated (sym c.into_seat-mine.ensures.2 ∙ (ap (λ b. b.views) c.replace.ensures.value ∙ c.tenant.invariant.claims)) c.into_seat-mine.ensures.3

theirs : (g : Over) (c : goal.After-drop-worker-inside g)
    → c.into_seat-theirs.result.me ≡ (claim true c.worker.inside.number (claimed_steps c.worker.inside.pass.views) (met_in c.worker.inside.pass.views) ∷ [], [])
theirs g c = seated (sym c.into_seat-theirs.ensures.2 ∙ (ap (λ b. b.views) c.replace-2.ensures.value ∙ c.worker.invariant.claims)) c.into_seat-theirs.ensures.3

-- what the worker's badge claims in the end
claims : (g : Over) (c : goal.After-drop-worker-inside g) → c.into_badge-2.result.views
    ≡ (claim true c.worker.inside.number (claimed_steps c.worker.inside.pass.views)
    (met_in c.worker.inside.pass.views ++ record { tenant = c.tenant.inside.number; steps = claimed_steps c.tenant.inside.pass.views } ∷ []) ∷ []) ∷ []
claims g c =
    c.into_badge-2.ensures.2
    ∙ ap (λ (m : Me Recorded (List Claim)). m.0 ∷ [])
    (c.introduce-mine.ensures.theirs c.worker.inside.number (claimed_steps c.tenant.inside.pass.views) (claimed_steps c.worker.inside.pass.views) (met_in c.worker.inside.pass.views) (mine g c) (theirs g c))

pub invariant_of-worker : goal.invariant_of-worker
invariant_of-worker g c =
    record {
      below = c.worker.invariant.below;
      same_table = c.into_badge-2.ensures.0 ∙ c.introduce-mine.ensures.tables.1;
      claims = claimed_met (claims g c);
    }

pub returns-clause-worker : goal.returns-clause-worker
returns-clause-worker g c =
    ap (λ (vs : List (List Claim)). worker_part_of c.worker.inside.number vs) (claims g c) ∙ (λ i. has_met (c.worker.view_is i) (c.tenant.view_is i))

pub returns-clause-shared : goal.returns-clause-shared
returns-clause-shared g c =
    subst (λ (p : WorkerView). of_worker p.number c.args.tenant.now.steps ≡ of_tenant c.args.tenant.now.number p.steps) c.worker.view_is
    (subst (λ (t : PartView). of_worker c.worker.inside.number t.steps ≡ of_tenant t.number (claimed_steps c.worker.inside.pass.views)) c.tenant.view_is
    (c.introduce-mine.ensures.shared c.worker.inside.number (claimed_steps c.tenant.inside.pass.views) (claimed_steps c.worker.inside.pass.views) (met_in c.worker.inside.pass.views) (mine g c) (theirs g c)))
