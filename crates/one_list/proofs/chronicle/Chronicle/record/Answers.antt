use Rattle.std.proofs.Common.{◌≡◌, sym, ap, ◌∙◌, true, [], ◌∷◌, ◌++◌, List}
use Rattle.atomic_table.specs.Table.{Me}
use Rattle.tenant_core.specs.Journals.{Recorded}
use Rattle.one_list.specs.declared.rule.Claim.{Claim}
use Rattle.one_list.specs.Parts.{met_in, claimed_steps, worker_part_of}
use Rattle.one_list.specs.Rules.{claim}
use Rattle.one_list.specs.Steps.{done_last, worked}
use Rattle.one_list.proofs.Gathered.{seated, claimed, claimed_met}
use Rattle.one_list.proofs.chronicle.Chronicle.record.Goals as goal
use Rattle.one_list.proofs.chronicle.Chronicle.record.Given.{Over}

pub add-mine-requires-clause-mine : goal.add-mine-requires-clause-mine
add-mine-requires-clause-mine g c =
    let s = c.into_seat-mine.ensures in
    (claimed_steps c.tenant.inside.pass.views, seated (sym s.2 ∙ (ap (λ b. b.views) c.replace.ensures.value ∙ c.tenant.invariant.claims)) s.3)

pub add-mine-requires-clause-theirs : goal.add-mine-requires-clause-theirs
add-mine-requires-clause-theirs g c =
    let s = c.into_seat-theirs.ensures in
    (claimed_steps c.worker.inside.pass.views, met_in c.worker.inside.pass.views, seated (sym s.2 ∙ (ap (λ b. b.views) c.replace-2.ensures.value ∙ c.worker.invariant.claims)) s.3)

pub invariant_of-tenant : goal.invariant_of-tenant
invariant_of-tenant g c =
    let i = c.tenant.invariant in
    let s = c.into_seat-mine.ensures in
    let me = seated (sym s.2 ∙ (ap (λ b. b.views) c.replace.ensures.value ∙ i.claims)) s.3 in
    let p = c.add-mine.ensures.mine (claimed_steps c.tenant.inside.pass.views) me in
    let b = c.into_badge.ensures in
    let now = b.2 ∙ ap (λ (m : Me Recorded (List Claim)). m.0 ∷ []) p in
    record { below = i.below; same_table = b.0 ∙ c.add-mine.ensures.tables.0; claims = claimed now }

-- what the worker's badge claims in the end
claims : (g : Over) (c : goal.After-drop-worker-inside g) → c.into_badge-2.result.views
    ≡ (claim true c.worker.inside.number (claimed_steps c.worker.inside.pass.views ++ done_last c.worker.inside.number c.tenant.inside.number c.args.period c.args.journal.now.records)
    (met_in c.worker.inside.pass.views) ∷ []) ∷ []
claims g c =
    let s = c.into_seat-theirs.ensures in
    let me = seated (sym s.2 ∙ (ap (λ b. b.views) c.replace-2.ensures.value ∙ c.worker.invariant.claims)) s.3 in
    c.into_badge-2.ensures.2
    ∙ ap (λ (m : Me Recorded (List Claim)). m.0 ∷ []) (c.add-mine.ensures.theirs (claimed_steps c.worker.inside.pass.views) (met_in c.worker.inside.pass.views) me)

pub invariant_of-worker : goal.invariant_of-worker
invariant_of-worker g c =
    record {
      below = c.worker.invariant.below;
      same_table = c.into_badge-2.ensures.0 ∙ c.add-mine.ensures.tables.1;
      claims = claimed_met (claims g c);
    }

pub returns-clause-worker : goal.returns-clause-worker
returns-clause-worker g c =
    ap (λ (vs : List (List Claim)). worker_part_of c.worker.inside.number vs) (claims g c)
    ∙ (λ i. worked (c.worker.view_is i) (done_last (c.worker.view_is i).number (c.tenant.view_is i).number c.args.period c.args.journal.now.records))
