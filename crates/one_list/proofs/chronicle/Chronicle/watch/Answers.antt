use Rattle.std.proofs.Common.{◌≡◌, sym, ap, ◌∙◌, true, false, [], ◌∷◌, ◌++◌, List, subst}
use Rattle.std.specs.Prelude.{All}
use Rattle.atomic_table.specs.Table.{Me}
use Rattle.tenant_core.specs.Journals.{Recorded}
use Rattle.one_list.specs.declared.rule.Claim.{Claim}
use Rattle.one_list.specs.declared.step.Beginning.{Beginning}
use Rattle.one_list.specs.Parts.{met_in, claimed_steps}
use Rattle.one_list.specs.Rules.{claim, watching}
use Rattle.one_list.specs.Steps.{GoesOnFrom, PartView}
use Rattle.one_list.proofs.Gathered.{seated}
use Rattle.one_list.proofs.chronicle.Chronicle.watch.Goals as goal
use Rattle.one_list.proofs.chronicle.Chronicle.watch.Given.{Over}

pub introduce-mine-requires-clause-mine : goal.introduce-mine-requires-clause-mine
introduce-mine-requires-clause-mine g c =
    let s = c.into_seat-mine.ensures in
    (claimed_steps c.tenant.inside.pass.views, seated (sym s.2 ∙ (ap (λ b. b.views) c.replace.ensures.value ∙ c.tenant.invariant.claims)) s.3)

pub introduce-mine-requires-clause-theirs : goal.introduce-mine-requires-clause-theirs
introduce-mine-requires-clause-theirs g c =
    let s = c.into_seat-theirs.ensures in
    (g.J.Run.size.workers, [], met_in c.watcher.inside.pass.views, seated (sym s.2 ∙ (ap (λ b. b.views) c.replace-2.ensures.value ∙ c.watcher.invariant.claims)) s.3)

-- the passes as they were handed to be put together
mine : (g : Over) (c : goal.After-drop-watcher-inside g) → c.into_seat-mine.result.me ≡ (claim false c.tenant.inside.number (claimed_steps c.tenant.inside.pass.views) [] ∷ [], [])
mine g c = seated (sym c.into_seat-mine.ensures.2 ∙ (ap (λ b. b.views) c.replace.ensures.value ∙ c.tenant.invariant.claims)) c.into_seat-mine.ensures.3

theirs : (g : Over) (c : goal.After-drop-watcher-inside g)
    → c.into_seat-theirs.result.me ≡ (claim true g.J.Run.size.workers [] (met_in c.watcher.inside.pass.views) ∷ [], [])
theirs g c = seated (sym c.into_seat-theirs.ensures.2 ∙ (ap (λ b. b.views) c.replace-2.ensures.value ∙ c.watcher.invariant.claims)) c.into_seat-theirs.ensures.3

-- what the watcher's badge claims in the end
claims : (g : Over) (c : goal.After-drop-watcher-inside g) → c.into_badge-2.result.views
    ≡ watching g.J.Run.size (met_in c.watcher.inside.pass.views ++ record { tenant = c.tenant.inside.number; steps = claimed_steps c.tenant.inside.pass.views } ∷ []) ∷ []
claims g c =
    c.into_badge-2.ensures.2
    ∙ ap (λ (m : Me Recorded (List Claim)). m.0 ∷ [])
    (c.introduce-mine.ensures.theirs g.J.Run.size.workers (claimed_steps c.tenant.inside.pass.views) [] (met_in c.watcher.inside.pass.views) (mine g c) (theirs g c))

pub invariant_of-watcher : goal.invariant_of-watcher
invariant_of-watcher g c =
    record {
      same_table = c.into_badge-2.ensures.0 ∙ c.introduce-mine.ensures.tables.1;
      claims = claims g c ∙ ap (λ (met : List Beginning). watching g.J.Run.size met ∷ []) (sym (ap met_in (claims g c)));
    }

pub returns-clause-watcher : goal.returns-clause-watcher
returns-clause-watcher g c =
    ap met_in (claims g c)
    ∙ (λ i. c.watcher.view_is i ++ record { tenant = (c.tenant.view_is i).number; steps = (c.tenant.view_is i).steps } ∷ [])

pub returns-clause-goes_on : goal.returns-clause-goes_on
returns-clause-goes_on g c =
    subst (λ (met : List Beginning). All (GoesOnFrom c.args.tenant.now.number c.args.tenant.now.steps) met) c.watcher.view_is
    (subst (λ (t : PartView). All (GoesOnFrom t.number t.steps) (met_in c.watcher.inside.pass.views)) c.tenant.view_is
    (c.introduce-mine.ensures.goes_on g.J.Run.size.workers (claimed_steps c.tenant.inside.pass.views) [] (met_in c.watcher.inside.pass.views) (mine g c) (theirs g c)))
