use Rattle.std.proofs.Common.{◌≡◌, ◌∙◌, ℕ, ap, subst, sym, refl, inl, rules}
use Rattle.std.specs.Prelude.{Option}
use Rattle.workers.specs.Rolling.{is_ripe}
use Rattle.service.specs.Rolling.{IsTidied}
use Rattle.service.proofs.worker.desk.Desk.tidy.Goals as goal

pub returns-then-not-is_ripe-clause-tidied : goal.returns-then-not-is_ripe-clause-tidied
returns-then-not-is_ripe-clause-tidied g c =
    let book : c.book-2.result.now ≡ c.enter.result.state = search rules in
    subst (λ (at : Option ℕ). IsTidied (g.C.Clock.gives c.args.system.now.clock.now) at c.args.office.now c.args.self.now c.args.tenant c.args.self.now) (sym c.in-Some.is)
    (inl (record {
      book = c.enter.result.state;
      steps = c.enter.result.steps;
      own = c.enter.ensures.own;
      led = c.enter.ensures.led;
      unripe = ap (is_ripe c.in-Some.percent) (sym book) ∙ (sym c.is_ripe.ensures ∙ search);
      same = refl;
    }))
