use Rattle.std.proofs.Common.{◌≡◌, ℕ, [], ◌∷◌, ◌++◌, true, false, sym, ap, ◌∙◌}
use Rattle.statements.specs.Fees.{goes_on}
use Rattle.statements.proofs.FeeSteps.{charged_then, charged_else}
use Rattle.statements.proofs.checked.Course.follow.Goals as goal
use Rattle.statements.proofs.checked.Course.follow.Goals.{then-goes_on+in_ok-push, else-goes_on}

pub returns : goal.returns
returns c = λ yes charged.
    elim c.if-goes_on.branch [
      | then-goes_on+in_ok-push w ↦
          let goes : goes_on c.in-Some-2.outcome ≡ true = sym c.goes_on.ensures ∙ w.if-goes_on.true in
          rw w.self-is (w.in_ok-push.ensures.items
          ∙ (ap (λ (n : ℕ). c.args.self.now.fees.items ++ n ∷ []) c.in-Some.ensures
          ∙ charged_then c.args.self.now.book c.follow.new.self c.args.entry.now c.in_ok-outcome.field-0 c.in-Some-2.outcome _
          c.in_ok-outcome.ensures.followed c.in-Some-2.is goes charged))
      | else-goes_on w ↦
          let stays : goes_on c.in-Some-2.outcome ≡ false = sym c.goes_on.ensures ∙ w.if-goes_on.false in
          rw w.self-is (charged_else c.args.self.now.book c.follow.new.self c.args.entry.now c.in_ok-outcome.field-0
          c.in-Some-2.outcome _ c.in_ok-outcome.ensures.followed c.in-Some-2.is stays charged)
    ]
