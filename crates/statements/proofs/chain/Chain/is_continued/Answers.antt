use Rattle.std.proofs.Common.{◌≡◌, false, inl, inr, sym, subst}
use Rattle.std.specs.Prelude.{IfOk}
use Rattle.statements.specs.Refused.{IsChanged}
use Rattle.statements.specs.declared.due.Due.{Due}
use Rattle.statements.proofs.chain.Chain.is_continued.Goals as goal

pub returns-in-Ending-clause-not : goal.returns-in-Ending-clause-not
returns-in-Ending-clause-not c =
    elim c.in-Ending.is [
      | inl is ↦ subst (λ (d : Due). IfOk c.has.result (λ has. has ≡ false → IsChanged d c.args.setup.now)) (sym is) c.has.ensures.not
      | inr is ↦ subst (λ (d : Due). IfOk c.has.result (λ has. has ≡ false → IsChanged d c.args.setup.now)) (sym is) c.has.ensures.not
    ]
