use Rattle.std.proofs.Common.{sym, ◌∙◌}
use Rattle.ilp_view.proofs.FieldLaws.{same_ok}
use Rattle.ilp_view.proofs.PrepareLaws.{prepare_again}
use Rattle.ilp_view.proofs.AnswerLaws.{fulfill_again, reject_again}
use Rattle.ilp_view.proofs.laws.parts_are_the_only_ones.Goals as goal

pub returns-clause-prepares : goal.returns-clause-prepares
returns-clause-prepares c = λ frame p q first second. same_ok p q (sym (prepare_again c.laws_below.ensures frame p first) ∙ prepare_again c.laws_below.ensures frame q second)

pub returns-clause-fulfills : goal.returns-clause-fulfills
returns-clause-fulfills c = λ frame p q first second. same_ok p q (sym (fulfill_again c.laws_below.ensures frame p first) ∙ fulfill_again c.laws_below.ensures frame q second)

pub returns-clause-rejects : goal.returns-clause-rejects
returns-clause-rejects c = λ frame p q first second. same_ok p q (sym (reject_again c.laws_below.ensures frame p first) ∙ reject_again c.laws_below.ensures frame q second)
