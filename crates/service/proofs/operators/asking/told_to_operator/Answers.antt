use Rattle.std.proofs.Common.{rules, ◌≡◌, subst, sym}
use Rattle.service.specs.Operating.{Explains}
use Rattle.service.specs.Questions.{question_in}
use Rattle.service.proofs.Desks.{same_desk}
use Rattle.service.proofs.operators.asking.told_to_operator.Goals as goal

pub returns-in_err-metrics-in-Metrics-clause-same :
    goal.returns-in_err-metrics-in-Metrics-clause-same
returns-in_err-metrics-in-Metrics-clause-same g c = same_desk c.args.desk.now c.metrics.new.seat _ _ (sym c.metrics.ensures.same)

pub returns-in_ok-metrics-in-Metrics-clause-same :
    goal.returns-in_ok-metrics-in-Metrics-clause-same
returns-in_ok-metrics-in-Metrics-clause-same g c = same_desk c.args.desk.now c.metrics.new.seat _ _ (sym c.metrics.ensures.same)

pub returns-in-Explain-clause-explain : goal.returns-in-Explain-clause-explain
returns-in-Explain-clause-explain g c tenant named about shown =
    let same : c.in-Some.tenant ≡ tenant = search rules in
    subst (λ n. Explains (question_in c.args.wanted.now.words.now) (λ question text. g.S.Operated.explains c.args.service.now n question text.items) c.explained.result)
    same c.explained.ensures.told
