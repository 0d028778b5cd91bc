use Rattle.std.specs.Prelude.{◌^◌, ◌-◌}
use Rattle.common_types.specs.Numerals.{number_in}
use Rattle.http_link.specs.OperatorDoor.{operator_wanted_at}
use Rattle.service.specs.Operating.{told_at}
use Rattle.service.proofs.Operated.{operator_answered, stated}
use Rattle.service.proofs.operators.answering.Operators.answer.Goals as goal

pub returns-clause-told : goal.returns-clause-told
returns-clause-told g c =
    let told = c.told_to_operator-told.ensures in
    operator_answered g.J.Run.openings (g.C.Clock.gives c.args.self.now.clock.now) c.args.self.now.office.now (operator_wanted_at c.args.wanted.now) c.args.topic
    (λ text. text.items) c.told_to_operator-told.result c.keep.result (told_at c.keep.new.self.told c.keep.new.self.desk) told.unknown told.refused told.setup told.metrics told.explain
    (λ tenant known is right. stated (number_in 0 (2 ^ 64 - 1) c.args.wanted.now.words.now) _ c.told_to_operator-told.result (told.statement tenant known is right))
    c.keep.ensures.kept
