use Rattle.service.specs.Operating.{told_at}
use Rattle.service.proofs.Commanded.{visited_there}
use Rattle.service.proofs.operators.answering.OperatorsAnswering.serve_connection.Goals as goal

pub returns : goal.returns
returns g c =
    visited_there (λ o. o.office) (λ r. r.now) (λ o. o.clock) (λ k. g.C.Clock.gives k.now) (λ o. o.desk) (λ o. told_at o.told o.desk) c.args.self.now c.serve_operator.new.service _ _ c.serve_operator.ensures.asked_once
