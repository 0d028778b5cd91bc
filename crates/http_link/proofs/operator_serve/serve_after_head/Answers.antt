use Rattle.std.proofs.Common.{refl}
use Rattle.http_link.specs.Lines.{head_at}
use Rattle.http_link.specs.OperatorDoor.{admitted, operator_sought_of}
use Rattle.http_link.specs.StreamCalls.{to_come}
use Rattle.http_link.proofs.OperatorServing.{operator_refused, sought_asks, sought_runs}
use Rattle.http_link.proofs.operator_serve.serve_after_head.Goals as goal

pub returns-in-Ok-clause-runs : goal.returns-in-Ok-clause-runs
returns-in-Ok-clause-runs g c = sought_runs _ _ _ _ _ _ _ c.in-Ok.ensures.value c.serve_sought.ensures.runs

pub returns-in-Ok-clause-asks : goal.returns-in-Ok-clause-asks
returns-in-Ok-clause-asks g c = sought_asks _ _ _ _ _ _ c.in-Ok.ensures.value c.serve_sought.ensures.asks

pub returns-in-Err-clause-runs : goal.returns-in-Err-clause-runs
returns-in-Err-clause-runs g c =
    operator_refused c.refuse_operator.result (admitted (g.S.OperatorService.refusal c.args.service.now) (operator_sought_of (head_at c.args.head.now))) c.in-Err.refusal (head_at c.args.head.now)
    (to_come c.args.stream.now) _ c.in-Err.ensures.value refl refl c.refuse_operator.ensures.refused
