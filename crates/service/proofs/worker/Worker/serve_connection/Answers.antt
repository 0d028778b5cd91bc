use Rattle.service.proofs.Leading.{heard_served}
use Rattle.service.proofs.worker.Worker.serve_connection.Goals as goal

pub returns-clause-served : goal.returns-clause-served
returns-clause-served g c = heard_served _ _ _ _ _ _ _ c.converse.ensures.heard
