use Rattle.std.proofs.lemmas.Result.{on_ok_weaker}
use Rattle.service.proofs.running.serving.serve.Goals as goal

pub returns : goal.returns
returns g c =
    on_ok_weaker c.serve_run.result (λ told. (c.in_ok-opened.opened.table, told)) c.serve_run.ensures
