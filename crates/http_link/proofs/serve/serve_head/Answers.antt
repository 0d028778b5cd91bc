use Rattle.std.proofs.Common.{refl}
use Rattle.http_link.specs.Lines.{head_at}
use Rattle.http_link.specs.Requests.{wanted_of}
use Rattle.http_link.specs.StreamCalls.{held_of, to_come}
use Rattle.http_link.proofs.Serving.{refused_runs, told_asks, told_cut, told_runs, wanted_asks, wanted_cut, wanted_runs}
use Rattle.http_link.proofs.serve.serve_head.Goals as goal

pub returns-in-Ok-clause-runs : goal.returns-in-Ok-clause-runs
returns-in-Ok-clause-runs g c =
    told_runs c.serve_wanted.result (g.S.Service.tenant_of c.args.service.now) _ _ _ _ _ _ _ _ _ _ _ _ c.head_in-head.ensures refl refl (wanted_runs _ _ _ _ _ _ _ _ c.in-Ok.ensures.value c.serve_wanted.ensures.runs)

pub returns-in-Ok-clause-asks : goal.returns-in-Ok-clause-asks
returns-in-Ok-clause-asks g c =
    told_asks (g.S.Service.tenant_of c.args.service.now) _ _ _ _ _ _ _ _ c.head_in-head.ensures refl (wanted_asks _ _ _ _ _ _ _ c.in-Ok.ensures.value c.serve_wanted.ensures.asks)

pub returns-in-Err-clause-runs : goal.returns-in-Err-clause-runs
returns-in-Err-clause-runs g c =
    told_runs c.refuse.result (g.S.Service.tenant_of c.args.service.now) _ _ _ _ _ _ _ _ _ _ _ _ c.head_in-head.ensures refl refl
    (refused_runs c.refuse.result (wanted_of (g.S.Service.tenant_of c.args.service.now) (head_at c.head_in-head.result)) c.in-Err.status (head_at c.head_in-head.result)
    (held_of c.args.stream.now) (to_come c.args.stream.now) _ c.in-Err.ensures.value refl refl c.refuse.ensures.refused)

pub returns-in-Ok-clause-at_once : goal.returns-in-Ok-clause-at_once
returns-in-Ok-clause-at_once g c =
    told_cut _ _ (g.S.Service.tenant_of c.args.service.now) _ _ _ _ c.head_in-head.ensures refl (wanted_cut _ _ _ _ _ c.in-Ok.ensures.value c.serve_wanted.ensures.at_once)
