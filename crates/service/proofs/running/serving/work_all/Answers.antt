use Rattle.std.proofs.Common.{◌<◌, length, rules, slice_index_or, subst}
use Rattle.service.specs.Answering.{HasServed}
use denote.Param.{param}
use denote.Param.Send.{IsSend, sendable}
use denote.Ref.{NamedLft}
use Rattle.service.specs.contracts.filing.scribe.Scribe as Scribe
use Rattle.service.specs.contracts.host.callers.Porter as Porter
use Rattle.service.specs.contracts.operators.answering.Operators as Operators
use Rattle.service.specs.contracts.worker.Worker as Worker
use Rattle.service.proofs.Repeating.{kept_beside, kept_by_all, operated_beside, stays_there}
use Rattle.service.proofs.Sending.{office_sync, operators_send, porter_send, scribe_send, worker_send}
use Rattle.service.proofs.running.serving.work_all.Goals as goal

pub run_beside-requires-send-W : goal.run_beside-requires-send-W
run_beside-requires-send-W g c κs within =
    let office = office_sync (param 0 g.row.J) g.J.Run c.books_are_shared.ensures c.meters_are_shared.ensures.shared c.networks_cross.ensures c.journals_are_shared.ensures in
    let seat = c.meters_are_shared.ensures.sent in
    let lane : (κ : NamedLft) → IsSend (Worker.the_row κ (param 1 g.row.H) (param 2 g.row.C) (param 0 g.row.J) g.J.Run)
    = λ κ. worker_send κ (param 1 g.row.H) (param 2 g.row.C) (param 0 g.row.J) g.J.Run c.type_bounds.sync-H c.type_bounds.sync-C office
    c.networks_cross.ensures seat in
    search (sendable, lane) depth 60

pub run_beside-requires-send-B : goal.run_beside-requires-send-B
run_beside-requires-send-B g c κs within =
    let office = office_sync (param 0 g.row.J) g.J.Run c.books_are_shared.ensures c.meters_are_shared.ensures.shared c.networks_cross.ensures c.journals_are_shared.ensures in
    let seat = c.meters_are_shared.ensures.sent in
    let operators : (κ : NamedLft) → IsSend (Operators.the_row κ (param 1 g.row.H) (param 2 g.row.C) (param 0 g.row.J) g.J.Run)
    = λ κ. operators_send κ (param 1 g.row.H) (param 2 g.row.C) (param 0 g.row.J) g.J.Run c.type_bounds.sync-H c.type_bounds.sync-C office c.networks_cross.ensures seat in
    let porter : (κ μ : NamedLft) → IsSend (Porter.the_row κ (param 1 g.row.H) (Operators.the_row μ (param 1 g.row.H) (param 2 g.row.C) (param 0 g.row.J) g.J.Run))
    = λ κ μ. porter_send κ (param 1 g.row.H) (Operators.the_row μ (param 1 g.row.H) (param 2 g.row.C) (param 0 g.row.J) g.J.Run) c.type_bounds.sync-H (operators μ) in
    search (sendable, porter) depth 60

pub run_beside-requires-send-C : goal.run_beside-requires-send-C
run_beside-requires-send-C g c κs within =
    let office = office_sync (param 0 g.row.J) g.J.Run c.books_are_shared.ensures c.meters_are_shared.ensures.shared c.networks_cross.ensures c.journals_are_shared.ensures in
    let scribe : (κ : NamedLft) → IsSend (Scribe.the_row κ (param 1 g.row.H) (param 0 g.row.J) g.J.Run)
    = λ κ. scribe_send κ (param 1 g.row.H) (param 0 g.row.J) g.J.Run c.type_bounds.sync-H office c.networks_cross.ensures in
    search (sendable, scribe) depth 60

pub returns-in-Ok-clause-worked : goal.returns-in-Ok-clause-worked
returns-in-Ok-clause-worked g c k d below =
    let within : k < length c.args.lanes.now = search rules in
    let works = c.in-Ok.ensures.ok k d within in
    record {
      new = (slice_index_or c.args.lanes.now k d).desk;
      is_new = c.requires.new k d within;
      served = subst (λ clock. HasServed (g.C.Clock.gives clock) c.args.office.now (slice_index_or c.args.lanes.now k d).desk
          (slice_index_or c.run_beside.new.lanes k d).desk) (c.requires.clock k d within)
          (subst (λ office. HasServed (g.C.Clock.gives (slice_index_or c.args.lanes.now k d).clock.now) office (slice_index_or c.args.lanes.now k d).desk
          (slice_index_or c.run_beside.new.lanes k d).desk) (c.requires.office k d within) works.1);
    }

pub returns-in-Ok-clause-host : goal.returns-in-Ok-clause-host
returns-in-Ok-clause-host g c =
    kept_beside (λ porter. porter.answering.seat) _ (λ a b all. kept_by_all (λ host. host.seat) _ (λ h k step. step) a.answering b.answering all) c.args.host.now c.run_beside.new.one c.run_beside.ensures.one

pub returns-in-Ok-clause-operated : goal.returns-in-Ok-clause-operated
returns-in-Ok-clause-operated g c =
    operated_beside (λ o. o.office) (λ r. r.now) (λ o. o.clock) (λ k. k.now) g.C.Clock.gives (λ o. o.desk) (λ porter. porter.answering) c.args.office.now c.args.system.now.clock.now
    c.args.operators.now c.run_beside.new.other c.run_beside.ensures.other c.requires.seated

pub returns-in-Ok-clause-seated : goal.returns-in-Ok-clause-seated
returns-in-Ok-clause-seated g c =
    stays_there (λ o. o.office) (λ r. r.now) (λ o. o.clock) (λ k. k.now) g.C.Clock.gives (λ o. o.desk) (λ porter. porter.answering) c.args.office.now c.args.system.now.clock.now
    c.args.operators.now c.run_beside.new.other c.run_beside.ensures.other c.requires.seated

pub returns-in-Err-clause-host : goal.returns-in-Err-clause-host
returns-in-Err-clause-host g c =
    kept_beside (λ porter. porter.answering.seat) _ (λ a b all. kept_by_all (λ host. host.seat) _ (λ h k step. step) a.answering b.answering all) c.args.host.now c.run_beside.new.one c.run_beside.ensures.one

pub returns-in-Err-clause-operated : goal.returns-in-Err-clause-operated
returns-in-Err-clause-operated g c =
    operated_beside (λ o. o.office) (λ r. r.now) (λ o. o.clock) (λ k. k.now) g.C.Clock.gives (λ o. o.desk) (λ porter. porter.answering) c.args.office.now c.args.system.now.clock.now
    c.args.operators.now c.run_beside.new.other c.run_beside.ensures.other c.requires.seated

pub returns-in-Err-clause-seated : goal.returns-in-Err-clause-seated
returns-in-Err-clause-seated g c =
    stays_there (λ o. o.office) (λ r. r.now) (λ o. o.clock) (λ k. k.now) g.C.Clock.gives (λ o. o.desk) (λ porter. porter.answering) c.args.office.now c.args.system.now.clock.now
    c.args.operators.now c.run_beside.new.other c.run_beside.ensures.other c.requires.seated
