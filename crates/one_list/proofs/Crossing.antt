-- Threads may share a list, and a part may go from one to another. The rules that are cited are those of tables and passes,
-- and those that rattle writes for each type.
use denote.RattleType.{RattleType}
use denote.Param.Send.{IsSend, IsSync, sendable}
use Rattle.std.proofs.Crossing as std
use Rattle.atomic_table.proofs.badge.Badge.TheSendSync as of_badge
use Rattle.atomic_table.proofs.shared.Shared.TheSendSync as of_shared
use Rattle.atomic_table.proofs.send_lease.SendLease.TheSendSync as of_lease
use Rattle.tenant_core.proofs.arena.Small.TheSendSync as of_small
use Rattle.tenant_core.specs.contracts.arena.Journal as Journal
use Rattle.one_list.specs.declared.run.Run.{Ghosts}
use Rattle.one_list.specs.contracts.chronicle.Chronicle as Chronicle
use Rattle.one_list.specs.contracts.parts.TenantPart as TenantPart
use Rattle.one_list.specs.contracts.parts.WorkerPart as WorkerPart

pub journal_send : IsSend Journal.the_row
journal_send = search (sendable, std.crosses, of_small.the_send) depth 40

pub chronicle_sync : (J : RattleType) (g : Ghosts J.Denot) → IsSync (Chronicle.the_row J g)
chronicle_sync J g = search (sendable, std.crosses, of_shared.the_sync, of_lease.the_sync, journal_send) depth 40

pub tenant_part_send : (J : RattleType) (g : Ghosts J.Denot) → IsSend (TenantPart.the_row J g)
tenant_part_send J g = search (sendable, std.crosses, of_badge.the_send) depth 40

pub worker_part_send : (J : RattleType) (g : Ghosts J.Denot) → IsSend (WorkerPart.the_row J g)
worker_part_send J g = search (sendable, std.crosses, of_badge.the_send) depth 40
