use denote.Param.{param}
use Rattle.one_list.proofs.Crossing.{chronicle_sync, tenant_part_send, worker_part_send}
use Rattle.one_list.proofs.laws.chronicle_is_shared.Goals as goal

pub returns-clause-shared : goal.returns-clause-shared
returns-clause-shared g c = chronicle_sync (param 0 g.row.J) g.J.Run

pub returns-clause-tenants : goal.returns-clause-tenants
returns-clause-tenants g c = tenant_part_send (param 0 g.row.J) g.J.Run

pub returns-clause-workers : goal.returns-clause-workers
returns-clause-workers g c = worker_part_send (param 0 g.row.J) g.J.Run
