use Rattle.std.proofs.Common.{rules}
use Rattle.service.proofs.Audits.{rolled_next}
use Rattle.service.proofs.running.auditing.roll_below.Goals as goal

pub loop-tenant-preserved : goal.loop-tenant-preserved
loop-tenant-preserved g c = record {
  rolled = rolled_next _ _ _ _ _ c.loop-tenant.invariant.rolled c.in_ok-roll.ensures.rolled;
  seat = search rules;
}
