use Rattle.std.proofs.Common.{◌≡◌}
use Rattle.service.specs.Auditing.{HaveRolled}
use Rattle.service.specs.Journal.{in_office}
use Rattle.service.proofs.running.auditing.roll_below.Given as goal

abbrev pub invariant-loop-tenant : goal.invariant-loop-tenant
invariant-loop-tenant g l = record {
  rolled : HaveRolled (in_office (g.C.Clock.gives l.fn.system.clock.now) l.fn.office) l.tenant
      (record { share = l.fn.share; closed = l.fn.periods.items }) (record { share = l.share; closed = l.periods.items });
  seat : l.seat.meters ≡ l.fn.meters.id;
}
