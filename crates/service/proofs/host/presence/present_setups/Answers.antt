use Rattle.std.proofs.Common.{◌≡◌, Some, slice_get, length, rules, subst}
use Rattle.service.specs.Presence.{IsPresent}
use Rattle.service.proofs.Presents.{each_next}
use Rattle.service.proofs.host.presence.present_setups.Goals as goal

pub loop-tenant-preserved : goal.loop-tenant-preserved
loop-tenant-preserved g c =
    let many : c.loop-tenant.tenant ≡ length c.loop-tenant.setups.items = search rules in
    record {
      count = search rules;
      room = search rules;
      each = λ tenant setup at.
          each_next (IsPresent g.J.Run.openings c.args.office.now) c.loop-tenant.setups.items c.in_ok-present_setup.field-0
          c.loop-tenant.invariant.each
          (subst (λ n. IsPresent g.J.Run.openings c.args.office.now n c.in_ok-present_setup.field-0) many c.in_ok-present_setup.ensures)
          tenant setup (subst (λ xs. slice_get xs tenant ≡ Some setup) c.push_reserved.ensures.items at);
    }
