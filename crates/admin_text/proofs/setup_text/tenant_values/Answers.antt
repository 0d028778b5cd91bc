use Rattle.admin_text.specs.Told.{TellsTenant}
use Rattle.admin_text.proofs.TellsTenants.{told_more}
use Rattle.admin_text.proofs.setup_text.tenant_values.Goals as goal

pub loop-tenant-preserved : goal.loop-tenant-preserved
loop-tenant-preserved c =
    told_more TellsTenant c.loop-tenant.values.items c.push.new.self.items c.args.tenants.now c.loop-tenant.tenant-index c.tenant-item.result c.in_ok-tenant_value.field-0 c.loop-tenant.invariant c.loop-tenant-test.true c.tenant-item.is
    c.in_ok-tenant_value.ensures c.in_ok-push.ensures.items
