use Rattle.admin_text.specs.IgnoredKeys.{seen}
use Rattle.admin_text.proofs.IgnoredWalks.{tenants_end, tenants_step}
use Rattle.admin_text.proofs.ignored.put_tenants.Goals as goal

pub loop-number-preserved : goal.loop-number-preserved
loop-number-preserved c =
    tenants_step c.args.version c.args.values.now c.loop-number.number c.index-values-number.result (seen c.loop-number.found.items) (seen c.put_tenant_in.new.found.items) _ c.loop-number-test.true c.index-values-number.is c.in_ok-put_tenant_in.ensures c.loop-number.invariant

pub returns : goal.returns
returns c = tenants_end c.args.version c.args.values.now c.loop-number.number (seen c.loop-number.found.items) _ c.loop-number-test.false c.loop-number.invariant
