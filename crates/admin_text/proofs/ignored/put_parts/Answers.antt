use Rattle.admin_text.specs.IgnoredKeys.{seen}
use Rattle.admin_text.proofs.IgnoredWalks.{parts_end, parts_step}
use Rattle.admin_text.proofs.ignored.put_parts.Goals as goal

pub loop-at-preserved : goal.loop-at-preserved
loop-at-preserved c =
    parts_step c.args.version c.args.tenant.number c.args.kind c.args.values.now c.loop-at.at c.index-values-at.result c.new-part.result.kind c.new-part.result.number (seen c.loop-at.found.items) (seen c.put_value.new.found.items) _ c.loop-at-test.true c.index-values-at.is c.new-part.ensures.kind
    c.new-part.ensures.number c.in_ok-put_value.ensures c.loop-at.invariant

pub returns : goal.returns
returns c =
    parts_end c.args.version c.args.tenant.number c.args.kind c.args.values.now c.loop-at.at (seen c.loop-at.found.items) _ c.loop-at-test.false c.loop-at.invariant
