use Rattle.std.proofs.Common.{ap, ◌∙◌}
use Rattle.tenant_core.specs.Following.{charged}
use Rattle.rate_bucket.specs.Running.{left_by}
use Rattle.tenant_core.proofs.ChangedLists.{set-changed_by}
use Rattle.tenant_core.proofs.running.charge.Goals as goal

pub returns : goal.returns
returns c =
    set-changed_by (charged c.args.clock) c.args.buckets.now.items c.args.place c.index_mut.result.now c.admit.new.self c.requires.inside c.index_mut.ensures.value
    (c.admit.ensures.left ∙ ap (λ b. left_by b c.args.clock c.index_mut.result.now) c.admit.ensures.level)
