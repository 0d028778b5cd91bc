use Rattle.std.proofs.Common.{[], ◌∷◌, ◌++◌}
use Rattle.std.proofs.lemmas.List.Elements.{All-push, All-same}
use Rattle.book_log.specs.OneBase.{IsStart}
use Rattle.book_log.proofs.base.starts_in.Goals as goal

pub loop-tenant-preserved : goal.loop-tenant-preserved
loop-tenant-preserved c =
    let start = c.in_ok-start_in.field-0 in
    All-same IsStart c.push.new.self.items (c.loop-tenant.starts.items ++ start ∷ []) c.in_ok-push.ensures.items
    (All-push IsStart c.loop-tenant.starts.items start c.loop-tenant.invariant c.in_ok-start_in.ensures)
