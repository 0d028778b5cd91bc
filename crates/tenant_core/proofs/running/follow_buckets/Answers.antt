use Rattle.std.proofs.Common.{◌≡◌, ◌<◌, ℕ, List, length, ap, sym, ◌∙◌}
use Rattle.rate_bucket.specs.Running.{Level, level_changed}
use Rattle.tenant_core.specs.Following.{levels_after}
use Rattle.tenant_core.specs.declared.journal.Change.{Change as Changed}
use Rattle.tenant_core.proofs.ChangedLists.{changed_here}
use Rattle.tenant_core.proofs.running.follow_buckets.Goals as goal

pub returns-in-BucketSet-Some : goal.returns-in-BucketSet-Some
returns-in-BucketSet-Some c =
    let xs : List Level = c.args.buckets.now.items in
    let i : ℕ = c.in-BucketSet-Some.place in
    let l : Level = c.index_mut.result.now in
    let bucket = c.in-BucketSet-Some.bucket in
    let inside : i < length xs = c.requires.inside i c.in-BucketSet-Some.is-1 in
    let made : c.change.new.self ≡ level_changed bucket.burst bucket.per_second c.args.clock l =
    c.change.ensures.level ∙ (ap (λ n. level_changed n c.get-in-BucketSet-Some.result c.args.clock l) c.get.ensures.value
    ∙ ap (λ n. level_changed bucket.burst n c.args.clock l) c.get-in-BucketSet-Some.ensures.value) in
    changed_here (level_changed bucket.burst bucket.per_second c.args.clock) xs c.args.place i l c.change.new.self c.in-BucketSet-Some.is-1 inside c.index_mut.ensures.value made
    ∙ ap (λ (x : Changed). levels_after x c.args.place c.args.clock xs) (sym c.in-BucketSet-Some.is-0)
