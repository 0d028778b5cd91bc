use Rattle.std.proofs.Common.{◌≡◌, ℕ, Some, slice_get, length, rules, subst}
use Rattle.std.proofs.lemmas.Option.{slice_get_read}
use Rattle.service.specs.Metrics.{AreRead}
use Rattle.service.specs.declared.host.metrics.TenantCounts.{TenantCounts}
use Rattle.service.proofs.Presents.{each_next}
use Rattle.service.proofs.host.metrics.all_counts.Goals as goal

pub loop-tenant-preserved : goal.loop-tenant-preserved
loop-tenant-preserved g c =
    let many : c.loop-tenant.tenant ≡ length c.loop-tenant.all.items = search rules in
    let named : slice_get c.args.names.now c.loop-tenant.tenant ≡ Some c.index-names-tenant.result = search (rules, slice_get_read) in
    let Read : ℕ → TenantCounts → Type 0 = λ tenant counts. (slice_get c.args.names.now tenant ≡ Some counts.name.now)
    × AreRead (g.G.Gauges.tells c.args.gauges.now tenant) (g.G.Gauges.tells_tokens c.args.gauges.now tenant)
    (g.G.Gauges.tells_places c.args.gauges.now tenant) (g.G.Gauges.tells_breakers c.args.gauges.now tenant) (g.G.Gauges.tells_packets c.args.gauges.now tenant) (g.G.Gauges.tells_book c.args.gauges.now tenant)
    (g.G.Gauges.tells_statements c.args.gauges.now tenant) counts in
    let here : Read c.loop-tenant.tenant c.counts_of.result = (search (rules, named), c.counts_of.ensures.read) in
    record {
      same = search rules;
      count = search rules;
      room = search rules;
      read = λ tenant counts at.
          each_next Read c.loop-tenant.all.items c.counts_of.result c.loop-tenant.invariant.read
          (subst (λ n. Read n c.counts_of.result) many here)
          tenant counts (subst (λ xs. slice_get xs tenant ≡ Some counts) c.push_reserved.ensures.items at);
    }
