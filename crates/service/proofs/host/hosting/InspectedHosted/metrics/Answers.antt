use Rattle.std.proofs.Common.{◌≡◌, ℕ, List, Some, slice_get, length, rules, subst}
use Rattle.std.proofs.lemmas.Result.{IfOk-weaker}
use Rattle.service.specs.Metrics.{ArePacketsOf, IsBookOf, IsMetricsOf, metrics_text}
use Rattle.service.specs.declared.host.metrics.ServiceCounts.{ServiceCounts}
use Rattle.service.specs.declared.host.metrics.TenantCounts.{TenantCounts}
use Rattle.service.proofs.host.hosting.InspectedHosted.metrics.Goals as goal

pub returns-clause-told : goal.returns-clause-told
returns-clause-told g c =
    let all : List TenantCounts = c.in_ok-all.all.items in
    let service : ServiceCounts = record { accepts = c.lets_in.result; «open» = c.«open».result; waiting = c.waiting.result; states = c.is_some.result; log = c.log_counts.result } in
    let names : List (List ℕ) = c.args.self.now.office.now.names.items in
    let many : length all ≡ length names = search rules in
    let each : (tenant : ℕ) (counts : TenantCounts) → slice_get all tenant ≡ Some counts
    → (slice_get names tenant ≡ Some counts.name.now) × IsBookOf tenant counts.book × ArePacketsOf g.J.Run.openings tenant counts.packets
    = λ tenant counts at. let read = c.in_ok-all.ensures.read tenant counts at in
    (subst (λ known. slice_get known tenant ≡ Some counts.name.now) c.as_slice.ensures.value read.0, read.1.book, read.1.packets) in
    IfOk-weaker c.metrics_text.result (λ text. text.items ≡ metrics_text service all)
    (λ text. IsMetricsOf g.J.Run.openings names text.items) (λ text same. (service, all, many, each, same)) (search rules)
