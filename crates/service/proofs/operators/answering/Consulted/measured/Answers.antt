use Rattle.std.proofs.Common.{rules, ◌≡◌, ◌++◌, ◌∙◌, ℕ, List, [], ◌∷◌, Some, ap, is_some, slice_get, subst}
use Rattle.std.proofs.lemmas.Option.{slice_get_read}
use Rattle.journal_shared.specs.Kept.{IsKeptIn}
use Rattle.log_folder.specs.Disk.{disk_may_leave, disk_seen}
use Rattle.tenant_core.specs.State.{State}
use Rattle.workers.specs.Keeping.{place_after}
use Rattle.workers.specs.declared.keeping.JournalPlace.{JournalPlace}
use Rattle.service.specs.Metrics.{statements_text, tenants_text}
use Rattle.service.specs.PeerMetrics.{IsPeersOf}
use Rattle.service.specs.declared.host.metrics.TenantCounts.{TenantCounts}
use Rattle.service.proofs.operators.answering.Consulted.measured.Goals as goal

pub returns-clause-told : goal.returns-clause-told
returns-clause-told g c =
    let counts : TenantCounts = c.counts_of-counts.result in
    let office = c.args.self.now.office.now in
    let there : slice_get office.names.items c.args.tenant ≡ Some c.index.result.now = search (rules, slice_get_read) in
    let there-too : slice_get office.names.items c.args.tenant ≡ Some c.index-2.result.now = search (rules, slice_get_read) in
    let named : slice_get office.names.items c.args.tenant ≡ Some counts.name.now = search (rules, there) in
    let same : c.index-2.result.now ≡ counts.name.now = cc in
    let book : c.book.result.now ≡ c.enter-guard.result.state = search rules in
    let then_ : c.book-2.result.now ≡ c.enter-guard.result.state = search rules in
    let before : c.in_ok-text.text.items ≡ tenants_text (counts ∷ []) ++ statements_text (is_some office.filing) (counts ∷ []) = search rules in
    let put = c.in_ok-put_peers.ensures in (
      counts,
      named,
      c.counts_of-counts.ensures.read.book,
      c.counts_of-counts.ensures.read.packets,
      put.0,
      record {
        book = c.enter-guard.result.state;
        steps = c.enter-guard.result.steps;
        own = c.enter-guard.ensures.own;
        led = c.enter-guard.ensures.led;
        kept = subst (λ (place : JournalPlace). IsKeptIn disk_seen disk_may_leave g.J.Run.openings office.journal place)
            (c.place_after-place.ensures ∙ ap place_after then_) c.in_ok-await_kept.ensures;
        told = subst (λ (name : List ℕ). IsPeersOf name c.enter-guard.result.state put.0) same
            (subst (λ (b : State). IsPeersOf c.index-2.result.now b put.0) book put.1);
      },
      put.2 ∙ ap (λ (text : List ℕ). text ++ put.0) before,
    )
