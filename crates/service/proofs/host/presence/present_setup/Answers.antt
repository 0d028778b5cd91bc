use Rattle.std.proofs.Common.{◌≡◌, ◌∙◌, Some, slice_get, rules, ap, subst, sym}
use Rattle.std.proofs.lemmas.Option.{get_or_from_slice_get, slice_get_read}
use Rattle.tenant_core.specs.PresentSetup.{present_setup}
use Rattle.journal_shared.specs.Kept.{IsKeptIn}
use Rattle.log_folder.specs.Disk.{disk_may_leave, disk_seen}
use Rattle.workers.specs.Keeping.{place_after}
use Rattle.workers.specs.declared.keeping.JournalPlace.{JournalPlace}
use Rattle.service.specs.Answering.{operator_token}
use Rattle.service.proofs.host.presence.present_setup.Goals as goal

pub returns : goal.returns
returns g c =
    let at : slice_get c.args.office.now.terms.items c.args.tenant ≡ Some c.index.result.now = search (rules, slice_get_read) in
    let admin : c.copy-admin.result ≡ operator_token c.args.office.now c.args.tenant
    = c.copy-admin.ensures ∙ sym (ap (λ t. t.admin) (get_or_from_slice_get c.args.office.now.terms.items c.args.tenant c.index.result.now _ at)) in
    let book : c.book.result.now ≡ c.enter-guard.result.state = search rules in
    let then_ : c.book-2.result.now ≡ c.enter-guard.result.state = search rules in
    record {
      book = c.enter-guard.result.state;
      steps = c.enter-guard.result.steps;
      own = c.enter-guard.ensures.own;
      led = c.enter-guard.ensures.led;
      kept = subst (λ (place : JournalPlace). IsKeptIn disk_seen disk_may_leave g.J.Run.openings c.args.office.now.journal place)
          (c.place_after-place.ensures ∙ ap place_after then_) c.in_ok-await_kept.ensures;
      told = c.in_ok-setup.ensures ∙ (ap (λ b. present_setup b c.copy-admin.result) book ∙ ap (present_setup c.enter-guard.result.state) admin);
    }
