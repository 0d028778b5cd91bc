use Rattle.std.proofs.Common.{◌≡◌, ◌∙◌, rules, ap, subst}
use Rattle.journal_shared.specs.Kept.{IsKeptIn}
use Rattle.log_folder.specs.Disk.{disk_may_leave, disk_seen}
use Rattle.tenant_core.specs.State.{State}
use Rattle.workers.specs.Keeping.{place_after}
use Rattle.workers.specs.declared.keeping.JournalPlace.{JournalPlace}
use Rattle.service.specs.Explaining.{explanation}
use Rattle.service.specs.Questions.{question_at}
use Rattle.service.proofs.operators.answering.Consulted.explained.Goals as goal

pub returns : goal.returns
returns g c =
    let book : c.book.result.now ≡ c.enter-guard.result.state = search rules in
    let then_ : c.book-2.result.now ≡ c.enter-guard.result.state = search rules in
    record {
      book = c.enter-guard.result.state;
      steps = c.enter-guard.result.steps;
      own = c.enter-guard.ensures.own;
      led = c.enter-guard.ensures.led;
      now = c.now-now.result;
      given = c.now-now.ensures;
      kept = subst (λ (place : JournalPlace). IsKeptIn disk_seen disk_may_leave g.J.Run.openings c.args.self.now.office.now.journal place)
          (c.place_after-place.ensures ∙ ap place_after then_) c.in_ok-await_kept.ensures;
      told = c.in_ok-text.ensures ∙ ap (λ (b : State). explanation b (question_at c.args.question.now) c.now-now.result) book;
    }
