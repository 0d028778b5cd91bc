use Rattle.std.proofs.Common.{◌≡◌, ◌≤◌, ◌<◌, ◌++◌, ◌∙◌, ap, subst, sym}
use Rattle.tenant_core.specs.Answer.{tick_made}
use Rattle.tenant_core.specs.Limits.{max_tenants}
use Rattle.tenant_core.specs.declared.opening.Opening.{Opening}
use Rattle.one_list.specs.Holds.{AreOwnAnswers}
use Rattle.one_list.specs.Steps.{done_by, next_place}
use Rattle.books_shared.specs.Kept.{LockedBook, most_entries}
use Rattle.books_shared.specs.Rises.{IsSmall, entries_of, tick_rise}
use Rattle.books_shared.specs.Traced.{share_counted}
use Rattle.books_shared.specs.Tracing.{steps_appended}
use Rattle.books_shared.specs.declared.rise.CallCounts.{CallCounts}
use Rattle.books_shared.proofs.Causes.{tick_cause}
use Rattle.books_shared.proofs.Entries.{tick_small}
use Rattle.books_shared.proofs.Owning.{tick_answers, own_on}
use Rattle.books_shared.proofs.Tracing.{place_at, share_told, steps_told, tick_entries, tick_stays, told_call, traced_call}
use Rattle.books_shared.proofs.kept.LockedBook.tick.Goals as goal
use Rattle.books_shared.proofs.kept.LockedBook.tick.Given.{Over}

pub trace-requires-clause-tenant : goal.trace-requires-clause-tenant
trace-requires-clause-tenant g c =
    let own = c.self.invariant.1.number in
    let sound = c.book_is_sound.ensures.tenant in
    subst (λ n. n < max_tenants) (ap (λ (o : Opening). o.tenant) c.tick_in-count.ensures.opening ∙ sym own) sound

pub trace-requires-clause-small : goal.trace-requires-clause-small
trace-requires-clause-small g c =
    subst (λ (r : CallCounts). IsSmall r) (sym c.tick_in-count.ensures.rise) (tick_small c.tick_in-count.result.0)

many : (g : Over) (c : goal.After-trace g) → c.tick_in-count.result.1.entries ≡ entries_of (tick_made c.self.inside.book c.args.now)
many g c =
    tick_entries c.self.inside.book c.args.now c.tick_in-count.result.0 c.tick_in-count.result.1 c.tick_in-count.ensures.count c.tick_in-count.ensures.rise

told : (g : Over) (c : goal.After-trace g)
    → steps_appended c.tick_in-count.result.1.entries c.args.share.now.worker c.self.inside.part.number c.tick_in-count.new.book.opening.period c.tick_in-count.new.book.records
    ≡ done_by c.args.share.now.worker (place_at c.self.inside.part.number c.self.inside.book) (tick_made c.self.inside.book c.args.now)
told g c =
    told_call c.histories.ensures c.self.inside.book c.tick_in-count.new.book (tick_made c.self.inside.book c.args.now) c.tick_in-count.result.1.entries c.args.share.now.worker c.self.inside.part.number
    c.tick_in-count.ensures.book (many g c)

-- the steps after the call
grown_steps : (g : Over) (c : goal.After-trace g)
    → c.trace.new.part.steps ≡ c.self.inside.part.steps ++ done_by c.args.share.now.worker (next_place c.self.inside.book) (tick_made c.self.inside.book c.args.now)
grown_steps g c =
    steps_told c.self.inside.part c.trace.new.part c.args.share.now.worker c.self.inside.book (tick_made c.self.inside.book c.args.now) _ c.trace.ensures.part
    (told g c) c.self.invariant.1.number

pub invariant_of-self : goal.invariant_of-self
invariant_of-self g c = (
  subst (λ (o : Opening). c.self.inside.closed ≤ most_entries o.period) (sym c.tick_in-count.ensures.opening) c.self.invariant.0,
  traced_call c.records_are_made.ensures c.histories.ensures g.J.Run.openings c.self.inside.book c.tick_in-count.new.book c.self.inside.part c.trace.new.part c.args.share.now.worker (tick_made c.self.inside.book c.args.now)
      c.tick_in-count.result.1.entries c.self.invariant.1 (tick_stays c.self.inside.book c.args.now)
      (tick_cause c.self.inside.book c.args.now) c.tick_in-count.ensures.book
      c.book_is_sound.ensures.replay (many g c) c.trace.ensures.part,
  λ own. subst AreOwnAnswers (sym (grown_steps g c))
      (own_on c.own_answers.ensures c.self.inside.part.steps c.args.share.now.worker (next_place c.self.inside.book) (tick_made c.self.inside.book c.args.now) (c.self.invariant.2 own)
      (tick_answers c.self.inside.part.steps c.args.share.now.worker c.self.inside.book c.args.now)),
)

pub returns-clause-steps : goal.returns-clause-steps
returns-clause-steps g c =
    subst (λ (k : LockedBook). c.trace.new.part.steps ≡ k.steps ++ done_by c.args.share.now.worker (next_place k.state) (tick_made k.state c.args.now))
    c.self.view_is
    (grown_steps g c)

pub returns-clause-share : goal.returns-clause-share
returns-clause-share g c =
    subst (λ (k : LockedBook). c.trace.new.share ≡ share_counted (tick_rise c.tick_in-count.result.0) (next_place k.state) (tick_made k.state c.args.now) c.args.share.now)
    c.self.view_is
    (share_told c.args.share.now c.trace.new.share _ (tick_rise c.tick_in-count.result.0) c.self.inside.part.number c.self.inside.book (tick_made c.self.inside.book c.args.now) _ c.trace.ensures.share
    (told g c) c.self.invariant.1.number c.tick_in-count.ensures.rise)
