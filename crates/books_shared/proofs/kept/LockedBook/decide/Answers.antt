use Rattle.std.proofs.Common.{◌≡◌, ◌≤◌, ◌<◌, ◌++◌, ◌∙◌, ap, subst, sym}
use Rattle.tenant_core.specs.Limits.{max_tenants}
use Rattle.tenant_core.specs.declared.opening.Opening.{Opening}
use Rattle.floor_core.specs.Work.{Called, decide_call}
use Rattle.one_list.specs.Holds.{AreOwnAnswers}
use Rattle.one_list.specs.Steps.{done_by, next_place}
use Rattle.books_shared.specs.Kept.{LockedBook, most_entries}
use Rattle.books_shared.specs.Rises.{IsSmall, entries_of, rise_of}
use Rattle.books_shared.specs.Traced.{share_counted}
use Rattle.books_shared.specs.Tracing.{steps_appended}
use Rattle.books_shared.specs.declared.rise.CallCounts.{CallCounts}
use Rattle.books_shared.proofs.Entries.{entries_told, small}
use Rattle.books_shared.proofs.Causes.{decide_cause}
use Rattle.books_shared.proofs.Owning.{decide_answers, own_on}
use Rattle.books_shared.proofs.Tracing.{decide_stays, place_at, share_told, steps_told, told_call, traced_call}
use Rattle.books_shared.proofs.kept.LockedBook.decide.Goals as goal
use Rattle.books_shared.proofs.kept.LockedBook.decide.Given.{Over}

pub trace-requires-clause-tenant : goal.trace-requires-clause-tenant
trace-requires-clause-tenant g c =
    let own = c.self.invariant.1.number in
    let sound = c.book_is_sound.ensures.tenant in
    subst (λ n. n < max_tenants) (ap (λ (o : Opening). o.tenant) c.decide_in-turn.ensures.opening ∙ sym own) sound

pub trace-requires-clause-small : goal.trace-requires-clause-small
trace-requires-clause-small g c =
    let call = decide_call c.args.slot.now c.self.inside.book c.args.now in
    subst (λ (r : CallCounts). IsSmall r) (sym c.decide_in-turn.ensures.rise) (small call.turn call.made)

abbrev call : (g : Over) → goal.After-trace g → Called
call g c = decide_call c.args.slot.now c.self.inside.book c.args.now

many : (g : Over) (c : goal.After-trace g) → c.decide_in-turn.result.1.entries ≡ entries_of (call g c).made
many g c = ap (λ (r : CallCounts). r.entries) c.decide_in-turn.ensures.rise ∙ entries_told (call g c).turn (entries_of (call g c).made)

told : (g : Over) (c : goal.After-trace g)
    → steps_appended c.decide_in-turn.result.1.entries c.args.share.now.worker c.self.inside.part.number c.decide_in-turn.new.book.opening.period c.decide_in-turn.new.book.records
    ≡ done_by c.args.share.now.worker (place_at c.self.inside.part.number c.self.inside.book) (call g c).made
told g c =
    told_call c.histories.ensures c.self.inside.book c.decide_in-turn.new.book (call g c).made c.decide_in-turn.result.1.entries c.args.share.now.worker c.self.inside.part.number
    c.decide_in-turn.ensures.book (many g c)

-- the steps after the call
grown_steps : (g : Over) (c : goal.After-trace g)
    → c.trace.new.part.steps ≡ c.self.inside.part.steps ++ done_by c.args.share.now.worker (next_place c.self.inside.book) (call g c).made
grown_steps g c =
    steps_told c.self.inside.part c.trace.new.part c.args.share.now.worker c.self.inside.book (call g c).made _ c.trace.ensures.part
    (told g c) c.self.invariant.1.number

pub invariant_of-self : goal.invariant_of-self
invariant_of-self g c = (
  subst (λ (o : Opening). c.self.inside.closed ≤ most_entries o.period) (sym c.decide_in-turn.ensures.opening) c.self.invariant.0,
  traced_call c.records_are_made.ensures c.histories.ensures g.J.Run.openings c.self.inside.book c.decide_in-turn.new.book c.self.inside.part c.trace.new.part c.args.share.now.worker (call g c).made
      c.decide_in-turn.result.1.entries c.self.invariant.1 (decide_stays c.args.slot.now c.self.inside.book c.args.now)
      (decide_cause c.args.slot.now c.self.inside.book c.args.now c.is_work.ensures) c.decide_in-turn.ensures.book
      c.book_is_sound.ensures.replay (many g c) c.trace.ensures.part,
  λ own. subst AreOwnAnswers (sym (grown_steps g c))
      (own_on c.own_answers.ensures c.self.inside.part.steps c.args.share.now.worker (next_place c.self.inside.book) (call g c).made (c.self.invariant.2 own)
      (decide_answers c.self.inside.part.steps c.args.share.now.worker c.args.slot.now c.self.inside.book c.args.now)),
)

pub returns-clause-steps : goal.returns-clause-steps
returns-clause-steps g c =
    subst (λ (k : LockedBook). c.trace.new.part.steps ≡ k.steps ++ done_by c.args.share.now.worker (next_place k.state) (decide_call c.args.slot.now k.state c.args.now).made)
    c.self.view_is
    (grown_steps g c)

pub returns-clause-share : goal.returns-clause-share
returns-clause-share g c =
    subst (λ (k : LockedBook). c.trace.new.share ≡ share_counted (rise_of (decide_call c.args.slot.now k.state c.args.now)) (next_place k.state) (decide_call c.args.slot.now k.state c.args.now).made c.args.share.now)
    c.self.view_is
    (share_told c.args.share.now c.trace.new.share _ (rise_of (call g c)) c.self.inside.part.number c.self.inside.book (call g c).made _ c.trace.ensures.share
    (told g c) c.self.invariant.1.number c.decide_in-turn.ensures.rise)
