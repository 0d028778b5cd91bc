use Rattle.std.proofs.Common.{ℕ, ◌≤◌, refl, ◌∙◌, ap, subst, sym}
use Rattle.std.specs.Prelude.{max}
use Rattle.ilp_addr.specs.Timestamp.{last_moment}
use Rattle.tenant_core.specs.declared.book.Book.TheInside.{Inside}
use Rattle.tenant_core.specs.Journals.{with_record}
use Rattle.tenant_core.specs.Answer.{tick_record, has_no_place}
use Rattle.tenant_core.proofs.Keeping.{ticked_kept, purses_here}
use Rattle.tenant_core.proofs.book.Book.tick.Goals as goal

pub mark_overdue-count-requires-clause-purses : goal.mark_overdue-count-requires-clause-purses
mark_overdue-count-requires-clause-purses c = purses_here c.self.inside c.self.invariant

pub invariant_of-self : goal.invariant_of-self
invariant_of-self c =
    let b : Inside = c.self.inside in
    let after : Inside = record { opening = b.opening; network = b.network; journal = c.push_tick.new.self; clock = c.max-self-inside.result; holds = c.mark_overdue-count.new.holds; purses = c.mark_overdue-count.new.purses; buckets = b.buckets } in
    let early = subst (λ n. n ≤ last_moment) c.millis.ensures.value c.millis.ensures.bound in
    let clock = c.max-self-inside.ensures ∙ ap (λ n. max b.clock n) c.millis.ensures.value in
    let room = ap has_no_place c.self.view_is ∙ (sym c.has_no_place.ensures ∙ c.if-has_no_place.false) in
    ticked_kept b after c.args.now c.max-self-inside.result c.mark_overdue-count.result c.self.invariant early clock room c.mark_overdue-count.ensures.count
    (record {
      opening = refl;
      journal = c.push_tick.ensures ∙ ap (λ (n : ℕ). with_record (tick_record n c.mark_overdue-count.result) b.journal) c.millis-2.ensures.value;
      holds_room = c.mark_overdue-count.ensures.room;
      clock = clock;
      network = refl;
    }) c.mark_overdue-count.ensures.holds c.mark_overdue-count.ensures.purses refl
