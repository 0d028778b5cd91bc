use Rattle.std.proofs.Common.{ℕ, ◌≤◌, refl, ◌∙◌, ap, subst}
use Rattle.std.specs.Prelude.{max}
use Rattle.ilp_addr.specs.Timestamp.{last_moment}
use Rattle.tenant_core.specs.declared.book.Book.TheInside.{Inside}
use Rattle.tenant_core.specs.Journals.{with_record}
use Rattle.tenant_core.specs.Answer.{answer_record}
use Rattle.tenant_core.proofs.Keeping.{answered_kept, purses_here, untouched_kept}
use Rattle.tenant_core.proofs.book.Book.answer.Goals as goal

pub end_hold-requires-clause-purses : goal.end_hold-requires-clause-purses
end_hold-requires-clause-purses c = purses_here c.self.inside c.self.invariant

pub invariant_of-self : goal.invariant_of-self
invariant_of-self c =
    let b : Inside = c.self.inside in
    untouched_kept b c.end_hold.new.holds c.end_hold.new.purses c.self.invariant c.in_default.ensures.none
    c.in_default.ensures.purses

pub invariant_of-self-2 : goal.invariant_of-self-2
invariant_of-self-2 c =
    let b : Inside = c.self.inside in
    let after : Inside = record { opening = b.opening; network = b.network; journal = c.push_answer.new.self; clock = c.max-clock.result; holds = c.end_hold.new.holds; purses = c.end_hold.new.purses; buckets = b.buckets } in
    let early = subst (λ n. n ≤ last_moment) c.millis.ensures.value c.millis.ensures.bound in
    let clock = c.max-clock.ensures ∙ ap (λ n. max b.clock n) c.millis.ensures.value in
    answered_kept b after c.args.hold c.args.now c.max-clock.result c.args.key c.in-Some.verdict c.self.invariant c.is_answer.ensures early clock
    (record {
      opening = refl;
      journal = c.push_answer.ensures ∙ ap (λ (n : ℕ). with_record (answer_record c.args.hold n c.args.key c.in-Some.verdict) b.journal) c.millis-2.ensures.value;
      holds_room = c.in-Some.ensures.room;
      clock = clock;
      network = refl;
    }) c.in-Some.ensures.verdict c.in-Some.ensures.holds
    c.in-Some.ensures.purses refl
