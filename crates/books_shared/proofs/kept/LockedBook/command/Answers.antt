use Rattle.std.proofs.Common.{◌≡◌, ◌<◌, ◌++◌, ◌∙◌, arith, refl, subst, sym}
use Rattle.tenant_core.specs.Governed.{made_by}
use Rattle.tenant_core.specs.Limits.{max_tenants}
use Rattle.one_list.specs.Holds.{AreOwnAnswers}
use Rattle.one_list.specs.Steps.{done_by, next_place}
use Rattle.books_shared.specs.Kept.{LockedBook}
use Rattle.books_shared.specs.Rises.{command_rise}
use Rattle.books_shared.specs.Traced.{share_counted}
use Rattle.books_shared.specs.Tracing.{steps_of_command}
use Rattle.books_shared.proofs.Owning.{governed_answers, own_on}
use Rattle.books_shared.proofs.Tracing.{governed_tenant, governed_told, place_at, share_told, steps_told, traced_command}
use Rattle.books_shared.proofs.kept.LockedBook.command.Goals as goal
use Rattle.books_shared.proofs.kept.LockedBook.command.Given.{Over}

pub trace_command-requires-clause-tenant : goal.trace_command-requires-clause-tenant
trace_command-requires-clause-tenant g c =
    let own = c.self.invariant.1.number in
    let sound = c.book_is_sound.ensures.tenant in
    subst (λ n. n < max_tenants)
    (governed_tenant c.calls.ensures c.command_in-answer.result.0 c.args.command.now c.self.inside.book c.command_in-answer.new.book c.args.now c.command_in-answer.ensures.answer ∙ sym own) sound

told : (g : Over) (c : goal.After-trace_command g)
    → steps_of_command c.command_in-answer.result.0 c.args.share.now.worker c.self.inside.part.number c.command_in-answer.new.book
    ≡ done_by c.args.share.now.worker (place_at c.self.inside.part.number c.self.inside.book) (made_by c.command_in-answer.result.0 c.self.inside.book c.args.command.now c.args.now)
told g c =
    governed_told c.histories.ensures c.command_in-answer.result.0 c.args.command.now c.self.inside.book c.command_in-answer.new.book c.args.now c.args.share.now.worker c.self.inside.part.number
    c.command_in-answer.ensures.answer

-- the steps after the call
grown_steps : (g : Over) (c : goal.After-trace_command g)
    → c.trace_command.new.part.steps ≡ c.self.inside.part.steps ++ done_by c.args.share.now.worker (next_place c.self.inside.book) (made_by c.command_in-answer.result.0 c.self.inside.book c.args.command.now c.args.now)
grown_steps g c =
    steps_told c.self.inside.part c.trace_command.new.part c.args.share.now.worker c.self.inside.book (made_by c.command_in-answer.result.0 c.self.inside.book c.args.command.now c.args.now) _ c.trace_command.ensures.part
    (told g c) c.self.invariant.1.number

pub invariant_of-self : goal.invariant_of-self
invariant_of-self g c = (
  (let kept = c.self.invariant.0 in let most = c.command_in-answer.ensures.most in omega arith),
  traced_command c.records_are_made.ensures c.calls.ensures c.histories.ensures g.J.Run.openings c.self.inside.book c.command_in-answer.new.book c.self.inside.part c.trace_command.new.part c.args.share.now.worker
      c.command_in-answer.result.0 c.args.command.now c.args.now c.self.invariant.1 c.command_in-answer.ensures.answer
      c.book_is_sound.ensures c.trace_command.ensures.part,
  λ own. subst AreOwnAnswers (sym (grown_steps g c))
      (own_on c.own_answers.ensures c.self.inside.part.steps c.args.share.now.worker (next_place c.self.inside.book) (made_by c.command_in-answer.result.0 c.self.inside.book c.args.command.now c.args.now) (c.self.invariant.2 own)
      (governed_answers c.self.inside.part.steps c.args.share.now.worker c.command_in-answer.result.0 c.self.inside.book c.args.command.now c.args.now)),
)

pub returns-clause-steps : goal.returns-clause-steps
returns-clause-steps g c =
    subst (λ (k : LockedBook). c.trace_command.new.part.steps ≡ k.steps ++ done_by c.args.share.now.worker (next_place k.state) (made_by c.command_in-answer.result.0 k.state c.args.command.now c.args.now))
    c.self.view_is
    (grown_steps g c)

pub returns-clause-share : goal.returns-clause-share
returns-clause-share g c =
    subst (λ (k : LockedBook). c.trace_command.new.share ≡ share_counted (command_rise c.command_in-answer.result.0) (next_place k.state) (made_by c.command_in-answer.result.0 k.state c.args.command.now c.args.now) c.args.share.now)
    c.self.view_is
    (share_told c.args.share.now c.trace_command.new.share _ (command_rise c.command_in-answer.result.0) c.self.inside.part.number c.self.inside.book
    (made_by c.command_in-answer.result.0 c.self.inside.book c.args.command.now c.args.now) _ c.trace_command.ensures.share
    (told g c) c.self.invariant.1.number refl)
