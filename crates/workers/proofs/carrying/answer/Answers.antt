use Rattle.std.proofs.Common.{ap, sym, subst, ◌∙◌}
use Rattle.floor_core.specs.Work.{answer_call}
use Rattle.books_shared.specs.Kept.{LockedBook}
use Rattle.books_shared.specs.Shares.{ShareView}
use Rattle.books_shared.specs.Turns.{IsSentBy}
use Rattle.workers.specs.Carrying.{answer_with, growth}
use Rattle.workers.specs.Keeping.{place_after}
use Rattle.workers.proofs.Growing.{was_called}
use Rattle.workers.proofs.Sure.{sent_by, settles}
use Rattle.workers.proofs.Whose.{is_answered}
use Rattle.workers.proofs.carrying.answer.Goals as goal

pub returns-clause-answered : goal.returns-clause-answered
returns-clause-answered g c =
    is_answered c.answer-turn.result (growth c.args.tenant c.args.share.now c.answer-turn.new.share) c.args.slot.now c.answer-turn.new.slot c.place_after.result c.args.got
    c.requires.waits c.requires.tenant
    (was_called (answer_with c.args.slot.now c.args.got) c.args.tenant c.enter-guard.result c.meet.new.self c.now.result c.answer-turn.result c.answer-turn.new.slot c.place_after.result c.args.share.now c.meet.new.share c.answer-turn.new.share
    c.meet.ensures.book c.meet.ensures.share c.enter-guard.ensures.kept.sound c.enter-guard.ensures.led c.now.ensures c.enter-guard.ensures.own
    c.meet.ensures.shared c.answer-turn.ensures.turn c.answer-turn.ensures.slot c.answer-turn.ensures.share
    (c.place_after.ensures ∙ ap place_after (c.book.ensures.book ∙ c.answer-turn.ensures.book)))

pub answer-turn-requires-clause-sent : goal.answer-turn-requires-clause-sent
answer-turn-requires-clause-sent g c own =
    let k = c.enter-guard.result in
    let job = c.args.slot.now.job in
    subst (λ (x : LockedBook). IsSentBy c.meet.new.share.worker job x.steps) (sym c.meet.ensures.book)
    (subst (λ (x : ShareView). IsSentBy x.worker job k.steps) (sym c.meet.ensures.share)
    (sent_by c.answered_holds.ensures job c.args.share.now c.args.tenant k.state.opening.tenant g.J.Run.openings k.state k.steps c.requires.sent c.enter-guard.ensures.own
    c.meet.ensures.shared c.enter-guard.ensures.led))

pub returns-clause-sure : goal.returns-clause-sure
returns-clause-sure g c own =
    let k = c.enter-guard.result in
    c.answer-turn.ensures.turn
    ∙ (ap (λ (x : LockedBook). (answer_call c.args.slot.now x.state c.now.result c.args.got).turn) c.meet.ensures.book
    ∙ settles c.own_answers.ensures c.args.slot.now c.args.share.now c.args.tenant g.J.Run.openings k.state k.steps c.now.result c.args.got c.requires.waits c.requires.tenant c.requires.sent
    c.enter-guard.ensures.own c.meet.ensures.shared c.enter-guard.ensures.led (c.enter-guard.ensures.answers own))
