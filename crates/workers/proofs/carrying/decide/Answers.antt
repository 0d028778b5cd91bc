use Rattle.std.proofs.Common.{ap, ◌∙◌}
use Rattle.floor_core.specs.Work.{decide_call}
use Rattle.workers.specs.Carrying.{growth}
use Rattle.workers.specs.Keeping.{place_after}
use Rattle.workers.proofs.Growing.{was_called}
use Rattle.workers.proofs.Whose.{is_decided}
use Rattle.workers.proofs.carrying.decide.Goals as goal

pub returns-clause-decided : goal.returns-clause-decided
returns-clause-decided g c =
    is_decided c.decide-turn.result (growth c.args.tenant c.args.share.now c.decide-turn.new.share) c.args.slot.now c.decide-turn.new.slot c.place_after.result
    c.requires.loaded c.is_work.ensures.readable c.requires.tenant
    (was_called (decide_call c.args.slot.now) c.args.tenant c.enter-guard.result c.meet.new.self c.now.result c.decide-turn.result c.decide-turn.new.slot c.place_after.result c.args.share.now c.meet.new.share c.decide-turn.new.share
    c.meet.ensures.book c.meet.ensures.share c.enter-guard.ensures.kept.sound c.enter-guard.ensures.led c.now.ensures c.enter-guard.ensures.own
    c.meet.ensures.shared c.decide-turn.ensures.turn c.decide-turn.ensures.slot c.decide-turn.ensures.share
    (c.place_after.ensures ∙ ap place_after (c.book.ensures.book ∙ c.decide-turn.ensures.book)))
