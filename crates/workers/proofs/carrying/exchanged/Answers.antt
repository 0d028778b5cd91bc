use Rattle.std.proofs.Common.{◌≡◌, ℕ, ap, refl, rules}
use Rattle.floor_core.specs.Work.{Job, Work, carrying, decide_call}
use Rattle.floor_core.specs.declared.parts.Got.{Got}
use Rattle.floor_core.specs.declared.parts.Turn.{Turn}
use Rattle.floor_core.specs.declared.parts.Turn.TheVariants as turn
use Rattle.books_shared.specs.Shares.{ShareView}
use Rattle.workers.specs.Carrying.{Circumstances, IsReleased, WasCalled, WasHeldBack, WasExchanged, WentOn, circumstances, growth}
use Rattle.workers.specs.Replies.{Sending}
use Rattle.workers.specs.declared.keeping.JournalPlace.{JournalPlace}
use Rattle.one_list.specs.Steps.{done, done_by, next_place}
use Rattle.workers.proofs.Elsewhere.{elsewhere, goes_on}
use Rattle.workers.proofs.Growing.{called_roomy}
use Rattle.workers.proofs.Sure.{is_own_call}
use Rattle.workers.proofs.Whose.{answered_so, called_by, decided_so, not_held, unanswered}
use Rattle.workers.proofs.carrying.exchanged.Goals as goal

-- a packet went on once room was made
went_on : {under : Circumstances} (t peer hold : ℕ) (before waiting left : Work) (came : Got) (So : Sending → Type 0) (place : JournalPlace) (s roomy after : ShareView) → roomy ≡ record s { room = 2 }
    → WasCalled under (growth t roomy after) (decide_call before) (turn.Send peer hold) waiting place → under.Keeps place → WasExchanged t waiting came left So
    → WentOn under (growth t s after) before came left So
went_on {under} t peer hold before waiting left came So place s roomy after is decided kept sent =
    let called : WasCalled under (growth t s after) (decide_call before) (turn.Send peer hold) waiting place = called_roomy (decide_call before) t (turn.Send peer hold) waiting place s roomy after is decided in
    let on = goes_on before called.found.book called.found.now peer hold called.told in
    let at = next_place called.found.book in
    record {
      waiting = waiting;
      forwarded = record {
        peer = peer;
        hold = hold;
        place = place;
        decided = called;
        step = done s.worker at on.verdict;
        made = ap (done_by s.worker at) on.made;
        begins = on.begins;
      };
      kept = kept;
      sent = sent;
    }

pub returns-in-Stranger-clause-carried : goal.returns-in-Stranger-clause-carried
returns-in-Stranger-clause-carried g c = record {
  place = c.decide-turn.result.1;
  called = called_roomy (decide_call c.args.slot.now) c.args.tenant turn.Stranger c.decide-turn.new.slot c.decide-turn.result.1 c.args.share.now c.make_room.new.self c.decide-turn.new.share
      c.in-Ok.ensures.1 (decided_so (circumstances g.J.Run.openings (g.C.Clock.gives c.args.tools.now.clock.now) (g.K.Keeping.keeps c.args.tools.now.keeping.now) (g.K.Keeping.fails c.args.tools.now.keeping.now)) c.decide-turn.result.0 turn.Stranger (growth c.args.tenant c.make_room.new.self c.decide-turn.new.share) c.args.slot.now c.decide-turn.new.slot c.decide-turn.result.1 c.in-Stranger.is c.decide-turn.ensures.decided);
  kept = c.in-Ok-wait_for.ensures.kept;
}

pub returns-in-Reply-clause-carried : goal.returns-in-Reply-clause-carried
returns-in-Reply-clause-carried g c = record {
  place = c.decide-turn.result.1;
  called = called_roomy (decide_call c.args.slot.now) c.args.tenant turn.Reply c.decide-turn.new.slot c.decide-turn.result.1 c.args.share.now c.make_room.new.self c.decide-turn.new.share
      c.in-Ok.ensures.1 (decided_so (circumstances g.J.Run.openings (g.C.Clock.gives c.args.tools.now.clock.now) (g.K.Keeping.keeps c.args.tools.now.keeping.now) (g.K.Keeping.fails c.args.tools.now.keeping.now)) c.decide-turn.result.0 turn.Reply (growth c.args.tenant c.make_room.new.self c.decide-turn.new.share) c.args.slot.now c.decide-turn.new.slot c.decide-turn.result.1 c.in-Reply.is c.decide-turn.ensures.decided);
  kept = c.in-Ok-wait_for.ensures.kept;
}

-- a packet whose decide is not known to be kept is held by nobody
held_back : {under : Circumstances} (t : ℕ) (before left ended : Work) (told : Turn) (place : JournalPlace) (s roomy between after : ShareView) → roomy ≡ record s { room = 2 }
    → WasCalled under (growth t roomy between) (decide_call before) told left place → under.Fails → IsReleased under told (growth t between after) left ended
    → WasHeldBack under (growth t s after) before (carrying Job.NoJob ended.room)
held_back t before left ended told place s roomy between after is decided failed released = record {
  between = between;
  told = told;
  left = left;
  decided = record {
    place = place;
    called = called_roomy (decide_call before) t told left place s roomy between is decided;
    failed = failed;
  };
  ended = ended;
  released = released;
  cleared = refl;
}

pub returns-in-Send-clause-carried : goal.returns-in-Send-clause-carried
returns-in-Send-clause-carried g c =
    held_back c.args.tenant c.args.slot.now c.decide-turn.new.slot c.answer.new.slot (turn.Send c.in-Send.peer c.in-Send.hold) c.decide-turn.result.1 c.args.share.now c.make_room.new.self
    c.decide-turn.new.share c.answer.new.share c.in-Ok.ensures.1
    (decided_so (circumstances g.J.Run.openings (g.C.Clock.gives c.args.tools.now.clock.now) (g.K.Keeping.keeps c.args.tools.now.keeping.now) (g.K.Keeping.fails c.args.tools.now.keeping.now)) c.decide-turn.result.0 (turn.Send c.in-Send.peer c.in-Send.hold) (growth c.args.tenant c.make_room.new.self c.decide-turn.new.share) c.args.slot.now c.decide-turn.new.slot c.decide-turn.result.1 c.in-Send.is c.decide-turn.ensures.decided)
    c.in_default.ensures.failed (c.answer.result.0, c.answer.result.1, c.answer.ensures.answered)

pub returns-in_default-turn : goal.returns-in_default-turn
returns-in_default-turn g c = record {
  loaded = tt;
  spent = search rules;
  memory = λ is. absurd cc;
  lost = λ got own is. cc is;
  sends = search rules;
  sent = search rules;
  carried = held_back c.args.tenant c.args.slot.now c.decide-turn.new.slot c.decide-turn.new.slot c.decide-turn.result.0 c.decide-turn.result.1 c.args.share.now c.make_room.new.self
      c.decide-turn.new.share c.decide-turn.new.share c.in-Ok.ensures.1
      (called_by {under = (circumstances g.J.Run.openings (g.C.Clock.gives c.args.tools.now.clock.now) (g.K.Keeping.keeps c.args.tools.now.keeping.now) (g.K.Keeping.fails c.args.tools.now.keeping.now))} c.decide-turn.result.0 (growth c.args.tenant c.make_room.new.self c.decide-turn.new.share) c.args.slot.now c.decide-turn.new.slot c.decide-turn.result.1 c.decide-turn.ensures.decided)
      c.in_default.ensures.failed (not_held (circumstances g.J.Run.openings (g.C.Clock.gives c.args.tools.now.clock.now) (g.K.Keeping.keeps c.args.tools.now.keeping.now) (g.K.Keeping.fails c.args.tools.now.keeping.now)) c.decide-turn.result.0 (growth c.args.tenant c.decide-turn.new.share c.decide-turn.new.share) c.decide-turn.new.slot c.in_default-turn.not-Send refl);
  over = tt;
}

pub answer-requires-clause-sent : goal.answer-requires-clause-sent
answer-requires-clause-sent g c =
    is_own_call {under = (circumstances g.J.Run.openings (g.C.Clock.gives c.args.tools.now.clock.now) (g.K.Keeping.keeps c.args.tools.now.keeping.now) (g.K.Keeping.fails c.args.tools.now.keeping.now))} c.args.tenant c.in-Send.peer c.in-Send.hold c.args.slot.now c.decide-turn.new.slot c.decide-turn.new.share c.make_room.new.self c.decide-turn.new.slot.job c.decide-turn.result.1
    (decided_so (circumstances g.J.Run.openings (g.C.Clock.gives c.args.tools.now.clock.now) (g.K.Keeping.keeps c.args.tools.now.keeping.now) (g.K.Keeping.fails c.args.tools.now.keeping.now)) c.decide-turn.result.0 (turn.Send c.in-Send.peer c.in-Send.hold) (growth c.args.tenant c.make_room.new.self c.decide-turn.new.share) c.args.slot.now c.decide-turn.new.slot c.decide-turn.result.1 c.in-Send.is c.decide-turn.ensures.decided) refl

pub returns-in-Ok-wait_for-2-clause-carried : goal.returns-in-Ok-wait_for-2-clause-carried
returns-in-Ok-wait_for-2-clause-carried g c = record {
  between = c.decide-turn.new.share;
  answered = c.send-got.new.slot;
  went = went_on {under = (circumstances g.J.Run.openings (g.C.Clock.gives c.args.tools.now.clock.now) (g.K.Keeping.keeps c.args.tools.now.keeping.now) (g.K.Keeping.fails c.args.tools.now.keeping.now))} c.args.tenant c.in-Send-turn.peer c.in-Send-turn.hold c.args.slot.now c.decide-turn.new.slot c.send-got.new.slot c.send-got.result (λ (sending : Sending). g.L.Link.sends_so c.args.link.now sending c.send-got.new.link) c.decide-turn.result.1 c.args.share.now c.make_room.new.self c.decide-turn.new.share
      c.in-Ok.ensures.1 (decided_so (circumstances g.J.Run.openings (g.C.Clock.gives c.args.tools.now.clock.now) (g.K.Keeping.keeps c.args.tools.now.keeping.now) (g.K.Keeping.fails c.args.tools.now.keeping.now)) c.decide-turn.result.0 (turn.Send c.in-Send-turn.peer c.in-Send-turn.hold) (growth c.args.tenant c.make_room.new.self c.decide-turn.new.share) c.args.slot.now c.decide-turn.new.slot c.decide-turn.result.1 c.in-Send-turn.is c.decide-turn.ensures.decided) c.in-Ok-wait_for.ensures.kept c.send-got.ensures.exchanged;
  settled = record {
    place = c.answer-turn.result.1;
    called = answered_so (circumstances g.J.Run.openings (g.C.Clock.gives c.args.tools.now.clock.now) (g.K.Keeping.keeps c.args.tools.now.keeping.now) (g.K.Keeping.fails c.args.tools.now.keeping.now)) c.answer-turn.result.0 turn.Reply (growth c.args.tenant c.decide-turn.new.share c.answer-turn.new.share) c.send-got.result c.send-got.new.slot c.answer-turn.new.slot c.answer-turn.result.1 c.in-Reply-turn.is c.answer-turn.ensures.answered;
    kept = c.in-Ok-wait_for-2.ensures.kept;
  };
}

pub returns-in-Err-clause-carried : goal.returns-in-Err-clause-carried
returns-in-Err-clause-carried g c = record {
  between = c.decide-turn.new.share;
  answered = c.send-got.new.slot;
  went = went_on {under = (circumstances g.J.Run.openings (g.C.Clock.gives c.args.tools.now.clock.now) (g.K.Keeping.keeps c.args.tools.now.keeping.now) (g.K.Keeping.fails c.args.tools.now.keeping.now))} c.args.tenant c.in-Send-turn.peer c.in-Send-turn.hold c.args.slot.now c.decide-turn.new.slot c.send-got.new.slot c.send-got.result (λ (sending : Sending). g.L.Link.sends_so c.args.link.now sending c.send-got.new.link) c.decide-turn.result.1 c.args.share.now c.make_room.new.self c.decide-turn.new.share
      c.in-Ok.ensures.1 (decided_so (circumstances g.J.Run.openings (g.C.Clock.gives c.args.tools.now.clock.now) (g.K.Keeping.keeps c.args.tools.now.keeping.now) (g.K.Keeping.fails c.args.tools.now.keeping.now)) c.decide-turn.result.0 (turn.Send c.in-Send-turn.peer c.in-Send-turn.hold) (growth c.args.tenant c.make_room.new.self c.decide-turn.new.share) c.args.slot.now c.decide-turn.new.slot c.decide-turn.result.1 c.in-Send-turn.is c.decide-turn.ensures.decided) c.in-Ok-wait_for.ensures.kept c.send-got.ensures.exchanged;
  left = c.answer-turn.new.slot;
  settled = record {
    place = c.answer-turn.result.1;
    called = answered_so (circumstances g.J.Run.openings (g.C.Clock.gives c.args.tools.now.clock.now) (g.K.Keeping.keeps c.args.tools.now.keeping.now) (g.K.Keeping.fails c.args.tools.now.keeping.now)) c.answer-turn.result.0 turn.Reply (growth c.args.tenant c.decide-turn.new.share c.answer-turn.new.share) c.send-got.result c.send-got.new.slot c.answer-turn.new.slot c.answer-turn.result.1 c.in-Reply-turn.is c.answer-turn.ensures.answered;
    failed = c.in-Err.ensures.failed;
  };
  cleared = refl;
}

pub returns-in_default-turn-2 : goal.returns-in_default-turn-2
returns-in_default-turn-2 g c =
    let between = c.decide-turn.new.share in
    let went = went_on {under = (circumstances g.J.Run.openings (g.C.Clock.gives c.args.tools.now.clock.now) (g.K.Keeping.keeps c.args.tools.now.keeping.now) (g.K.Keeping.fails c.args.tools.now.keeping.now))} c.args.tenant c.in-Send-turn.peer c.in-Send-turn.hold c.args.slot.now c.decide-turn.new.slot c.send-got.new.slot c.send-got.result (λ (sending : Sending). g.L.Link.sends_so c.args.link.now sending c.send-got.new.link) c.decide-turn.result.1 c.args.share.now c.make_room.new.self c.decide-turn.new.share
    c.in-Ok.ensures.1 (decided_so (circumstances g.J.Run.openings (g.C.Clock.gives c.args.tools.now.clock.now) (g.K.Keeping.keeps c.args.tools.now.keeping.now) (g.K.Keeping.fails c.args.tools.now.keeping.now)) c.decide-turn.result.0 (turn.Send c.in-Send-turn.peer c.in-Send-turn.hold) (growth c.args.tenant c.make_room.new.self c.decide-turn.new.share) c.args.slot.now c.decide-turn.new.slot c.decide-turn.result.1 c.in-Send-turn.is c.decide-turn.ensures.decided) c.in-Ok-wait_for.ensures.kept c.send-got.ensures.exchanged in
    let missed = unanswered {under = (circumstances g.J.Run.openings (g.C.Clock.gives c.args.tools.now.clock.now) (g.K.Keeping.keeps c.args.tools.now.keeping.now) (g.K.Keeping.fails c.args.tools.now.keeping.now))} c.answer-turn.result.0 (growth c.args.tenant between c.answer-turn.new.share) c.send-got.result c.send-got.new.slot c.answer-turn.new.slot c.answer-turn.result.1
    c.in_default-turn-2.not-Reply c.answer-turn.ensures.answered in
    record {
      loaded = tt;
      memory = λ is. absurd cc;
      lost = λ got own is. absurd (c.in_default-turn-2.not-Reply (c.answer-turn.ensures.sure own));
      spent = search rules;
      sends = c.send-got.ensures.sends;
      sent = c.send-got.ensures.sent;
      carried = record {
        between = between;
        answered = c.send-got.new.slot;
        went = went;
        missed = missed.0;
        elsewhere = elsewhere c.answered_holds.ensures (growth c.args.tenant c.args.share.now c.answer-turn.new.share) between c.args.slot.now c.send-got.new.slot c.send-got.result _ went missed.0;
        left = ap (λ (w : Work). carrying Job.NoJob w.room) missed.1;
      };
      over = tt;
    }

pub answer-turn-requires-clause-sent : goal.answer-turn-requires-clause-sent
answer-turn-requires-clause-sent g c =
    is_own_call {under = (circumstances g.J.Run.openings (g.C.Clock.gives c.args.tools.now.clock.now) (g.K.Keeping.keeps c.args.tools.now.keeping.now) (g.K.Keeping.fails c.args.tools.now.keeping.now))} c.args.tenant c.in-Send-turn.peer c.in-Send-turn.hold c.args.slot.now c.decide-turn.new.slot c.decide-turn.new.share c.make_room.new.self c.send-got.new.slot.job c.decide-turn.result.1
    (decided_so (circumstances g.J.Run.openings (g.C.Clock.gives c.args.tools.now.clock.now) (g.K.Keeping.keeps c.args.tools.now.keeping.now) (g.K.Keeping.fails c.args.tools.now.keeping.now)) c.decide-turn.result.0 (turn.Send c.in-Send-turn.peer c.in-Send-turn.hold) (growth c.args.tenant c.make_room.new.self c.decide-turn.new.share) c.args.slot.now c.decide-turn.new.slot c.decide-turn.result.1 c.in-Send-turn.is c.decide-turn.ensures.decided) c.send-got.ensures.job
