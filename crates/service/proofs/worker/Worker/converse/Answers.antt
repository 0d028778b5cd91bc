use Rattle.std.proofs.Common.{refl, ap, ◌∙◌}
use Rattle.std.proofs.lemmas.Result.{err_from_is_err_and}
use Rattle.http_link.specs.declared.serve.Served.TheVariants.{Closed, Ended}
use Rattle.service.specs.declared.worker.Over.TheVariants as over
use Rattle.service.proofs.Conversing.{answered_here, asks_here, closed_not_kept, either, ended_not_kept, serves_here, talk_at, talk_awaits, talk_begins, talk_ends, talk_fails, talk_faults, talk_kept, talk_over, talk_yields}
use Rattle.service.proofs.worker.Worker.converse.Goals as goal

pub loop-init : goal.loop-init
loop-init g c = record {
  office = refl;
  clock = refl;
  talk = talk_begins _ _ _ _ _ c.requires.fresh;
}

pub returns-in_err-await_more-clause-heard : goal.returns-in_err-await_more-clause-heard
returns-in_err-await_more-clause-heard g c =
    let p = err_from_is_err_and c.from_residual.result c.from_residual.ensures.1 in
    rw p.1 (talk_fails _ _ _ _ _ (g.P.Read.remaining c.await_more.new.r) _ _ p.0 c.loop.invariant.talk)

pub returns-then-not-branch-clause-heard : goal.returns-then-not-branch-clause-heard
returns-then-not-branch-clause-heard g c =
    let talk = talk_at _ _ _ _ _ (g.P.Read.remaining c.begin.new.self) _ _ c.begin.ensures.reads c.loop.invariant.talk in
    let waited = c.in_ok-await_more.ensures.awaited in
    talk_ends _ _ _ _ (g.P.Read.remaining c.await_more.new.r) c.await_more.new.self _
    (talk_awaits _ _ _ _ _ _ _ _ c.in_ok-await_more.field-0 _ c.more_may_come.ensures talk waited) (waited.ended c.if-not-branch.true).1

pub returns-in_err-serve_next-clause-heard : goal.returns-in_err-serve_next-clause-heard
returns-in_err-serve_next-clause-heard g c =
    let p = err_from_is_err_and c.from_residual-in_err-serve_next.result c.from_residual-in_err-serve_next.ensures.1 in
    let talk = talk_at _ _ _ _ _ (g.P.Read.remaining c.begin.new.self) _ _ c.begin.ensures.reads c.loop.invariant.talk in
    let waited = talk_awaits _ _ _ _ _ _ _ _ c.in_ok-await_more.field-0 _ c.more_may_come.ensures talk c.in_ok-await_more.ensures.awaited in
    let ready = talk_at _ _ _ _ _ (g.P.Read.remaining c.begin-in-loop.new.self) _ _ c.begin-in-loop.ensures.reads waited in
    let office = ap (λ o. o.now) c.loop.invariant.office in
    let clock = ap (λ k. k.now) c.loop.invariant.clock in
    rw p.1 (talk_faults _ _ _ _ _ (g.P.Read.remaining c.serve_next.new.r) _ _ c.serve_next.new.service.desk _ _ p.0 c.more_may_come.ensures ready
    (asks_here _ _ _ _ _ _ _ office c.serve_next.ensures.asks) (λ same. ap (λ w. w.desk) same)
    (λ asked asks. answered_here g.C.Clock.gives _ _ _ _ _ asked _ clock office asks.2))

pub loop-preserved : goal.loop-preserved
loop-preserved g c =
    let talk = talk_at _ _ _ _ _ (g.P.Read.remaining c.begin.new.self) _ _ c.begin.ensures.reads c.loop.invariant.talk in
    let waited = talk_awaits _ _ _ _ _ _ _ _ c.in_ok-await_more.field-0 _ c.more_may_come.ensures talk c.in_ok-await_more.ensures.awaited in
    let ready = talk_at _ _ _ _ _ (g.P.Read.remaining c.begin-in-loop.new.self) _ _ c.begin-in-loop.ensures.reads waited in
    let office = ap (λ o. o.now) c.loop.invariant.office in
    let clock = ap (λ k. k.now) c.loop.invariant.clock in
    record {
      office = either c.serve_next.ensures.asks (λ same. ap (λ w. w.office) same ∙ c.loop.invariant.office) (λ it. it.asks.0 ∙ c.loop.invariant.office);
      clock = either c.serve_next.ensures.asks (λ same. ap (λ w. w.clock) same ∙ c.loop.invariant.clock) (λ it. it.asks.1 ∙ c.loop.invariant.clock);
      talk = talk_kept _ _ _ _ _ (g.P.Read.remaining c.serve_next.new.r) _ c.serve_next.new.inbox _ c.serve_next.new.service.desk _ c.more_may_come.ensures ready
          (serves_here _ _ _ _ _ _ _ office (rw c.in-Kept.is at c.in_ok-serve_next.ensures.serves)) refl
          (λ asked asks. answered_here g.C.Clock.gives _ _ _ _ _ asked _ clock office asks.2);
    }

pub returns-in-Closed-clause-heard : goal.returns-in-Closed-clause-heard
returns-in-Closed-clause-heard g c =
    let talk = talk_at _ _ _ _ _ (g.P.Read.remaining c.begin.new.self) _ _ c.begin.ensures.reads c.loop.invariant.talk in
    let waited = talk_awaits _ _ _ _ _ _ _ _ c.in_ok-await_more.field-0 _ c.more_may_come.ensures talk c.in_ok-await_more.ensures.awaited in
    let ready = talk_at _ _ _ _ _ (g.P.Read.remaining c.begin-in-loop.new.self) _ _ c.begin-in-loop.ensures.reads waited in
    let office = ap (λ o. o.now) c.loop.invariant.office in
    let clock = ap (λ k. k.now) c.loop.invariant.clock in
    talk_over _ _ _ _ _ (g.P.Read.remaining c.serve_next.new.r) _ _ c.serve_next.new.service.desk _ Closed over.Closed (λ e. closed_not_kept e) (λ left last o. o) c.more_may_come.ensures ready
    (serves_here _ _ _ _ _ _ _ office (rw c.in-Closed.is at c.in_ok-serve_next.ensures.serves)) (λ same. ap (λ w. w.desk) same)
    (λ asked asks. answered_here g.C.Clock.gives _ _ _ _ _ asked _ clock office asks.2)

pub returns-in-Ended-clause-heard : goal.returns-in-Ended-clause-heard
returns-in-Ended-clause-heard g c =
    let talk = talk_at _ _ _ _ _ (g.P.Read.remaining c.begin.new.self) _ _ c.begin.ensures.reads c.loop.invariant.talk in
    let waited = talk_awaits _ _ _ _ _ _ _ _ c.in_ok-await_more.field-0 _ c.more_may_come.ensures talk c.in_ok-await_more.ensures.awaited in
    let ready = talk_at _ _ _ _ _ (g.P.Read.remaining c.begin-in-loop.new.self) _ _ c.begin-in-loop.ensures.reads waited in
    let office = ap (λ o. o.now) c.loop.invariant.office in
    let clock = ap (λ k. k.now) c.loop.invariant.clock in
    talk_over _ _ _ _ _ (g.P.Read.remaining c.serve_next.new.r) _ _ c.serve_next.new.service.desk _ Ended over.Ended (λ e. ended_not_kept e) (λ left last o. o) c.more_may_come.ensures ready
    (serves_here _ _ _ _ _ _ _ office (rw c.in-Ended.is at c.in_ok-serve_next.ensures.serves)) (λ same. ap (λ w. w.desk) same)
    (λ asked asks. answered_here g.C.Clock.gives _ _ _ _ _ asked _ clock office asks.2)

pub returns-then-is_empty-clause-heard : goal.returns-then-is_empty-clause-heard
returns-then-is_empty-clause-heard g c =
    talk_yields _ _ _ _ (g.P.Read.remaining c.loop.reader) c.loop.inbox _ c.loop.invariant.talk (c.is_empty.ensures.0 c.if-is_empty.true)
