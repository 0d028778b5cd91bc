use Rattle.std.proofs.Common.{◌≡◌, ◌↔◌, ◌<◌, Err, IfOk, ap, subst, refl, arith, rules, inl, inr}
use Rattle.http_link.specs.Limits.{max_turns}
use Rattle.http_link.specs.Lines.{head_at}
use Rattle.http_link.specs.StreamCalls.{to_come}
use Rattle.http_link.specs.Counts.{MadeMore}
use Rattle.std.specs.Io.KnownBytes.{Appends}
use Rattle.http_link.specs.Doors.{IsServedAtDoor}
use Rattle.http_link.specs.Heads.{head_of}
use Rattle.http_link.specs.declared.streams.LinkFault.TheVariants.{Read}
use Rattle.http_link.proofs.Reported.{found_fresh}
use Rattle.http_link.proofs.Counting.{spent_all}
use Rattle.http_link.proofs.Doors.{door_asked, door_served}
use Rattle.http_link.proofs.Serving.{found_here, malformed_first, none_here, partial_first}
use Rattle.http_link.proofs.door.serve_door.Goals as goal

pub returns-in-Partial-clause-exact : goal.returns-in-Partial-clause-exact
returns-in-Partial-clause-exact g c stream head rest e begins =
    absurd (partial_first _ _ _ stream c.find_head.new.lines head rest (omega arith) (found_fresh _ _ _ _ _ _ _ _ _ _ c.new-stream.ensures.fresh.2 (ap g.R.Read.remaining c.new-stream.ensures.reader.1) refl (rw c.in-Partial.is at c.in_ok-find_head.ensures.found)) e begins)

pub returns-in-Malformed-clause-exact : goal.returns-in-Malformed-clause-exact
returns-in-Malformed-clause-exact g c stream head rest e begins =
    absurd (malformed_first _ _ _ stream c.find_head.new.lines head rest (omega arith) (found_fresh _ _ _ _ _ _ _ _ _ _ c.new-stream.ensures.fresh.2 (ap g.R.Read.remaining c.new-stream.ensures.reader.1) refl (rw c.in-Malformed.is at c.in_ok-find_head.ensures.found)) e begins)

pub returns-in-Whole-clause-exact : goal.returns-in-Whole-clause-exact
returns-in-Whole-clause-exact g c stream head rest e begins =
    subst
    (λ r. IfOk c.answer.result (IsServedAtDoor rest (g.R.Read.remaining r) (g.D.Answers.answers (head_of head) c.args.service.now c.answer.new.service)
    (λ text. Appends (g.W.Write.contents c.args.w.now) (g.W.Write.contents c.answer.new.w) text)))
    (search rules)
    (door_served c.answer.result (head_at c.head_in-head.result) (to_come c.find_head.new.stream) (λ head. g.D.Answers.answers head c.args.service.now c.answer.new.service) _ head rest
    (found_here (head_at c.head_in-head.result) _ _ c.find_head.new.stream.room.now stream c.find_head.new.stream.held.to c.find_head.new.lines c.in-Whole.spans head rest (omega arith) c.find_head.new.stream.lies.2
    (rw c.in-Whole.is at c.in_ok-find_head.ensures.exact c.new-stream.ensures.reach (omega arith)) (found_fresh _ _ _ _ _ _ _ _ _ _ c.new-stream.ensures.fresh.2 (ap g.R.Read.remaining c.new-stream.ensures.reader.1) refl (rw c.in-Whole.is at c.in_ok-find_head.ensures.found))
    (rw c.front.ensures at c.head_in-head.ensures) e begins) c.answer.ensures.answered)

pub returns-in-Whole-clause-asked_only : goal.returns-in-Whole-clause-asked_only
returns-in-Whole-clause-asked_only g c stream head rest e begins =
    inr (door_asked (head_at c.head_in-head.result) (to_come c.find_head.new.stream) (λ head. g.D.Answers.asks head c.args.service.now c.answer.new.service) head rest
    (found_here (head_at c.head_in-head.result) _ _ c.find_head.new.stream.room.now stream c.find_head.new.stream.held.to c.find_head.new.lines c.in-Whole.spans head rest (omega arith) c.find_head.new.stream.lies.2
    (rw c.in-Whole.is at c.in_ok-find_head.ensures.exact c.new-stream.ensures.reach (omega arith)) (found_fresh _ _ _ _ _ _ _ _ _ _ c.new-stream.ensures.fresh.2 (ap g.R.Read.remaining c.new-stream.ensures.reader.1) refl (rw c.in-Whole.is at c.in_ok-find_head.ensures.found))
    (rw c.front.ensures at c.head_in-head.ensures) e begins) c.answer.ensures.asked)

pub returns-in-Whole-clause-turned_away : goal.returns-in-Whole-clause-turned_away
returns-in-Whole-clause-turned_away g c stream e none =
    absurd (none_here _ _ c.find_head.new.stream.room.now stream c.find_head.new.stream.held.to c.find_head.new.lines c.in-Whole.spans (omega arith) c.find_head.new.stream.lies.2
    (rw c.in-Whole.is at c.in_ok-find_head.ensures.exact c.new-stream.ensures.reach (omega arith)) (found_fresh _ _ _ _ _ _ _ _ _ _ c.new-stream.ensures.fresh.2 (ap g.R.Read.remaining c.new-stream.ensures.reader.1) refl (rw c.in-Whole.is at c.in_ok-find_head.ensures.found)) e none)

pub returns-in-Whole-clause-asked_once : goal.returns-in-Whole-clause-asked_once
returns-in-Whole-clause-asked_once g c = inr (head_at c.head_in-head.result, c.answer.ensures.asked)

pub returns-in_err-find_head-clause-turns : goal.returns-in_err-find_head-clause-turns
returns-in_err-find_head-clause-turns g c told =
    let made : MadeMore g.R.Source.was_read c.args.r.now c.find_head.new.stream.reader.now max_turns = spent_all g.R.Source.was_read c.args.r.now c.find_head.new.stream.reader.now max_turns c.find_head.new.stream.turns (search rules) (search rules) in
    inl (subst (λ r. MadeMore g.R.Source.was_read c.args.r.now r max_turns) (search rules) made)

pub returns-in-Malformed-clause-turns : goal.returns-in-Malformed-clause-turns
returns-in-Malformed-clause-turns g c told = inr (c.refuse.ensures.told.turns told)

pub returns-in-Whole-clause-turns : goal.returns-in-Whole-clause-turns
returns-in-Whole-clause-turns g c told = inr (c.answer.ensures.told.turns told)

pub returns-in-Whole-clause-failed : goal.returns-in-Whole-clause-failed
returns-in-Whole-clause-failed g c =
    let count = g.R.Device.failure_count in
    let same : c.find_head.new.stream.failures ≡ count c.args.r.now = search rules in
    let most = c.find_head.new.stream.unfailed in (
      subst (λ r. (c.answer.result ≡ Err Read) ↔ (count c.args.r.now < count r)) (search rules)
          (λ fault. absurd (c.answer.ensures.told.read fault), λ (rises : count c.args.r.now < count c.find_head.new.stream.reader.now). absurd (omega arith)),
      search rules,
    )
