use Rattle.std.proofs.Common.{◌↔◌, ◌<◌, Err, IfOk, ◌⊎◌, subst, ◌≡◌, List, ℕ, [], take, Some, ap, refl, arith, rules, inl, inr}
use Rattle.http_link.specs.Limits.{max_turns}
use Rattle.http_link.specs.StreamCalls.{to_come}
use Rattle.http_link.specs.Counts.{MadeAll, MadeMore}
use Rattle.std.specs.Io.KnownBytes.{Appends}
use Rattle.http_link.specs.Heads.{head_of}
use Rattle.http_link.specs.Serving.{IsServed}
use Rattle.http_link.specs.declared.streams.LinkFault.TheVariants.{Read}
use Rattle.http_link.proofs.Reported.{failed_since, found_fresh}
use Rattle.http_link.proofs.Takes.{none_held}
use Rattle.http_link.specs.Lines.{head_in}
use Rattle.http_link.specs.Requests.{wanted_of}
use Rattle.http_link.proofs.Serving.{asks_once, found_here, head_asked, head_served, malformed_first, none_here, partial_first}
use Rattle.http_link.proofs.Counting.{spent_all, spent_in_two}
use Rattle.http_link.proofs.serve.serve_one.Goals as goal

pub returns-in-Partial-clause-exact : goal.returns-in-Partial-clause-exact
returns-in-Partial-clause-exact g c stream head rest e begins =
    absurd (partial_first _ _ _ stream c.find_head.new.lines head rest (omega arith) (found_fresh _ _ _ _ _ _ _ _ _ _ c.new-stream.ensures.fresh.2 (ap g.R.Read.remaining c.new-stream.ensures.reader.1) refl (rw c.in-Partial.is at c.in_ok-find_head.ensures.found)) e begins)

pub returns-in-Malformed-clause-exact : goal.returns-in-Malformed-clause-exact
returns-in-Malformed-clause-exact g c stream head rest e begins =
    absurd (malformed_first _ _ _ stream c.find_head.new.lines head rest (omega arith) (found_fresh _ _ _ _ _ _ _ _ _ _ c.new-stream.ensures.fresh.2 (ap g.R.Read.remaining c.new-stream.ensures.reader.1) refl (rw c.in-Malformed.is at c.in_ok-find_head.ensures.found)) e begins)

pub returns-in-Whole-clause-exact : goal.returns-in-Whole-clause-exact
returns-in-Whole-clause-exact g c stream head rest e begins =
    subst
    (λ r. IfOk c.serve_head.result (IsServed (wanted_of (g.S.Service.tenant_of c.args.service.now) (head_of head)) (head_of head) rest (record {
      Unasked = c.serve_head.new.service ≡ c.args.service.now;
      Asks = λ question. g.S.Service.asks c.args.service.now question c.serve_head.new.service;
      answer = g.S.Service.answer c.serve_head.new.service;
      left = g.R.Read.remaining r;
      Writes = λ text. Appends (g.W.Write.contents c.args.w.now) (g.W.Write.contents c.serve_head.new.w) text;
    })))
    (search rules)
    (head_served c.serve_head.result (g.S.Service.tenant_of c.args.service.now) (head_in (take c.in-Whole.spans.len c.copy_front.new.text) c.find_head.new.lines c.in-Whole.spans) (to_come c.find_head.new.stream) (to_come c.serve_head.new.stream) _ head rest
    (ap Some (none_held c.serve_head.new.stream.room.now c.serve_head.new.stream.held (c.serve_head.ensures.exact (search rules) (omega arith))))
    (found_here (head_in (take c.in-Whole.spans.len c.copy_front.new.text) c.find_head.new.lines c.in-Whole.spans) _ _ c.find_head.new.stream.room.now stream c.find_head.new.stream.held.to c.find_head.new.lines c.in-Whole.spans head rest (omega arith) c.find_head.new.stream.lies.2
    (rw c.in-Whole.is at c.in_ok-find_head.ensures.exact c.new-stream.ensures.reach (omega arith)) (found_fresh _ _ _ _ _ _ _ _ _ _ c.new-stream.ensures.fresh.2 (ap g.R.Read.remaining c.new-stream.ensures.reader.1) refl (rw c.in-Whole.is at c.in_ok-find_head.ensures.found))
    (ap (λ (t : List ℕ). head_in t c.find_head.new.lines c.in-Whole.spans) c.copy_front.ensures.copied) e begins) c.serve_head.ensures.runs)

pub returns-in-Whole-clause-asked_only : goal.returns-in-Whole-clause-asked_only
returns-in-Whole-clause-asked_only g c stream head rest e begins =
    head_asked (g.S.Service.tenant_of c.args.service.now) (head_in (take c.in-Whole.spans.len c.copy_front.new.text) c.find_head.new.lines c.in-Whole.spans) (to_come c.find_head.new.stream) (to_come c.serve_head.new.stream) _ _ head rest
    (found_here (head_in (take c.in-Whole.spans.len c.copy_front.new.text) c.find_head.new.lines c.in-Whole.spans) _ _ c.find_head.new.stream.room.now stream c.find_head.new.stream.held.to c.find_head.new.lines c.in-Whole.spans head rest (omega arith) c.find_head.new.stream.lies.2
    (rw c.in-Whole.is at c.in_ok-find_head.ensures.exact c.new-stream.ensures.reach (omega arith)) (found_fresh _ _ _ _ _ _ _ _ _ _ c.new-stream.ensures.fresh.2 (ap g.R.Read.remaining c.new-stream.ensures.reader.1) refl (rw c.in-Whole.is at c.in_ok-find_head.ensures.found))
    (ap (λ (t : List ℕ). head_in t c.find_head.new.lines c.in-Whole.spans) c.copy_front.ensures.copied) e begins) c.serve_head.ensures.asks

pub returns-in-Whole-clause-turned_away : goal.returns-in-Whole-clause-turned_away
returns-in-Whole-clause-turned_away g c stream e none =
    absurd (none_here _ _ c.find_head.new.stream.room.now stream c.find_head.new.stream.held.to c.find_head.new.lines c.in-Whole.spans (omega arith) c.find_head.new.stream.lies.2
    (rw c.in-Whole.is at c.in_ok-find_head.ensures.exact c.new-stream.ensures.reach (omega arith)) (found_fresh _ _ _ _ _ _ _ _ _ _ c.new-stream.ensures.fresh.2 (ap g.R.Read.remaining c.new-stream.ensures.reader.1) refl (rw c.in-Whole.is at c.in_ok-find_head.ensures.found)) e none)

pub returns-in-Whole-clause-asked_once : goal.returns-in-Whole-clause-asked_once
returns-in-Whole-clause-asked_once g c =
    asks_once (wanted_of (g.S.Service.tenant_of c.args.service.now) (head_in (take c.in-Whole.spans.len c.copy_front.new.text) c.find_head.new.lines c.in-Whole.spans)) [] (to_come c.find_head.new.stream) (to_come c.serve_head.new.stream)
    (c.serve_head.new.service ≡ c.args.service.now) (λ question. g.S.Service.asks c.args.service.now question c.serve_head.new.service) c.serve_head.ensures.asks

pub returns-in_err-find_head-clause-turns : goal.returns-in_err-find_head-clause-turns
returns-in_err-find_head-clause-turns g c told =
    let made : MadeMore g.R.Source.was_read c.args.r.now c.find_head.new.stream.reader.now max_turns = spent_all g.R.Source.was_read c.args.r.now c.find_head.new.stream.reader.now max_turns c.find_head.new.stream.turns (search rules) (search rules) in
    inl (subst (λ r. MadeMore g.R.Source.was_read c.args.r.now r max_turns) (search rules) made)

pub returns-in-Whole-clause-turns : goal.returns-in-Whole-clause-turns
returns-in-Whole-clause-turns g c told =
    let made : MadeMore g.R.Source.was_read c.args.r.now c.serve_head.new.stream.reader.now max_turns ⊎ MadeAll g.W.Sink.was_written c.args.w.now c.serve_head.new.w =
    spent_in_two g.R.Source.was_read c.args.r.now c.find_head.new.stream.reader.now c.serve_head.new.stream.reader.now max_turns c.find_head.new.stream.turns c.serve_head.new.stream.turns
    (search rules) (search rules) (c.serve_head.ensures.reports.turns told) in
    subst (λ r. MadeMore g.R.Source.was_read c.args.r.now r max_turns ⊎ MadeAll g.W.Sink.was_written c.args.w.now c.serve_head.new.w) (search rules) made

pub returns-in-Malformed-clause-turns : goal.returns-in-Malformed-clause-turns
returns-in-Malformed-clause-turns g c told = inr (c.refuse.ensures.told.turns told)

pub returns-in-Whole-clause-read : goal.returns-in-Whole-clause-read
returns-in-Whole-clause-read g c =
    let count = g.R.Device.failure_count in
    let same : c.find_head.new.stream.failures ≡ count c.args.r.now = search rules in
    subst (λ r. (c.serve_head.result ≡ Err Read) ↔ (count c.args.r.now < count r)) (search rules)
    (failed_since (count c.args.r.now) c.find_head.new.stream.failures c.serve_head.new.stream.failures (count c.serve_head.new.stream.reader.now) same
    c.serve_head.ensures.reports.read c.serve_head.new.stream.unfailed c.serve_head.ensures.reports.continues.exact)
