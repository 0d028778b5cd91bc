use Rattle.std.proofs.Common.{rules, ◌≡◌, refl, inr}
use Rattle.std.specs.Io.KnownBytes.{Appends}
use Rattle.http_link.specs.Answers.{continue_text}
use Rattle.http_link.specs.Lines.{head_at, wanted_at}
use Rattle.http_link.specs.Requests.{waits}
use Rattle.http_link.specs.Bodies.{IsBody}
use Rattle.http_link.specs.BodyReading.{ReadsAs}
use Rattle.http_link.specs.declared.bodies.BodyRead.TheVariants.{Bad, Cut, Whole}
use Rattle.http_link.specs.StreamCalls.{held_of, to_come}
use Rattle.http_link.proofs.Serving.{bad_runs, cut_runs, whole_asks, whole_runs}
use Rattle.http_link.proofs.serve.serve_wanted.Goals as goal

pub returns-in-Whole-clause-runs : goal.returns-in-Whole-clause-runs
returns-in-Whole-clause-runs g c =
    let read : ReadsAs (held_of c.args.stream.now) (to_come c.args.stream.now) (to_come c.read_body.new.stream) (held_of c.read_body.new.stream) c.read_body.new.stream.room.now (IsBody c.args.request.wanted.framing) (Whole c.in-Whole.size) =
    rw c.in-Whole.is at c.in_ok-size.ensures.reads in
    let interim : Appends (g.W.Write.contents c.args.w.now) (g.W.Write.contents c.write_all.new.w) (continue_text (waits (head_at c.args.request.head))) =
    rw (← c.requires.waits, ← c.continue_text.ensures) c.in_ok-write_all.ensures.whole in
    whole_runs c.answer.result (wanted_at c.args.request.wanted) (head_at c.args.request.head) _ _ _ _ c.read_body.new.stream.room.now c.in-Whole.size _ _ _ _ _ _ read interim (rw (c.requires.closes, c.front.ensures) at c.answer.ensures.answered)

pub returns-in-Cut-clause-runs : goal.returns-in-Cut-clause-runs
returns-in-Cut-clause-runs g c =
    let read : ReadsAs (held_of c.args.stream.now) (to_come c.args.stream.now) (to_come c.read_body.new.stream) (held_of c.read_body.new.stream) c.read_body.new.stream.room.now (IsBody c.args.request.wanted.framing) Cut =
    rw c.in-Cut.is at c.in_ok-size.ensures.reads in
    let interim : Appends (g.W.Write.contents c.args.w.now) (g.W.Write.contents c.write_all.new.w) (continue_text (waits (head_at c.args.request.head))) =
    rw (← c.requires.waits, ← c.continue_text.ensures) c.in_ok-write_all.ensures.whole in
    cut_runs (wanted_at c.args.request.wanted) (head_at c.args.request.head) _ _ _ _ c.read_body.new.stream.room.now _ _ _ _ _ read interim refl

pub returns-in-Bad-clause-runs : goal.returns-in-Bad-clause-runs
returns-in-Bad-clause-runs g c =
    let read : ReadsAs (held_of c.args.stream.now) (to_come c.args.stream.now) (to_come c.read_body.new.stream) (held_of c.read_body.new.stream) c.read_body.new.stream.room.now (IsBody c.args.request.wanted.framing) (Bad c.in-Bad.fault) =
    rw c.in-Bad.is at c.in_ok-size.ensures.reads in
    let interim : Appends (g.W.Write.contents c.args.w.now) (g.W.Write.contents c.write_all.new.w) (continue_text (waits (head_at c.args.request.head))) =
    rw (← c.requires.waits, ← c.continue_text.ensures) c.in_ok-write_all.ensures.whole in
    bad_runs c.refuse.result (wanted_at c.args.request.wanted) (head_at c.args.request.head) c.in-Bad.fault _ _ _ _ c.read_body.new.stream.room.now _ _ _ _ _ _ read interim refl
    (rw (← c.refusal_of.ensures) c.refuse.ensures.refused)

pub returns-in-Whole-clause-asks : goal.returns-in-Whole-clause-asks
returns-in-Whole-clause-asks g c =
    let read : ReadsAs (held_of c.args.stream.now) (to_come c.args.stream.now) (to_come c.read_body.new.stream) (held_of c.read_body.new.stream) c.read_body.new.stream.room.now (IsBody c.args.request.wanted.framing) (Whole c.in-Whole.size) =
    rw c.in-Whole.is at c.in_ok-size.ensures.reads in
    whole_asks (wanted_at c.args.request.wanted) _ _ _ _ c.read_body.new.stream.room.now c.in-Whole.size
    (c.answer.new.service ≡ c.args.service.now) (λ question. g.S.Service.asks c.args.service.now question c.answer.new.service) read (rw c.front.ensures at c.answer.ensures.asked)

pub returns-in-Whole-clause-reports : goal.returns-in-Whole-clause-reports
returns-in-Whole-clause-reports g c = record {
  continues = search rules;
  read = search rules;
  write = search rules;
  turns = λ fault. inr (λ n least. c.answer.ensures.told.turns fault n (c.write_all.ensures.kept n least));
}

pub returns-in-Bad-clause-reports : goal.returns-in-Bad-clause-reports
returns-in-Bad-clause-reports g c = record {
  continues = search rules;
  read = search rules;
  write = search rules;
  turns = λ fault. inr (λ n least. c.refuse.ensures.told.turns fault n (c.write_all.ensures.kept n least));
}
