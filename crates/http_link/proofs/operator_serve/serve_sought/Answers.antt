use Rattle.std.proofs.Common.{rules, ◌≡◌, [], refl, inr, arith}
use Rattle.std.specs.Io.KnownBytes.{Appends}
use Rattle.http_link.specs.Lines.{head_at}
use Rattle.http_link.specs.Bodies.{IsBody}
use Rattle.http_link.specs.BodyReading.{ReadsAs}
use Rattle.http_link.specs.OperatorDoor.{operator_interim, operator_sought_at}
use Rattle.http_link.specs.declared.bodies.BodyRead.TheVariants.{Bad, Cut, Whole}
use Rattle.http_link.specs.StreamCalls.{held_of, to_come}
use Rattle.http_link.proofs.OperatorServing.{bad_runs, cut_runs, reads_fresh, whole_asks, whole_runs}
use Rattle.http_link.proofs.Takes.{none_held}
use Rattle.http_link.proofs.operator_serve.serve_sought.Goals as goal

pub returns-in-Whole-clause-runs : goal.returns-in-Whole-clause-runs
returns-in-Whole-clause-runs g c =
    let none = none_held c.read_body.new.stream.room.now c.read_body.new.stream.held (c.read_body.ensures.exact c.requires.needed (omega arith)) in
    let read : ReadsAs [] (to_come c.args.stream.now) (to_come c.read_body.new.stream) (held_of c.read_body.new.stream) c.read_body.new.stream.room.now (IsBody c.args.request.sought.framing) (Whole c.in-Whole.size) =
    reads_fresh _ c.args.stream.now.held _ _ _ _ _ _ (omega arith) (rw c.in-Whole.is at c.in_ok-size.ensures.reads) in
    let interim : Appends (g.W.Write.contents c.args.w.now) (g.W.Write.contents c.write_all.new.w) (operator_interim c.args.request.sought.wanted.request (head_at c.args.request.head)) =
    rw (← c.interim.ensures) c.in_ok-write_all.ensures.whole in
    whole_runs c.ask_operator.result (operator_sought_at c.args.request.sought) (head_at c.args.request.head) _ _ _ c.read_body.new.stream.room.now c.in-Whole.size _ _ _ _ _ _ none read interim (rw c.front.ensures at c.ask_operator.ensures.answered)

pub returns-in-Cut-clause-runs : goal.returns-in-Cut-clause-runs
returns-in-Cut-clause-runs g c =
    let read : ReadsAs [] (to_come c.args.stream.now) (to_come c.read_body.new.stream) (held_of c.read_body.new.stream) c.read_body.new.stream.room.now (IsBody c.args.request.sought.framing) Cut =
    reads_fresh _ c.args.stream.now.held _ _ _ _ _ _ (omega arith) (rw c.in-Cut.is at c.in_ok-size.ensures.reads) in
    let interim : Appends (g.W.Write.contents c.args.w.now) (g.W.Write.contents c.write_all.new.w) (operator_interim c.args.request.sought.wanted.request (head_at c.args.request.head)) =
    rw (← c.interim.ensures) c.in_ok-write_all.ensures.whole in
    cut_runs (operator_sought_at c.args.request.sought) (head_at c.args.request.head) _ _ _ c.read_body.new.stream.room.now _ _ _ _ _ read interim refl

pub returns-in-Bad-clause-runs : goal.returns-in-Bad-clause-runs
returns-in-Bad-clause-runs g c =
    let read : ReadsAs [] (to_come c.args.stream.now) (to_come c.read_body.new.stream) (held_of c.read_body.new.stream) c.read_body.new.stream.room.now (IsBody c.args.request.sought.framing) (Bad c.in-Bad.fault) =
    reads_fresh _ c.args.stream.now.held _ _ _ _ _ _ (omega arith) (rw c.in-Bad.is at c.in_ok-size.ensures.reads) in
    let interim : Appends (g.W.Write.contents c.args.w.now) (g.W.Write.contents c.write_all.new.w) (operator_interim c.args.request.sought.wanted.request (head_at c.args.request.head)) =
    rw (← c.interim.ensures) c.in_ok-write_all.ensures.whole in
    bad_runs c.refuse.result (operator_sought_at c.args.request.sought) (head_at c.args.request.head) c.in-Bad.fault _ _ _ c.read_body.new.stream.room.now _ _ _ _ _ _ read interim refl
    (rw (← c.refusal_of.ensures) c.refuse.ensures.refused)

pub returns-in-Whole-clause-asks : goal.returns-in-Whole-clause-asks
returns-in-Whole-clause-asks g c =
    let read : ReadsAs [] (to_come c.args.stream.now) (to_come c.read_body.new.stream) (held_of c.read_body.new.stream) c.read_body.new.stream.room.now (IsBody c.args.request.sought.framing) (Whole c.in-Whole.size) =
    reads_fresh _ c.args.stream.now.held _ _ _ _ _ _ (omega arith) (rw c.in-Whole.is at c.in_ok-size.ensures.reads) in
    whole_asks (operator_sought_at c.args.request.sought) _ _ _ c.read_body.new.stream.room.now c.in-Whole.size
    (c.ask_operator.new.service ≡ c.args.service.now) (λ question. g.S.OperatorService.asks c.args.service.now question c.ask_operator.new.service) read (rw c.front.ensures at c.ask_operator.ensures.asked)

pub returns-in-Whole-clause-reports : goal.returns-in-Whole-clause-reports
returns-in-Whole-clause-reports g c = record {
  continues = search rules;
  read = search rules;
  write = search rules;
  turns = λ fault. inr (λ n least. c.ask_operator.ensures.told.turns fault n (c.write_all.ensures.kept n least));
}

pub returns-in-Bad-clause-reports : goal.returns-in-Bad-clause-reports
returns-in-Bad-clause-reports g c = record {
  continues = search rules;
  read = search rules;
  write = search rules;
  turns = λ fault. inr (λ n least. c.refuse.ensures.told.turns fault n (c.write_all.ensures.kept n least));
}
