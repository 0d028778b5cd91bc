use Rattle.std.proofs.Common.{◌++◌, sym, subst, take, Ok, Err}
use Rattle.http_link.specs.Bodies.{IsBody}
use Rattle.http_link.specs.BodyReading.{ReadsAs}
use Rattle.http_link.specs.Client.{MeansFramed}
use Rattle.http_link.specs.declared.bodies.BodyFault.TheVariants.{Malformed, TooLarge}
use Rattle.http_link.specs.declared.bodies.BodyRead.TheVariants.{Bad, Cut, Whole}
use Rattle.http_link.specs.declared.posting.AnswerFraming.{AnswerFraming}
use Rattle.http_link.specs.declared.posting.PostFault.TheVariants as fault
use Rattle.http_link.specs.StreamCalls.{held_of, to_come}
use Rattle.http_link.proofs.Client.{body_means}
use Rattle.http_link.proofs.posting.read_framed.Goals as goal

pub returns-in-Whole-clause-gives : goal.returns-in-Whole-clause-gives
returns-in-Whole-clause-gives g c rest e not_read not_turns =
    let had = held_of c.args.stream.now in
    let read : ReadsAs had (to_come c.args.stream.now) (to_come c.read_body.new.stream) (held_of c.read_body.new.stream) c.read_body.new.stream.room.now (IsBody c.in-Framed.framing) (Whole c.in-Whole.n) =
    rw c.in-Whole.is at c.in_ok-n.ensures.reads in
    subst (λ (f : AnswerFraming). MeansFramed f (had ++ rest) (Ok (take c.in-Whole.n c.read_body.new.stream.room.now))) (sym c.in-Framed.is) (body_means c.in-Framed.framing _ _ _ _ _ _ rest read e)

pub returns-in-Cut-clause-gives : goal.returns-in-Cut-clause-gives
returns-in-Cut-clause-gives g c rest e not_read not_turns =
    let had = held_of c.args.stream.now in
    let read : ReadsAs had (to_come c.args.stream.now) (to_come c.read_body.new.stream) (held_of c.read_body.new.stream) c.read_body.new.stream.room.now (IsBody c.in-Framed.framing) Cut =
    rw c.in-Cut.is at c.in_ok-n.ensures.reads in
    subst (λ (f : AnswerFraming). MeansFramed f (had ++ rest) (Err fault.Cut)) (sym c.in-Framed.is) (body_means c.in-Framed.framing _ _ _ _ _ _ rest read e)

pub returns-in-Bad-Malformed-clause-gives : goal.returns-in-Bad-Malformed-clause-gives
returns-in-Bad-Malformed-clause-gives g c rest e not_read not_turns =
    let had = held_of c.args.stream.now in
    let read : ReadsAs had (to_come c.args.stream.now) (to_come c.read_body.new.stream) (held_of c.read_body.new.stream) c.read_body.new.stream.room.now (IsBody c.in-Framed.framing) (Bad Malformed) =
    rw (c.in-Bad-Malformed.is, c.in-Bad-Malformed.field-0-is) at c.in_ok-n.ensures.reads in
    subst (λ (f : AnswerFraming). MeansFramed f (had ++ rest) (Err fault.Unframed)) (sym c.in-Framed.is) (body_means c.in-Framed.framing _ _ _ _ _ _ rest read e)

pub returns-in-Bad-TooLarge-clause-gives : goal.returns-in-Bad-TooLarge-clause-gives
returns-in-Bad-TooLarge-clause-gives g c rest e not_read not_turns =
    let had = held_of c.args.stream.now in
    let read : ReadsAs had (to_come c.args.stream.now) (to_come c.read_body.new.stream) (held_of c.read_body.new.stream) c.read_body.new.stream.room.now (IsBody c.in-Framed.framing) (Bad TooLarge) =
    rw (c.in-Bad-TooLarge.is, c.in-Bad-TooLarge.field-0-is) at c.in_ok-n.ensures.reads in
    subst (λ (f : AnswerFraming). MeansFramed f (had ++ rest) (Err fault.Size)) (sym c.in-Framed.is) (body_means c.in-Framed.framing _ _ _ _ _ _ rest read e)
