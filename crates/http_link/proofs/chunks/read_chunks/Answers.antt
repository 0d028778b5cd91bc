use Rattle.std.proofs.Common.{rules, ◌≡◌, ◌⊎◌, inl, List, ℕ, ◌-◌, refl, subst, sym, arith}
use Rattle.http_link.specs.Bodies.{IsCutShort}
use Rattle.http_link.specs.BodyReading.{StepsTo, TakesStep, no_more}
use Rattle.http_link.specs.declared.chunks.Step.TheVariants.{More, Over}
use Rattle.http_link.specs.StreamCalls.{held_of, to_come}
use Rattle.http_link.proofs.ChunkedBodies.{Gathers, at_most, gathers_all, gathers_more, gathers_none}
use Rattle.http_link.proofs.Sparing.{chunks_spare, spares_only}
use Rattle.http_link.proofs.chunks.read_chunks.Goals as goal

pub loop-read-init : goal.loop-read-init
loop-read-init g c =
    let had : List ℕ = held_of c.args.stream.now in
    let room : List ℕ = c.args.stream.now.room.now in record {
      fits = omega arith;
      chunks = subst (Gathers had (to_come c.args.stream.now) (to_come c.args.stream.now) had room) (sym c.requires.none) (gathers_none had (to_come c.args.stream.now) room);
      exact = λ no none. none;
      at_once = inl (refl, subst (Gathers had no_more no_more had room) (sym c.requires.none) (gathers_none had no_more room));
      failures = refl;
      continues = search rules;
    }

pub loop-read-preserved : goal.loop-read-preserved
loop-read-preserved g c =
    let held : List ℕ = held_of c.loop-read.stream in
    let has : List ℕ = held_of c.read_step.new.stream in
    let step : TakesStep held (to_come c.loop-read.stream) (to_come c.read_step.new.stream) has c.args.most c.loop-read.stream.done c.read_step.new.stream.done c.loop-read.stream.room.now c.read_step.new.stream.room.now More =
    rw c.in-More.is at c.in_ok-read_step.ensures.taken in
    let alone : ((c.read_step.new.stream.reader.now ≡ c.loop-read.stream.reader.now) × TakesStep held no_more no_more has c.args.most c.loop-read.stream.done c.read_step.new.stream.done c.loop-read.stream.room.now c.read_step.new.stream.room.now More) ⊎ IsCutShort (c.args.most - c.loop-read.stream.done) held =
    rw c.in-More.is at c.in_ok-read_step.ensures.at_once in record {
      fits = step.3;
      chunks = gathers_more _ _ _ _ _ _ c.loop-read.stream.room.now c.read_step.new.stream.room.now c.args.most c.loop-read.stream.done c.read_step.new.stream.done c.loop-read.invariant.chunks step;
      exact = λ no none. c.in_ok-read_step.ensures.exact (search rules) (c.loop-read.invariant.exact no none);
      at_once = chunks_spare c.args.stream.now.reader.now c.loop-read.stream.reader.now c.read_step.new.stream.reader.now _ held c.loop-read.stream.room.now c.args.most c.loop-read.stream.done c.loop-read.invariant.fits (let lies = c.loop-read.stream.lies in omega arith) c.loop-read.invariant.at_once alone
          (λ one two. gathers_more _ no_more no_more no_more held has c.loop-read.stream.room.now c.read_step.new.stream.room.now c.args.most c.loop-read.stream.done c.read_step.new.stream.done one two);
      failures = search rules;
      continues = search rules;
    }

pub returns-in-Over-clause-reads : goal.returns-in-Over-clause-reads
returns-in-Over-clause-reads g c =
    let step : TakesStep (held_of c.loop-read.stream) (to_come c.loop-read.stream) (to_come c.read_step.new.stream) (held_of c.read_step.new.stream) c.args.most c.loop-read.stream.done c.read_step.new.stream.done c.loop-read.stream.room.now c.read_step.new.stream.room.now (Over c.in-Over.read) =
    rw c.in-Over.is at c.in_ok-read_step.ensures.taken in
    gathers_all _ _ _ _ _ _ c.loop-read.stream.room.now c.read_step.new.stream.room.now c.args.most c.loop-read.stream.done c.read_step.new.stream.done c.in-Over.read c.loop-read.invariant.chunks c.loop-read.invariant.fits
    (let lies = c.loop-read.stream.lies in omega arith) step

pub returns-in-Over-clause-fits : goal.returns-in-Over-clause-fits
returns-in-Over-clause-fits g c =
    let step : StepsTo c.loop-read.stream.done (Over c.in-Over.read) = rw c.in-Over.is at c.in_ok-read_step.ensures.fits in
    at_most c.loop-read.stream.done c.args.most c.in-Over.read c.loop-read.invariant.fits step

pub returns-in_err-read_step-clause-at_once : goal.returns-in_err-read_step-clause-at_once
returns-in_err-read_step-clause-at_once g c =
    spares_only c.args.stream.now.reader.now c.read_step.new.stream.reader.now
    (chunks_spare c.args.stream.now.reader.now c.loop-read.stream.reader.now c.read_step.new.stream.reader.now _ _ c.loop-read.stream.room.now c.args.most c.loop-read.stream.done c.loop-read.invariant.fits
    (let lies = c.loop-read.stream.lies in omega arith) c.loop-read.invariant.at_once c.read_step.ensures.at_once (λ one two. one))

pub returns-in-Over-clause-at_once : goal.returns-in-Over-clause-at_once
returns-in-Over-clause-at_once g c =
    spares_only c.args.stream.now.reader.now c.read_step.new.stream.reader.now
    (chunks_spare c.args.stream.now.reader.now c.loop-read.stream.reader.now c.read_step.new.stream.reader.now _ _ c.loop-read.stream.room.now c.args.most c.loop-read.stream.done c.loop-read.invariant.fits
    (let lies = c.loop-read.stream.lies in omega arith) c.loop-read.invariant.at_once c.read_step.ensures.at_once (λ one two. one))
