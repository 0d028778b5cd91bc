use Rattle.std.proofs.Common.{◌≡◌, ◌⊎◌, List, ℕ, arith, take, false}
use Rattle.http_link.specs.Limits.{max_head}
use Rattle.http_link.specs.Bodies.{BeginsNothing, IsTrailerText, ends_section}
use Rattle.http_link.specs.BodyReading.{AreTrailersIn, TakesText, no_more}
use Rattle.http_link.specs.declared.intake.Sought.TheVariants.{Section}
use Rattle.http_link.specs.declared.intake.Text.TheVariants.{Found, TooLong}
use Rattle.http_link.specs.StreamCalls.{held_of, to_come}
use Rattle.http_link.proofs.ChunkedBodies.{makes_long, makes_wrong}
use Rattle.http_link.proofs.Sparing.{spares_as}
use Rattle.http_link.proofs.chunks.read_end.Goals as goal

pub returns-else-are_trailers-clause-taken : goal.returns-else-are_trailers-clause-taken
returns-else-are_trailers-clause-taken g c =
    let taken : TakesText Section (held_of c.args.stream.now) (to_come c.args.stream.now) (to_come c.read_text.new.stream) (held_of c.read_text.new.stream) c.read_text.new.text (Found c.in-Found.n) =
    rw c.in-Found.is at c.in_ok-n.ensures.taken in
    let none : AreTrailersIn (take c.in-Found.n c.read_text.new.text) false = rw c.if-are_trailers.false at c.are_trailers.ensures in
    makes_wrong ends_section max_head IsTrailerText _ _ _ (take c.in-Found.n c.read_text.new.text) _ taken.1 taken.2 none

pub returns-in-TooLong-clause-taken : goal.returns-in-TooLong-clause-taken
returns-in-TooLong-clause-taken g c =
    let taken : TakesText Section (held_of c.args.stream.now) (to_come c.args.stream.now) (to_come c.read_text.new.stream) (held_of c.read_text.new.stream) c.read_text.new.text TooLong =
    rw c.in-TooLong.is at c.in_ok-n.ensures.taken in
    makes_long ends_section max_head IsTrailerText _ _ _ c.read_text.new.text _ (omega arith) taken.0 taken.1

pub returns-else-are_trailers-clause-at_once : goal.returns-else-are_trailers-clause-at_once
returns-else-are_trailers-clause-at_once g c =
    let had : List ℕ = (held_of c.args.stream.now) in
    let has : List ℕ = held_of c.read_text.new.stream in
    let taken : ((c.read_text.new.stream.reader.now ≡ c.args.stream.now.reader.now) × TakesText Section had no_more no_more has c.read_text.new.text (Found c.in-Found.n)) ⊎ BeginsNothing ends_section max_head had =
    rw c.in-Found.is at c.in_ok-n.ensures.at_once in
    let none : AreTrailersIn (take c.in-Found.n c.read_text.new.text) false = rw c.if-are_trailers.false at c.are_trailers.ensures in
    spares_as c.args.stream.now.reader.now c.read_text.new.stream.reader.now taken
    (λ found. makes_wrong ends_section max_head IsTrailerText had no_more no_more (take c.in-Found.n c.read_text.new.text) has found.1 found.2 none) (λ few. few)

pub returns-in-TooLong-clause-at_once : goal.returns-in-TooLong-clause-at_once
returns-in-TooLong-clause-at_once g c =
    let had : List ℕ = (held_of c.args.stream.now) in
    let has : List ℕ = held_of c.read_text.new.stream in
    let taken : ((c.read_text.new.stream.reader.now ≡ c.args.stream.now.reader.now) × TakesText Section had no_more no_more has c.read_text.new.text TooLong) ⊎ BeginsNothing ends_section max_head had =
    rw c.in-TooLong.is at c.in_ok-n.ensures.at_once in
    spares_as c.args.stream.now.reader.now c.read_text.new.stream.reader.now taken
    (λ long. makes_long ends_section max_head IsTrailerText had no_more no_more c.read_text.new.text has (omega arith) long.0 long.1) (λ few. few)
