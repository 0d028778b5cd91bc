use Rattle.std.proofs.Common.{◌≡◌, ◌⊎◌, inl, List, ℕ, ◌-◌, arith, take}
use Rattle.http_link.specs.Limits.{max_chunk_line}
use Rattle.http_link.specs.Bodies.{BeginsNothing, ends_line}
use Rattle.http_link.specs.BodyReading.{TakesSize, no_more}
use Rattle.http_link.specs.declared.chunks.Stated.TheVariants.{Malformed, Short, Size}
use Rattle.http_link.specs.StreamCalls.{held_of, to_come}
use Rattle.http_link.proofs.ChunkedBodies.{fitting_read, last_read, line_cut, no_line, too_large}
use Rattle.http_link.proofs.Sparing.{chunk_cut, spares_as, spares_then, trailers_cut}
use Rattle.http_link.proofs.chunks.read_step.Goals as goal

pub returns-in-Size-eq0-clause-taken : goal.returns-in-Size-eq0-clause-taken
returns-in-Size-eq0-clause-taken g c =
    let one : TakesSize (held_of c.args.stream.now) (to_come c.args.stream.now) (to_come c.read_size.new.stream) (held_of c.read_size.new.stream) (Size 0) =
    rw (c.in-Size-eq0.is, c.in-Size-eq0.field-0-test) at c.in_ok-read_size.ensures.taken in
    last_read c.read_end.result _ _ _ _ one.0 _ _ c.args.most c.args.stream.now.done c.read_size.new.stream.done c.read_end.new.stream.done c.args.stream.now.room.now c.read_size.new.stream.room.now c.read_end.new.stream.room.now one.1 one.2 one.3 c.in_ok-read_size.ensures.kept.1 c.in_ok-read_size.ensures.kept.0 c.read_end.ensures.taken

pub returns-then-size-most-clause-taken : goal.returns-then-size-most-clause-taken
returns-then-size-most-clause-taken g c =
    let one : TakesSize (held_of c.args.stream.now) (to_come c.args.stream.now) (to_come c.read_size.new.stream) (held_of c.read_size.new.stream) (Size c.in-Size.size) =
    rw c.in-Size.is at c.in_ok-read_size.ensures.taken in
    too_large _ _ _ one.0 _ c.read_size.new.stream.room.now c.in-Size.size c.args.most c.args.stream.now.done (take c.args.stream.now.done c.args.stream.now.room.now) one.1 one.2 one.3 (omega arith)

pub returns-else-size-most-clause-taken : goal.returns-else-size-most-clause-taken
returns-else-size-most-clause-taken g c =
    let one : TakesSize (held_of c.args.stream.now) (to_come c.args.stream.now) (to_come c.read_size.new.stream) (held_of c.read_size.new.stream) (Size c.in-Size.size) =
    rw c.in-Size.is at c.in_ok-read_size.ensures.taken in
    fitting_read c.read_chunk.result _ _ _ _ one.0 _ _ c.in-Size.size c.args.most c.args.stream.now.done c.read_size.new.stream.done c.read_chunk.new.stream.done c.args.stream.now.room.now c.read_size.new.stream.room.now c.read_chunk.new.stream.room.now one.1 one.2 one.3 (omega arith) (omega arith)
    c.in_ok-read_size.ensures.kept.1 c.requires.fits c.in_ok-read_size.ensures.kept.0 c.read_chunk.ensures.taken

pub returns-in-Malformed-clause-taken : goal.returns-in-Malformed-clause-taken
returns-in-Malformed-clause-taken g c =
    let one : TakesSize (held_of c.args.stream.now) (to_come c.args.stream.now) (to_come c.read_size.new.stream) (held_of c.read_size.new.stream) Malformed =
    rw c.in-Malformed.is at c.in_ok-read_size.ensures.taken in
    no_line (held_of c.args.stream.now) (to_come c.args.stream.now) (to_come c.read_size.new.stream) (held_of c.read_size.new.stream) c.read_size.new.stream.room.now (c.args.most - c.args.stream.now.done) (take c.args.stream.now.done c.args.stream.now.room.now) one

pub returns-in-Short-clause-taken : goal.returns-in-Short-clause-taken
returns-in-Short-clause-taken g c =
    let one : TakesSize (held_of c.args.stream.now) (to_come c.args.stream.now) (to_come c.read_size.new.stream) (held_of c.read_size.new.stream) Short =
    rw c.in-Short.is at c.in_ok-read_size.ensures.taken in
    line_cut _ _ _ _ c.read_size.new.stream.room.now (c.args.most - c.args.stream.now.done) (take c.args.stream.now.done c.args.stream.now.room.now) one

pub returns-in-Size-eq0-clause-at_once : goal.returns-in-Size-eq0-clause-at_once
returns-in-Size-eq0-clause-at_once g c =
    let had : List ℕ = (held_of c.args.stream.now) in
    let between : List ℕ = held_of c.read_size.new.stream in
    let space = c.args.most - c.args.stream.now.done in
    let one : ((c.read_size.new.stream.reader.now ≡ c.args.stream.now.reader.now) × TakesSize had no_more no_more between (Size 0)) ⊎ BeginsNothing ends_line max_chunk_line had =
    rw (c.in-Size-eq0.is, c.in-Size-eq0.field-0-test) at c.in_ok-read_size.ensures.at_once in
    spares_then c.args.stream.now.reader.now c.read_size.new.stream.reader.now c.read_end.new.stream.reader.now one c.read_end.ensures.at_once
    (λ a b. last_read c.read_end.result had no_more no_more no_more a.0 between _ c.args.most c.args.stream.now.done c.read_size.new.stream.done c.read_end.new.stream.done c.args.stream.now.room.now c.read_size.new.stream.room.now c.read_end.new.stream.room.now a.1 a.2 a.3 c.in_ok-read_size.ensures.kept.1 c.in_ok-read_size.ensures.kept.0 b)
    (λ few. inl few) (λ a few. trailers_cut had a.0 between space a.1 a.2 a.3 few)

pub returns-else-size-most-clause-at_once : goal.returns-else-size-most-clause-at_once
returns-else-size-most-clause-at_once g c =
    let had : List ℕ = (held_of c.args.stream.now) in
    let between : List ℕ = held_of c.read_size.new.stream in
    let space = c.args.most - c.args.stream.now.done in
    let one : ((c.read_size.new.stream.reader.now ≡ c.args.stream.now.reader.now) × TakesSize had no_more no_more between (Size c.in-Size.size)) ⊎ BeginsNothing ends_line max_chunk_line had =
    rw c.in-Size.is at c.in_ok-read_size.ensures.at_once in
    spares_then c.args.stream.now.reader.now c.read_size.new.stream.reader.now c.read_chunk.new.stream.reader.now one c.read_chunk.ensures.at_once
    (λ a b. fitting_read c.read_chunk.result had no_more no_more no_more a.0 between _ c.in-Size.size c.args.most c.args.stream.now.done c.read_size.new.stream.done c.read_chunk.new.stream.done c.args.stream.now.room.now c.read_size.new.stream.room.now c.read_chunk.new.stream.room.now a.1 a.2 a.3 (omega arith) (omega arith)
    c.in_ok-read_size.ensures.kept.1 c.requires.fits c.in_ok-read_size.ensures.kept.0 b)
    (λ few. inl few) (λ a few. chunk_cut had a.0 between c.in-Size.size space a.1 a.2 a.3 (omega arith) (omega arith) few)

pub returns-in-Malformed-clause-at_once : goal.returns-in-Malformed-clause-at_once
returns-in-Malformed-clause-at_once g c =
    let had : List ℕ = (held_of c.args.stream.now) in
    let between : List ℕ = held_of c.read_size.new.stream in
    let space = c.args.most - c.args.stream.now.done in
    let one : ((c.read_size.new.stream.reader.now ≡ c.args.stream.now.reader.now) × TakesSize had no_more no_more between Malformed) ⊎ BeginsNothing ends_line max_chunk_line had =
    rw c.in-Malformed.is at c.in_ok-read_size.ensures.at_once in
    spares_as c.args.stream.now.reader.now c.read_size.new.stream.reader.now one (λ wrong. no_line had no_more no_more between c.read_size.new.stream.room.now space (take c.args.stream.now.done c.args.stream.now.room.now) wrong) (λ few. inl few)
