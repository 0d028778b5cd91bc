use Rattle.std.proofs.Common.{◌≡◌, ◌⊎◌, List, ℕ, ◌+◌, ◌<◌, true, length, arith}
use Rattle.http_link.specs.BodyReading.{TakesBytes, no_more}
use Rattle.http_link.specs.StreamCalls.{held_of, to_come}
use Rattle.http_link.proofs.ChunkedBodies.{chunk_taken}
use Rattle.http_link.proofs.Sparing.{shorter, spares_then}
use Rattle.http_link.proofs.chunks.read_chunk.Goals as goal

pub returns-clause-taken : goal.returns-clause-taken
returns-clause-taken g c =
    let one : TakesBytes (held_of c.args.stream.now) (to_come c.args.stream.now) (to_come c.read_bytes.new.stream) (held_of c.read_bytes.new.stream) c.args.size c.args.stream.now.done c.args.stream.now.room.now c.read_bytes.new.stream.room.now true =
    rw c.if-not-branch.false at c.in_ok-read_bytes.ensures.taken in
    rw c.step_after.ensures
    (chunk_taken c.in_ok-read_line_end.field-0 _ _ _ _ (held_of c.read_bytes.new.stream) _ c.args.stream.now.room.now c.read_bytes.new.stream.room.now c.read_line_end.new.stream.room.now c.args.size c.args.stream.now.done (c.read_bytes.new.stream.done + c.args.size) c.read_line_end.new.stream.done
    (omega arith) (omega arith) one c.in_ok-read_line_end.ensures.kept.1 c.in_ok-read_line_end.ensures.taken)

pub returns-clause-at_once : goal.returns-clause-at_once
returns-clause-at_once g c =
    let had : List ℕ = held_of c.args.stream.now in
    let between : List ℕ = held_of c.read_bytes.new.stream in
    let has : List ℕ = held_of c.read_line_end.new.stream in
    let size = c.args.size in
    let one : ((c.read_bytes.new.stream.reader.now ≡ c.args.stream.now.reader.now) × TakesBytes had no_more no_more between size c.args.stream.now.done c.args.stream.now.room.now c.read_bytes.new.stream.room.now true) ⊎ (length had < size) =
    rw c.if-not-branch.false at c.in_ok-read_bytes.ensures.at_once in
    rw c.step_after.ensures
    (spares_then c.args.stream.now.reader.now c.read_bytes.new.stream.reader.now c.read_line_end.new.stream.reader.now one c.in_ok-read_line_end.ensures.at_once
    (λ a b. chunk_taken c.in_ok-read_line_end.field-0 had no_more no_more no_more between has c.args.stream.now.room.now c.read_bytes.new.stream.room.now c.read_line_end.new.stream.room.now size c.args.stream.now.done (c.read_bytes.new.stream.done + size) c.read_line_end.new.stream.done
    (omega arith) (omega arith) a c.in_ok-read_line_end.ensures.kept.1 b)
    (λ few. omega arith) (λ a few. shorter had a.0 between size 2 a.3 a.1 few))
