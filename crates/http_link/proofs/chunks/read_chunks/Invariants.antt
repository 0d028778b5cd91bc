use Rattle.std.proofs.Common.{◌≡◌, ◌≤◌, ◌-◌, ◌⊎◌}
use Rattle.http_link.specs.Bodies.{IsChunked, cut}
use Rattle.http_link.specs.BodyReading.{no_more}
use Rattle.http_link.specs.StreamCalls.{Continues, ReadsNoFurther, held_of, to_come}
use Rattle.http_link.proofs.ChunkedBodies.{Gathers}
use Rattle.http_link.proofs.chunks.read_chunks.Given as goal

abbrev pub invariant-loop-read : goal.invariant-loop-read
invariant-loop-read g l = record {
  fits : l.stream.done ≤ l.most;
  chunks : Gathers (held_of l.fn.stream) (to_come l.fn.stream) (to_come l.stream) (held_of l.stream) l.stream.room.now l.stream.done;
  exact : ReadsNoFurther l.fn.stream l.stream;
  at_once : ((l.stream.reader.now ≡ l.fn.stream.reader.now) × Gathers (held_of l.fn.stream) no_more no_more (held_of l.stream) l.stream.room.now l.stream.done) ⊎ IsChunked l.most (held_of l.fn.stream) cut;
  failures : l.stream.failures ≡ l.fn.stream.failures;
  continues : Continues l.fn.stream l.stream;
}

abbrev pub decreases-loop-read : goal.decreases-loop-read
decreases-loop-read g l = l.most - l.stream.done
