use Rattle.std.proofs.Common.{◌≡◌, ◌≤◌, ◌-◌, ◌⊎◌, ℕ, false, take, length}
use Rattle.http_link.specs.Bodies.{BeginsNothing}
use Rattle.http_link.specs.BodyReading.{Takes, ends_sought, no_more}
use Rattle.http_link.specs.StreamCalls.{Continues, ReadsNoFurther, held_of, to_come}
use Rattle.http_link.proofs.intake.read_text.Given as goal

abbrev pub invariant-loop-n : goal.invariant-loop-n
invariant-loop-n g l = record {
  within : l.n ≤ length l.text;
  size : length l.text ≡ length l.fn.text;
  takes : Takes (held_of l.fn.stream) (to_come l.fn.stream) (to_come l.stream) (take l.n l.text) (held_of l.stream);
  unended : (k : ℕ) → k ≤ l.n → ends_sought l.sought (take k l.text) ≡ false;
  kept : take l.fn.stream.done l.stream.room.now ≡ take l.fn.stream.done l.fn.stream.room.now;
  done : l.stream.done ≡ l.fn.stream.done;
  exact : ReadsNoFurther l.fn.stream l.stream;
  at_once : ((l.stream.reader.now ≡ l.fn.stream.reader.now) × Takes (held_of l.fn.stream) no_more no_more (take l.n l.text) (held_of l.stream))
      ⊎ BeginsNothing (ends_sought l.sought) (length l.fn.text) (held_of l.fn.stream);
  failures : l.stream.failures ≡ l.fn.stream.failures;
  continues : Continues l.fn.stream l.stream;
}

abbrev pub decreases-loop-n : goal.decreases-loop-n
decreases-loop-n g l = length l.text - l.n
