use Rattle.std.proofs.Common.{◌≡◌, ◌≤◌, ◌+◌, ◌-◌, ◌++◌, ◌⊎◌, true, List, ℕ, length, take}
use Rattle.std.specs.List.{list_all}
use Rattle.std.specs.Io.KnownBytes.{Consumes}
use Rattle.http_link.specs.Grammars.{is_line_end}
use Rattle.http_link.specs.Limits.{max_head}
use Rattle.http_link.specs.Reading.{BeginsNot, IsHeadBegun}
use Rattle.http_link.specs.declared.intake.Reach.TheVariants.{Needed}
use Rattle.http_link.specs.StreamCalls.{Continues, to_come}
use Rattle.http_link.proofs.head.find_head.Given as goal

abbrev pub invariant-loop-spans : goal.invariant-loop-spans
invariant-loop-spans g l = record {
  front : l.stream.held.from ≡ 0;
  lines : length l.lines ≡ length l.fn.lines;
  came : (came : List ℕ) × (take l.stream.held.to l.stream.room.now ≡ take l.fn.stream.held.to l.fn.stream.room.now ++ came) × Consumes (to_come l.fn.stream) (to_come l.stream) came;
  seen : l.seen ≤ l.stream.held.to;
  few : l.seen ≤ max_head;
  blank : l.blank ≤ l.seen;
  empty : list_all is_line_end (take l.blank l.stream.room.now) ≡ true;
  exact : l.fn.stream.reach ≡ Needed → l.fn.stream.held.to ≡ 0 → l.stream.held.to ≤ l.seen + 1;
  goes_on : IsHeadBegun g.H.HeadSpans.grammar (take l.seen l.stream.room.now) (length l.lines);
  at_once : ((l.stream.reader.now ≡ l.fn.stream.reader.now) × (take l.stream.held.to l.stream.room.now ≡ take l.fn.stream.held.to l.fn.stream.room.now)) ⊎ BeginsNot g.H.HeadSpans.grammar (take l.fn.stream.held.to l.fn.stream.room.now) (length l.fn.lines);
  failures : l.stream.failures ≡ l.fn.stream.failures;
  continues : Continues l.fn.stream l.stream;
}

abbrev pub decreases-loop-spans : goal.decreases-loop-spans
decreases-loop-spans g l = max_head - l.stream.held.to
