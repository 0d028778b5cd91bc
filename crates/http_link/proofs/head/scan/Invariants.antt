use Rattle.std.proofs.Common.{◌≡◌, ◌≤◌, ◌-◌, true, length, take}
use Rattle.std.specs.List.{list_all}
use Rattle.http_link.specs.Grammars.{is_line_end}
use Rattle.http_link.specs.Reading.{IsHeadBegun}
use Rattle.http_link.proofs.head.scan.Given as goal

abbrev pub invariant-loop-seen : goal.invariant-loop-seen
invariant-loop-seen g l = record {
  further : l.fn.seen ≤ l.seen;
  bound : l.seen ≤ length l.text;
  lines : length l.lines ≡ length l.fn.lines;
  blank : l.blank ≤ l.seen;
  empty : list_all is_line_end (take l.blank l.text) ≡ true;
  goes_on : IsHeadBegun g.H.HeadSpans.grammar (take l.seen l.text) (length l.lines);
}

abbrev pub decreases-loop-seen : goal.decreases-loop-seen
decreases-loop-seen g l = length l.text - l.seen
