use Rattle.std.proofs.Common.{◌≡◌, take, map}
use Rattle.httparse.specs.Spans.{header_bytes}
use Rattle.http_link.specs.Fields.{occurrence}
use Rattle.http_link.specs.Lines.{occurrence_at}
use Rattle.http_link.proofs.fields.Lines.find.Given as goal

abbrev pub invariant-loop-line : goal.invariant-loop-line
invariant-loop-line l =
    occurrence_at l.found ≡ occurrence l.name (map (header_bytes l.self.text.now) (take l.line-index l.self.spans.now))
