use Rattle.std.proofs.Common.{take, map}
use Rattle.httparse.specs.Spans.{header_bytes}
use Rattle.http_link.specs.Lines.{AreFieldsOf}
use Rattle.http_link.proofs.fields.Lines.known_fields.Given as goal

abbrev pub invariant-loop-line : goal.invariant-loop-line
invariant-loop-line l = AreFieldsOf l.fields (map (header_bytes l.self.text.now) (take l.line-index l.self.spans.now))
