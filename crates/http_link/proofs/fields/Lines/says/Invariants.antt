use Rattle.std.proofs.Common.{◌≡◌, take, map}
use Rattle.std.specs.List.{list_any}
use Rattle.httparse.specs.Spans.{header_bytes}
use Rattle.http_link.specs.Fields.{values_of}
use Rattle.std.specs.Str.{str_eq_ignore_ascii_case}
use Rattle.http_link.proofs.fields.Lines.says.Given as goal

abbrev pub invariant-loop-line : goal.invariant-loop-line
invariant-loop-line l =
    l.said ≡ list_any (λ v. str_eq_ignore_ascii_case v l.value) (values_of l.name (map (header_bytes l.self.text.now) (take l.line-index l.self.spans.now)))
