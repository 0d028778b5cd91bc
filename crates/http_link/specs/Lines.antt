-- Heads and their field lines as spans of a text.
use Rattle.std.specs.Prelude.{List, ℕ, map, take, codes, ◌≡◌}
use Rattle.httparse.specs.Spans.{span_bytes, header_bytes}
use Rattle.httparse.specs.declared.spans.HeaderSpan.{HeaderSpan}
use Rattle.httparse.specs.declared.spans.RequestSpans.{RequestSpans}
use Rattle.http_link.specs.declared.fields.Lines.{Lines}
use Rattle.http_link.specs.declared.fields.FieldValue.{FieldValue}
use Rattle.http_link.specs.declared.fields.FieldValue.TheVariants.{Missing, Once, Repeated}
use Rattle.http_link.specs.declared.request.RequestHead.{RequestHead}
use Rattle.http_link.specs.declared.request.Wanted.{Wanted as WantedAt}
use Rattle.http_link.specs.declared.fields.KnownFields.{KnownFields}
use Rattle.http_link.specs.Fields.{Line, Occurrence, missing, once, repeated, occurrence}
use Rattle.http_link.specs.Heads.{Head}
use Rattle.http_link.specs.Requests.{Wanted, coding_of, expects_continue, asks_close}

-- the lines that the spans cover
abbrev pub lines_at : Lines → List Line
lines_at lines = map (header_bytes lines.text.now) lines.spans.now

-- what was found, without its place
abbrev pub occurrence_at : FieldValue → Occurrence
occurrence_at Missing = missing
occurrence_at (Once value) = once value.now
occurrence_at Repeated = repeated

-- what the lines of a head say that decides how its request is served
pub record AreFieldsOf (fields : KnownFields) (lines : List Line) : Type 0 where
  pub coding : occurrence_at fields.coding ≡ coding_of lines
  pub length : occurrence_at fields.length ≡ occurrence (codes "Content-Length") lines
  pub credentials : occurrence_at fields.credentials ≡ occurrence (codes "Authorization") lines
  pub waits : fields.waits ≡ expects_continue lines
  pub closes : fields.closes ≡ asks_close lines

-- what a head says, without the places of its parts
abbrev pub head_at : RequestHead → Head
head_at head =
    record { method = head.method.now; target = head.target.now; minor = head.minor; lines = lines_at head.lines }

-- what the head of a text says, whose parts the spans cover
abbrev pub head_in : List ℕ → List HeaderSpan → RequestSpans → Head
head_in text lines spans = record {
  method = span_bytes text spans.method;
  target = span_bytes text spans.path;
  minor = spans.version;
  lines = map (header_bytes text) (take spans.headers lines);
}

-- what a head asks for, without the place of its token
abbrev pub wanted_at : WantedAt → Wanted
wanted_at wanted =
    record { kind = wanted.kind; tenant = wanted.tenant; token = wanted.token.now; framing = wanted.framing }
