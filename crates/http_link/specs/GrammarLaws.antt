-- The laws of both grammars: each head has a space and ends with an empty line, and the spans of a head are those of a whole one,
-- also alone.
use Rattle.std.specs.Prelude.{◌≡◌, ℕ, ◌+◌, ◌-◌, ◌<◌, ◌≤◌, List, [], ◌∷◌, ◌++◌, All, length, map, slice_index, take, drop, Bool, true, false, ◌||◌}
use Rattle.std.specs.List.{flat_map, ends_with}
use Rattle.std.proofs.Common.{refl, sym, ap, ◌∙◌, append_assoc, append-nil, arith, eqb, length-append, length-take, subst, take-take}
use Rattle.std.proofs.lemmas.List.{drop-take, drop_all}
use Rattle.std.proofs.lemmas.List.Elements.{All-head, All-tail}
use Rattle.std.proofs.Math.Seq.{take-append_seam}
use Rattle.std.proofs.lemmas.Bool.Decides.{Decides-eqb}
use Rattle.std.proofs.lemmas.Slice.Eq.{ends_is}
use Rattle.httparse.specs.Grammar.{LineEnd, crlf, lf, print_end, print_blank, print_version, print_reason, Field, print_field}
use Rattle.httparse.specs.Grammar.{RequestHead, print_request, ResponseHead, print_response}
use Rattle.httparse.specs.declared.spans.HeaderSpan.{HeaderSpan}
use Rattle.httparse.specs.declared.spans.RequestSpans.{RequestSpans}
use Rattle.httparse.specs.declared.spans.ResponseSpans.{ResponseSpans}
use Rattle.httparse.specs.declared.spans.Span.{Span}
use Rattle.httparse.specs.Spans.{AreFieldsAt, IsHeaderWithin, IsSectionWithin, IsWithin, header_bytes, name_and_value, span_bytes}
use Rattle.http_link.specs.Grammars.{IsGrammar, IsReply, IsRequest, ends_empty_line, answer_heads, requests}

-- ---- what ends with an empty line

-- the text ends in a line feed
abbrev EndsLine : List ℕ → Type 0
EndsLine text = (front : List ℕ) × (text ≡ front ++ 10 ∷ [])

ends_behind : (front text : List ℕ) → EndsLine text → EndsLine (front ++ text)
ends_behind front text ends = (front ++ ends.0, ap (λ (w : List ℕ). front ++ w) ends.1 ∙ sym (append_assoc front ends.0 (10 ∷ [])))

print_end_ends : (e : LineEnd) → EndsLine (print_end e)
print_end_ends crlf = (13 ∷ [], refl)
print_end_ends lf = ([], refl)

-- a list ends with its own back
ends_so : (front back : List ℕ) → ends_with eqb (front ++ back) back ≡ true
ends_so front back = (ends_is Decides-eqb (front ++ back) back (ends_with eqb (front ++ back) back) refl).1 front refl

or_true : (b : Bool) → b || true ≡ true
or_true true = refl
or_true false = refl

-- a line, and after it an empty one
line_then_end : (text : List ℕ) (last : LineEnd) → EndsLine text → ends_empty_line (text ++ print_end last) ≡ true
line_then_end text lf ends =
    let empty : List ℕ = 10 ∷ 10 ∷ [] in
    let both : text ++ 10 ∷ [] ≡ ends.0 ++ empty = ap (λ (w : List ℕ). w ++ 10 ∷ []) ends.1 ∙ append_assoc ends.0 (10 ∷ []) (10 ∷ []) in
    ap ends_empty_line both ∙ ap (λ b. b || ends_with eqb (ends.0 ++ empty) (10 ∷ 13 ∷ 10 ∷ [])) (ends_so ends.0 empty)
line_then_end text crlf ends =
    let empty : List ℕ = 10 ∷ 13 ∷ 10 ∷ [] in
    let both : text ++ 13 ∷ 10 ∷ [] ≡ ends.0 ++ empty = ap (λ (w : List ℕ). w ++ 13 ∷ 10 ∷ []) ends.1 ∙ append_assoc ends.0 (10 ∷ []) (13 ∷ 10 ∷ []) in
    ap ends_empty_line both ∙ ap (λ b. ends_with eqb (ends.0 ++ empty) (10 ∷ 10 ∷ []) || b) (ends_so ends.0 empty)
    ∙ or_true (ends_with eqb (ends.0 ++ empty) (10 ∷ 10 ∷ []))

field_ends : (f : Field) → EndsLine (print_field f)
field_ends f = ends_behind (f.name ++ 58 ∷ f.raw) (print_end f.end) (print_end_ends f.end)

-- field lines after a line
fields_end : (line : List ℕ) (fields : List Field) → EndsLine line → EndsLine (line ++ flat_map print_field fields)
fields_end line [] ends = (ends.0, append-nil line ∙ ends.1)
fields_end line (f ∷ fields) ends =
    let more = fields_end (line ++ print_field f) fields (ends_behind line (print_field f) (field_ends f)) in
    (more.0, sym (append_assoc line (print_field f) (flat_map print_field fields)) ∙ more.1)

-- a start line, field lines and an empty line
section_ended : (start : List ℕ) (end : LineEnd) (fields : List Field) (last : LineEnd)
    → ends_empty_line ((start ++ print_end end) ++ (flat_map print_field fields ++ print_end last)) ≡ true
section_ended start end fields last =
    let line : List ℕ = start ++ print_end end in
    ap ends_empty_line (sym (append_assoc line (flat_map print_field fields) (print_end last)))
    ∙ line_then_end (line ++ flat_map print_field fields) last (fields_end line fields (ends_behind start (print_end end) (print_end_ends end)))

-- ---- what has a space

-- the text has a space
abbrev HasSpace : List ℕ → Type 0
HasSpace text = (place : ℕ) × (place < length text) × (slice_index text place ≡ 32)

-- the text is two texts with a space between them
abbrev IsParted : List ℕ → Type 0
IsParted text = (front : List ℕ) × (back : List ℕ) × (text ≡ front ++ 32 ∷ back)

-- so is what goes on
parted_on : (text more : List ℕ) → IsParted text → IsParted (text ++ more)
parted_on text more parts = (parts.0, parts.1 ++ more, ap (λ (w : List ℕ). w ++ more) parts.2 ∙ append_assoc parts.0 (32 ∷ parts.1) more)

space_inside : (text : List ℕ) → IsParted text → HasSpace text
space_inside text parts = subst HasSpace (sym parts.2) (
  length parts.0,
  omega (arith, length-append parts.0 (32 ∷ parts.1)),
  at_front parts.0,
)
  where
    at_front : (xs : List ℕ) → slice_index (xs ++ 32 ∷ parts.1) (length xs) ≡ 32
    at_front [] = refl
    at_front (x ∷ xs) = at_front xs

-- ---- the front of a text

-- a front of so many bytes
front_is : (text front back : List ℕ) (n : ℕ) → n ≡ length front → text ≡ front ++ back → take n text ≡ front
front_is text front back n same parts = ap (λ k. take k text) same ∙ ap (take (length front)) parts ∙ take-append_seam front back

-- ---- the spans of a front

-- nothing follows a front of so many bytes in it
nothing_behind : (n : ℕ) (text : List ℕ) → drop n (take n text) ≡ []
nothing_behind n text = drop_all n (take n text) (omega (arith, length-take n text))

-- a span that lies in a front covers there what it covers in the text
span_in_front : (text : List ℕ) (n : ℕ) (s : Span) → IsWithin n s → span_bytes (take n text) s ≡ span_bytes text s
span_in_front text n s within =
    let rest = n - s.start in
    let apart : s.start + rest ≡ n = omega arith in
    ap (λ k. take (s.end - s.start) (drop s.start (take k text))) (sym apart)
    ∙ ap (take (s.end - s.start)) (drop-take s.start rest text)
    ∙ take-take (s.end - s.start) rest (drop s.start text) (omega arith)

-- the spans of field lines likewise
lines_in_front : (text : List ℕ) (n : ℕ) (lines : List HeaderSpan) → All (IsHeaderWithin n) lines → map (header_bytes (take n text)) lines ≡ map (header_bytes text) lines
lines_in_front text n [] within = refl
lines_in_front text n (l ∷ lines) within =
    let first = All-head (IsHeaderWithin n) l lines within in
    let name = span_in_front text n l.name first.0 in
    let value = span_in_front text n l.value first.1 in
    let more = lines_in_front text n lines (All-tail (IsHeaderWithin n) l lines within) in
    ap (λ w. (w, span_bytes (take n text) l.value) ∷ map (header_bytes (take n text)) lines) name
    ∙ ap (λ w. (span_bytes text l.name, w) ∷ map (header_bytes (take n text)) lines) value
    ∙ ap (λ ws. header_bytes text l ∷ ws) more

-- field lines that lie in a front lie in it alone
section_in_front : (text : List ℕ) (lines : List HeaderSpan) (len count : ℕ) → IsSectionWithin text lines len count → IsSectionWithin (take len text) lines len count
section_in_front text lines len count within = record {
  len_fits = let fits = within.len_fits in omega (arith, length-take len text);
  count_fits = within.count_fits;
  headers_fit = within.headers_fit;
}

-- ---- requests

-- the bytes that the spans of a request's head cover are that head
pub request_printed : (text : List ℕ) (lines : List HeaderSpan) (spans : RequestSpans) (is : IsRequest text lines spans) → take spans.len text ≡ print_request is.head
request_printed text lines spans is = front_is text (print_request is.head) (drop spans.len text) spans.len is.at.len is.at.reads.1

request_cut : (text : List ℕ) (lines : List HeaderSpan) (spans : RequestSpans) → IsRequest text lines spans → IsRequest (take spans.len text) lines spans
request_cut text lines spans is =
    let front : List ℕ = take spans.len text in
    let printed : front ≡ print_request is.head ++ drop spans.len front =
    request_printed text lines spans is ∙ sym (append-nil (print_request is.head)) ∙ ap (λ w. print_request is.head ++ w) (sym (nothing_behind spans.len text)) in
    record {
      head = is.head;
      at = record {
        reads = (is.at.reads.0, printed);
        len = is.at.len;
        method = span_in_front text spans.len spans.method is.within.method ∙ is.at.method;
        path = span_in_front text spans.len spans.path is.within.path ∙ is.at.path;
        version = is.at.version;
        fields = lines_in_front text spans.len (take spans.headers lines) is.within.section.headers_fit ∙ is.at.fields;
      };
      few = is.few;
      within = record {
        method = is.within.method;
        path = is.within.path;
        version = is.within.version;
        section = section_in_front text lines spans.len spans.headers is.within.section;
      };
    }

request_ended : (h : RequestHead) → ends_empty_line (print_request h) ≡ true
unfolding print_request
request_ended h = section_ended (print_blank h.blank ++ h.method ++ 32 ∷ h.target ++ 32 ∷ print_version h.minor) h.line_end h.fields h.last

request_spaced : (h : RequestHead) → HasSpace (print_request h)
unfolding print_request
request_spaced h =
    let method : IsParted (print_blank h.blank ++ h.method ++ 32 ∷ h.target) = (print_blank h.blank ++ h.method, h.target, refl) in
    let line = parted_on _ (print_end h.line_end) (parted_on _ (32 ∷ print_version h.minor) method) in
    space_inside (print_request h) (parted_on _ (flat_map print_field h.fields ++ print_end h.last) line)

pub requests_are : IsGrammar requests
requests_are = record {
  spaced = λ head lines is. subst HasSpace (sym is.printed) (request_spaced is.head);
  ended = λ head lines is. ap ends_empty_line is.printed ∙ request_ended is.head;
  within = λ text lines spans is. is.within.section.len_fits;
  covered = λ text lines spans is. record { head = is.head; is = is.at.reads.0; printed = request_printed text lines spans is; few = is.few };
  cut = request_cut;
}

-- ---- answers

-- the bytes that the spans of an answer's head cover are that head
pub reply_printed : (text : List ℕ) (lines : List HeaderSpan) (spans : ResponseSpans) (is : IsReply text lines spans) → take spans.len text ≡ print_response is.head
reply_printed text lines spans is = front_is text (print_response is.head) (drop spans.len text) spans.len is.at.len is.at.reads.1

reply_cut : (text : List ℕ) (lines : List HeaderSpan) (spans : ResponseSpans) → IsReply text lines spans → IsReply (take spans.len text) lines spans
reply_cut text lines spans is =
    let front : List ℕ = take spans.len text in
    let printed : front ≡ print_response is.head ++ drop spans.len front =
    reply_printed text lines spans is ∙ sym (append-nil (print_response is.head)) ∙ ap (λ w. print_response is.head ++ w) (sym (nothing_behind spans.len text)) in
    record {
      head = is.head;
      at = record {
        reads = (is.at.reads.0, printed);
        len = is.at.len;
        version = is.at.version;
        code = is.at.code;
        reason = span_in_front text spans.len spans.reason is.within.reason ∙ is.at.reason;
        fields = lines_in_front text spans.len (take spans.headers lines) is.within.section.headers_fit ∙ is.at.fields;
      };
      few = is.few;
      within = record {
        version = is.within.version;
        code = is.within.code;
        reason = is.within.reason;
        section = section_in_front text lines spans.len spans.headers is.within.section;
      };
    }

reply_ended : (h : ResponseHead) → ends_empty_line (print_response h) ≡ true
unfolding print_response
reply_ended h = section_ended (print_blank h.blank ++ print_version h.minor ++ 32 ∷ h.digits ++ print_reason h.reason) h.line_end h.fields h.last

reply_spaced : (h : ResponseHead) → HasSpace (print_response h)
unfolding print_response
reply_spaced h =
    let status : IsParted (print_blank h.blank ++ print_version h.minor ++ 32 ∷ h.digits) = (print_blank h.blank ++ print_version h.minor, h.digits, refl) in
    let line = parted_on _ (print_end h.line_end) (parted_on _ (print_reason h.reason) status) in
    space_inside (print_response h) (parted_on _ (flat_map print_field h.fields ++ print_end h.last) line)

pub replies_are : IsGrammar answer_heads
replies_are = record {
  spaced = λ head lines is. subst HasSpace (sym is.printed) (reply_spaced is.head);
  ended = λ head lines is. ap ends_empty_line is.printed ∙ reply_ended is.head;
  within = λ text lines spans is. is.within.section.len_fits;
  covered = λ text lines spans is. record { head = is.head; is = is.at.reads.0; printed = reply_printed text lines spans is; few = is.few };
  cut = reply_cut;
}
