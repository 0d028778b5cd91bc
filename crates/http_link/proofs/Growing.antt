-- Bodies stay what they are where more bytes follow.
use Rattle.std.proofs.Common.{◌≡◌, inl, inr, ℕ, ◌-◌, ◌≤◌, Bool, List, [], ◌++◌, append-nil, length, take, drop, sym, ap, subst, ◌∙◌, arith, append_assoc, length-append, length-drop}
use Rattle.std.specs.List.{flat_map}
use Rattle.std.proofs.lemmas.List.{drop-append-le, take-append-le}
use Rattle.httparse.proofs.ChunkLemmas.{ReadsChunkLine-append}
use Rattle.httparse.proofs.GrammarLemmas.{ReadsSection-append}
use Rattle.http_link.specs.Limits.{max_chunk_line, max_head}
use Rattle.http_link.specs.Bodies.{BeginsChunk, BeginsFitting, BeginsTrailers, BeginsWrong, Body, EndsBody, IsBody, IsChunked, IsMalformed, IsSizeLine, IsTrailerText, NoneEnds, bad, contents, ends_line, ends_section, print_chunk, whole}
use Rattle.http_link.specs.declared.bodies.BodyFault.{BodyFault}
use Rattle.http_link.specs.declared.bodies.BodyFault.TheVariants.{Malformed, TooLarge}
use Rattle.http_link.specs.declared.bodies.Framing.{Framing}
use Rattle.http_link.specs.declared.bodies.Framing.TheVariants.{Chunked, Sized}

chunk_more : (bytes : List ℕ) (size : ℕ) (rest more : List ℕ) → BeginsChunk bytes size rest → BeginsChunk (bytes ++ more) size (rest ++ more)
chunk_more bytes size rest more begins = record {
  line = begins.line;
  reads = ReadsChunkLine-append bytes begins.line rest more begins.reads;
  short = begins.short;
  states = begins.states;
}

trailers_more : (bytes rest more : List ℕ) → BeginsTrailers bytes rest → BeginsTrailers (bytes ++ more) (rest ++ more)
trailers_more bytes rest more begins = record {
  fields = begins.fields;
  last = begins.last;
  reads = ReadsSection-append bytes begins.fields begins.last rest more begins.reads;
  short = begins.short;
  few = begins.few;
}

wrong_more : (ends : List ℕ → Bool) (most : ℕ) (Is : List ℕ → Type 0) (bytes more : List ℕ) → BeginsWrong ends most Is bytes → BeginsWrong ends most Is (bytes ++ more)
wrong_more ends most Is bytes more (inl (text, rest, parts, first, none)) =
    inl (text, rest ++ more, ap (λ (w : List ℕ). w ++ more) parts ∙ append_assoc text rest more, first, none)
wrong_more ends most Is bytes more (inr (long, none)) =
    inr (omega (arith, length-append bytes more), subst (NoneEnds ends) (sym (take-append-le most bytes more long)) none)

fitting_more : (room : ℕ) (bytes : List ℕ) (size : ℕ) (rest more : List ℕ) → BeginsFitting room bytes size rest → BeginsFitting room (bytes ++ more) size (rest ++ more)
fitting_more room bytes size rest more begins = record { begins = chunk_more bytes size rest more begins.begins; some = begins.some; fits = begins.fits }

malformed_more : (room : ℕ) (bytes more : List ℕ) → IsMalformed room bytes → IsMalformed room (bytes ++ more)
malformed_more room bytes more (inl wrong) = inl (wrong_more ends_line max_chunk_line IsSizeLine bytes more wrong)
malformed_more room bytes more (inr (inl (size, rest, begins, long, other))) =
    let few : size ≤ length rest = omega arith in
    let enough : 2 ≤ length (drop size rest) = omega (arith, length-drop size rest) in
    let same : take 2 (drop size (rest ++ more)) ≡ take 2 (drop size rest) =
    ap (take 2) (drop-append-le size rest more few) ∙ take-append-le 2 (drop size rest) more enough in
    inr (inl (size, rest ++ more, fitting_more room bytes size rest more begins, omega (arith, length-append rest more), λ is. other (sym same ∙ is)))
malformed_more room bytes more (inr (inr (rest, begins, wrong))) =
    inr (inr (rest ++ more, chunk_more bytes 0 rest more begins, wrong_more ends_section max_head IsTrailerText rest more wrong))

-- a body in chunks behind which more follows
chunked_more : (most : ℕ) (bytes more : List ℕ) (body other : Body) → (h : IsChunked most bytes body)
    → (EndsBody (most - length (contents h.chunks)) (contents h.chunks) h.rest body → EndsBody (most - length (contents h.chunks)) (contents h.chunks) (h.rest ++ more) other)
    → IsChunked most (bytes ++ more) other
chunked_more most bytes more body other h ends = record {
  chunks = h.chunks;
  are = h.are;
  fit = h.fit;
  rest = h.rest ++ more;
  parts = ap (λ (w : List ℕ). w ++ more) h.parts ∙ append_assoc (flat_map print_chunk h.chunks) h.rest more;
  ends = ends h.ends;
}

-- a whole body, and what follows it
pub whole_more : (framing : Framing) (bytes more body after : List ℕ) → IsBody framing bytes (whole body after) → IsBody framing (bytes ++ more) (whole body (after ++ more))
whole_more (Sized size) bytes more body after h =
    let le = h.0 in (
      omega (arith, length-append bytes more),
      h.1 ∙ sym (take-append-le size bytes more le),
      ap (λ (w : List ℕ). w ++ more) h.2 ∙ sym (drop-append-le size bytes more le),
    )
whole_more (Chunked most) bytes more body after h =
    chunked_more most bytes more (whole body after) (whole body (after ++ more)) h
    (λ (same, (rest, begins, trailers)). (same, (rest ++ more, chunk_more h.rest 0 rest more begins, trailers_more rest after more trailers)))

-- and a body with which something is wrong
pub bad_more : (framing : Framing) (bytes more : List ℕ) (fault : BodyFault) → IsBody framing bytes (bad fault) → IsBody framing (bytes ++ more) (bad fault)
bad_more (Sized size) bytes more fault h = absurd h
bad_more (Chunked most) bytes more Malformed h =
    chunked_more most bytes more (bad Malformed) (bad Malformed) h (malformed_more (most - length (contents h.chunks)) h.rest more)
bad_more (Chunked most) bytes more TooLarge h =
    chunked_more most bytes more (bad TooLarge) (bad TooLarge) h (λ (size, rest, begins, large). (size, rest ++ more, chunk_more h.rest size rest more begins, large))

-- ---- what a stream has, of which a part was taken

-- nothing follows a body in what was taken: it is whole in the stream, and the rest follows it
pub whole_first : (framing : Framing) (came ys rest body after : List ℕ) → after ≡ [] → rest ≡ came ++ ys → IsBody framing came (whole body after) → IsBody framing rest (whole body ys)
whole_first framing came ys rest body after nothing parts is =
    subst (λ (w : List ℕ). IsBody framing w (whole body ys)) (sym parts)
    (subst (λ (w : List ℕ). IsBody framing (came ++ ys) (whole body (w ++ ys))) nothing (whole_more framing came ys body after is))

-- all was taken
pub body_of_all : (framing : Framing) (came ys rest : List ℕ) (body : Body) → ys ≡ [] → rest ≡ came ++ ys → IsBody framing came body → IsBody framing rest body
body_of_all framing came ys rest body over parts is =
    subst (λ (w : List ℕ). IsBody framing w body) (sym (parts ∙ ap (λ (w : List ℕ). came ++ w) over ∙ append-nil came)) is

-- something is wrong in what was taken
pub bad_first : (framing : Framing) (came ys rest : List ℕ) (fault : BodyFault) → rest ≡ came ++ ys → IsBody framing came (bad fault) → IsBody framing rest (bad fault)
bad_first framing came ys rest fault parts is =
    subst (λ (w : List ℕ). IsBody framing w (bad fault)) (sym parts) (bad_more framing came ys fault is)
