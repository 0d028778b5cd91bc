-- What the parser says of heads, as what their grammars say.
use Rattle.std.proofs.Common.{◌≡◌, ℕ, List, ◌++◌, ap, ◌∙◌}
use Rattle.httparse.specs.Grammar.{HasNoRequest, HasNoResponse, ReadsRequest, ReadsResponse}
use Rattle.http_link.proofs.Heads.{partial_goes_on}
use Rattle.http_link.specs.Grammars.{IsReplyText, IsRequestText, answer_heads, requests}
use Rattle.http_link.specs.Reading.{IsHeadBegun}

-- ---- requests

-- what begins with the text of a request's head begins with the head
pub reads_request : (stream text rest : List ℕ) (lines : ℕ) (is : IsRequestText text lines) → stream ≡ text ++ rest → ReadsRequest stream is.head rest
reads_request stream text rest lines is parts = (is.is, parts ∙ ap (λ (w : List ℕ). w ++ rest) is.printed)

-- where the parser finds no head yet, the text goes on in each
pub request_goes_on : (text : List ℕ) (room : ℕ) → HasNoRequest text → IsHeadBegun requests text room
request_goes_on text room none = partial_goes_on requests text room (λ head rest is parts. none is.head rest (reads_request text head rest room is parts))

-- ---- answers

-- what begins with the text of an answer's head begins with the head
pub reads_reply : (stream text rest : List ℕ) (lines : ℕ) (is : IsReplyText text lines) → stream ≡ text ++ rest → ReadsResponse stream is.head rest
reads_reply stream text rest lines is parts = (is.is, parts ∙ ap (λ (w : List ℕ). w ++ rest) is.printed)

-- where the parser finds no head yet, the text goes on in each
pub reply_goes_on : (text : List ℕ) (room : ℕ) → HasNoResponse text → IsHeadBegun answer_heads text room
reply_goes_on text room none = partial_goes_on answer_heads text room (λ head rest is parts. none is.head rest (reads_reply text head rest room is parts))
