-- What a link sends to a peer, and what the peer's answer means (RFC 0035).
use Rattle.std.specs.Prelude.{◌≡◌, ◌≢◌, ◌≤◌, ◌⊎◌, ℕ, suc, zero, List, ◌++◌, length, take, Bool, ◌&&◌, ◌==◌, nat_lt, if◌then◌else◌}
use Rattle.std.specs.Prelude.{codes, decimal, Option, Some, Result, Ok, Err, IsTrue, IsFalse}
use Rattle.common_types.specs.Numbers.{is_between}
use Rattle.ilp_addr.specs.Target.{Parts, authority_of, path_of}
use Rattle.httparse.specs.Grammar.{ResponseHead}
use Rattle.http_link.specs.Bodies.{Body, IsBody, bad, cut, most_of, whole}
use Rattle.http_link.specs.declared.bodies.BodyFault.TheVariants.{Malformed, TooLarge}
use Rattle.http_link.specs.declared.bodies.Framing.TheVariants.{Chunked, Sized}
use Rattle.http_link.specs.declared.posting.AnswerFraming.{AnswerFraming}
use Rattle.http_link.specs.declared.posting.AnswerFraming.TheVariants.{Framed, ToEnd}
use Rattle.http_link.specs.declared.posting.PostFault.{PostFault}
use Rattle.http_link.specs.declared.posting.PostFault.TheVariants.{Read, Write, Turns, Cut, Head, Status, Unframed}
use Rattle.http_link.specs.declared.posting.PostFault.TheVariants.{Size}
use Rattle.http_link.specs.declared.streams.LinkFault.{LinkFault}
use Rattle.http_link.specs.declared.streams.LinkFault.TheVariants as links
use Rattle.common_types.specs.Numerals.{value_of}
use Rattle.http_link.specs.Fields.{Occurrence, missing, once, repeated, occurrence, is_chunked, is_length}
use Rattle.http_link.specs.Limits.{max_peer_answer}
use Rattle.http_link.specs.Heads.{BeginsAnswer, Reply, reply_of}
use Rattle.http_link.specs.Answers.{line}

-- the head of a request that posts so many bytes (RFC 9112, 3 and 3.2; RFC 9110, 7.2 and 8.6; RFC 6750, 2.1)
abbrev pub post_head : Parts → ℕ → List ℕ
post_head target size =
    line (codes "POST " ++ path_of target.url ++ codes " HTTP/1.1")
    ++ line (codes "Host: " ++ authority_of target.url)
    ++ line (codes "Authorization: Bearer " ++ target.token)
    ++ line (codes "Accept: application/octet-stream")
    ++ line (codes "Content-Type: application/octet-stream")
    ++ line (codes "Content-Length: " ++ decimal size)
    ++ line (codes "Connection: close")
    ++ codes "\r\n"

-- the request that posts a frame
abbrev pub post_text : Parts → List ℕ → List ℕ
post_text target frame = post_head target (length frame) ++ frame

-- a body of a stated length (RFC 9112, 6.2)
abbrev pub sized_by : ℕ → Result AnswerFraming PostFault
sized_by size = if nat_lt max_peer_answer size then Err Size else Ok (Framed (Sized size))

-- a body in chunks; another coding we don't read (RFC 9112, 6.1 and 7.1)
abbrev pub coded_by : (minor : ℕ) → List ℕ → Result AnswerFraming PostFault
coded_by minor coding =
    if (minor == 1) && is_chunked coding then Ok (Framed (Chunked max_peer_answer)) else Err Unframed

-- how a body is framed, by the lines on its coding and its length (RFC 9112, 6.3)
abbrev pub framing_by : (minor : ℕ) → (coded length : Occurrence) → Result AnswerFraming PostFault
framing_by minor missing missing = Ok ToEnd
framing_by minor missing (once text) = if is_length text then sized_by (value_of text) else Err Unframed
framing_by minor missing repeated = Err Unframed
framing_by minor (once coding) missing = coded_by minor coding
framing_by minor (once coding) (once text) = Err Unframed
framing_by minor (once coding) repeated = Err Unframed
framing_by minor repeated length = Err Unframed

-- how the body after the last head of an answer is framed, by its status (RFC 9110, 15.3.1)
abbrev pub framing_in : Reply → Result AnswerFraming PostFault
framing_in reply =
    if reply.status == 200
    then framing_by reply.minor (occurrence (codes "Transfer-Encoding") reply.lines) (occurrence (codes "Content-Length") reply.lines)
    else Err Status

-- the meaning of a body
abbrev pub body_meaning : Body → Result (List ℕ) PostFault
body_meaning (whole bytes after) = Ok bytes
body_meaning cut = Err Cut
body_meaning (bad Malformed) = Err Unframed
body_meaning (bad TooLarge) = Err Size

-- a body that goes to the end of the stream (RFC 9112, 6.3)
abbrev pub body_to_end : List ℕ → Result (List ℕ) PostFault
body_to_end rest = if nat_lt max_peer_answer (length rest) then Err Size else Ok rest

-- the meaning of bytes as a body with this framing
abbrev pub MeansFramed : AnswerFraming → List ℕ → Result (List ℕ) PostFault → Type 0
MeansFramed (Framed framing) rest meaning = (body : Body) × IsBody framing rest body × (meaning ≡ body_meaning body)
MeansFramed ToEnd rest meaning = meaning ≡ body_to_end rest

-- the same, or why the head is refused
abbrev pub MeansAs : Result AnswerFraming PostFault → List ℕ → Result (List ℕ) PostFault → Type 0
MeansAs (Ok framing) rest meaning = MeansFramed framing rest meaning
MeansAs (Err fault) rest meaning = meaning ≡ Err fault

-- the meaning of the last head of an answer and the bytes after it
abbrev pub IsMeaning : Reply → List ℕ → Result (List ℕ) PostFault → Type 0
IsMeaning reply rest meaning = MeansAs (framing_in reply) rest meaning

-- an interim answer (RFC 9110, 15.2)
abbrev pub is_interim : Reply → Bool
is_interim reply = is_between 100 199 reply.status

-- the meaning of the first head of a stream; `next` is that of the bytes after an interim head
pub record FirstMeans (next : List ℕ → Result (List ℕ) PostFault → Type 0) (stream : List ℕ)
    (meaning : Result (List ℕ) PostFault) : Type 0 where
  pub head : ResponseHead
  pub rest : List ℕ
  pub begins : BeginsAnswer stream head rest
  pub interim : IsTrue (is_interim (reply_of head)) → next rest meaning
  pub final : IsFalse (is_interim (reply_of head)) → IsMeaning (reply_of head) rest meaning

-- no head within the limits begins the stream: it is cut inside one, or has none
pub record HasNone (stream : List ℕ) (meaning : Result (List ℕ) PostFault) : Type 0 where
  pub none : (head : ResponseHead) (rest : List ℕ) → BeginsAnswer stream head rest → ⊥
  pub fault : (meaning ≡ Err Head) ⊎ (meaning ≡ Err Cut)

-- the meaning of a stream as an answer, if at most so many heads may come, all but the last of them interim
abbrev pub Means : ℕ → List ℕ → Result (List ℕ) PostFault → Type 0
Means zero stream meaning = meaning ≡ Err Head
Means (suc heads) stream meaning = FirstMeans (Means heads) stream meaning ⊎ HasNone stream meaning

-- the outcome of an answer: so many bytes at the front of a buffer, or a fault
abbrev pub given : Result ℕ PostFault → List ℕ → Result (List ℕ) PostFault
given (Ok n) out = Ok (take n out)
given (Err fault) out = Err fault

-- the fault of a link as a fault of a post
abbrev pub post_fault_of : LinkFault → PostFault
post_fault_of links.Read = Read
post_fault_of links.Write = Write
post_fault_of links.Turns = Turns

-- the outcome is the meaning, as a body with this framing, of the bytes that had come and the known bytes after them,
-- unless the device failed or too many reads were made
abbrev pub GivesAs : AnswerFraming → (had : List ℕ) → Option (List ℕ) → Result ℕ PostFault → List ℕ → Type 0
GivesAs framing had known result out =
    (rest : List ℕ) → known ≡ Some rest → result ≢ Err Read → result ≢ Err Turns → MeansFramed framing (had ++ rest) (given result out)

-- a body that is framed so has no more bytes than there may be
abbrev pub FitsAnswer : AnswerFraming → Type 0
FitsAnswer (Framed framing) = most_of framing ≤ max_peer_answer
FitsAnswer ToEnd = Unit {0}
