-- The door of the operators: what one may ask there of its tenant, which commands it takes, and what serving one request does.
use Rattle.std.specs.Prelude.{◌≡◌, ◌+◌, ◌⊎◌, ℕ, List, [], ◌++◌, take, drop, ◌==◌, if◌then◌else◌, codes}
use Rattle.std.specs.Prelude.{Option, Some, None, Result, Ok, Err, option_map}
use Rattle.std.specs.Io.KnownBytes.{Consumes, IsAtEnd}
use Rattle.std.specs.List.{position}
use Rattle.std.specs.Str.{bytes_eq}
use Rattle.httparse.specs.Grammar.{RequestHead}
use Rattle.common_types.specs.ResultChain.{◌>>=◌}
use Rattle.http_link.specs.declared.bodies.BodyFault.{BodyFault}
use Rattle.http_link.specs.declared.bodies.Framing.{Framing}
use Rattle.http_link.specs.declared.bodies.Framing.TheVariants.{Sized}
use Rattle.http_link.specs.declared.operator_request.OperatorRefusal.{OperatorRefusal}
use Rattle.http_link.specs.declared.operator_request.OperatorRefusal.TheVariants.{Method, Status}
use Rattle.http_link.specs.declared.operator_request.OperatorRequest.{OperatorRequest}
use Rattle.http_link.specs.declared.operator_request.OperatorRequest.TheVariants.{Ask, Command}
use Rattle.http_link.specs.declared.operator_request.OperatorSought.{OperatorSought as OperatorSoughtAt}
use Rattle.http_link.specs.declared.operator_request.OperatorWanted.{OperatorWanted as OperatorWantedAt}
use Rattle.http_link.specs.declared.operator_request.Topic.{Topic}
use Rattle.http_link.specs.declared.operator_request.Topic.TheVariants.{Setup, Metrics, Statement, Explain}
use Rattle.http_link.specs.declared.request.RequestKind.TheVariants.{Admin}
use Rattle.http_link.specs.declared.serve.Served.{Served}
use Rattle.http_link.specs.declared.serve.Served.TheVariants.{Closed, Ended}
use Rattle.http_link.specs.Answers.{continue_text, line, refusal_text}
use Rattle.http_link.specs.Bodies.{Body, IsBody, bad, body_status, cut, whole}
use Rattle.http_link.specs.Doors.{closing_text}
use Rattle.http_link.specs.Fields.{occurrence}
use Rattle.http_link.specs.Heads.{BeginsWith, Head, head_of}
use Rattle.http_link.specs.Requests.{framing_in, or_refused, token_in, waits}

-- ---- requests

-- what is before the first such byte, and what is after it
abbrev pub parted : ℕ → List ℕ → Option (List ℕ × List ℕ)
parted mark bytes = option_map (λ at. (take at bytes, drop (at + 1) bytes)) (position (λ b. b == mark) bytes)

-- what these words ask about, and what they say of it: the number of a period, or a question (RFC 9112, 3.2.1)
abbrev pub topic_at : List ℕ → Option (Topic × List ℕ)
topic_at words =
    if bytes_eq words (codes "setup") then Some (Setup, [])
    else (if bytes_eq words (codes "metrics") then Some (Metrics, [])
    else (if bytes_eq (take 11 words) (codes "statements/") then Some (Statement, drop 11 words)
    else (if bytes_eq words (codes "explain") then Some (Explain, [])
    else (if bytes_eq (take 8 words) (codes "explain?") then Some (Explain, drop 8 words) else None))))

-- the request of a path, which is a name, or a name and words: the name, the request, and what the words say of it
abbrev pub operator_named : List ℕ → Option (List ℕ × List ℕ) → Option (List ℕ × OperatorRequest × List ℕ)
operator_named path None = Some (path, Command, [])
operator_named path (Some parts) = option_map (λ asked. (parts.0, Ask asked.0, asked.1)) (topic_at parts.1)

-- `/NAME`, where commands go, or `/NAME/WORDS` (RFC 9112, 3.2.1)
abbrev pub operator_place : List ℕ → Option (List ℕ × OperatorRequest × List ℕ)
operator_place target =
    if bytes_eq (take 1 target) (codes "/") then operator_named (drop 1 target) (parted 47 (drop 1 target)) else None

-- the method of a request (RFC 9110, 9.3.1 and 9.3.3)
abbrev pub operator_method : OperatorRequest → List ℕ
operator_method Command = codes "POST"
operator_method (Ask topic) = codes "GET"

-- how the body of a request is framed: only a command's is read
abbrev pub operator_framing : OperatorRequest → Head → Result Framing ℕ
operator_framing Command head = framing_in Admin head
operator_framing (Ask topic) head = Ok (Sized 0)

-- what a head asks for that nothing refuses
pub record OperatorWanted : Type 0 where
  pub tenant : List ℕ
  pub request : OperatorRequest
  pub words : List ℕ
  pub token : List ℕ

-- the same, and how the body after it is framed
pub record OperatorSought : Type 0 where
  pub wanted : OperatorWanted
  pub framing : Framing

-- what a head asks for, without where its parts lie
abbrev pub operator_wanted_at : OperatorWantedAt → OperatorWanted
operator_wanted_at wanted =
    record { tenant = wanted.tenant.now; request = wanted.request; words = wanted.words.now; token = wanted.token.now }

abbrev pub operator_sought_at : OperatorSoughtAt → OperatorSought
operator_sought_at sought = record { wanted = operator_wanted_at sought.wanted; framing = sought.framing }

-- a value, or a refusal with the status
abbrev pub refused_with : {A : Type 0} → Result A ℕ → Result A OperatorRefusal
refused_with (Ok value) = Ok value
refused_with (Err status) = Err (Status status)

-- what a head asks for, or the first check that refuses it (RFC 9110, 15.5.2, 15.5.5 and 15.5.6)
abbrev pub operator_sought_of : Head → Result OperatorSought OperatorRefusal
operator_sought_of head = do
  place ← or_refused (Status 404) (operator_place head.target)
  called ← if bytes_eq head.method (operator_method place.1) then Ok head.method else Err (Method place.1)
  framing ← refused_with (operator_framing place.1 head)
  token ← or_refused (Status 401) (token_in (occurrence (codes "Authorization") head.lines))
  Ok (record { wanted = record { tenant = place.0; request = place.1; words = place.2; token = token }; framing = framing })

-- the status that turns a request away by its head, if there is one: then the request is refused with it
abbrev pub admitted_unless : OperatorSought → Option ℕ → Result OperatorSought OperatorRefusal
admitted_unless sought None = Ok sought
admitted_unless sought (Some status) = Err (Status status)

-- what a head asks for where a service does not turn it away (RFC 9110, 15.5.2 and 15.5.5)
abbrev pub admitted : (OperatorWanted → Option ℕ) → Result OperatorSought OperatorRefusal → Result OperatorSought OperatorRefusal
admitted refuses (Err refusal) = Err refusal
admitted refuses (Ok sought) = admitted_unless sought (refuses sought.wanted)

-- ---- answers

-- what an answer of status 200 is (RFC 9110, 8.3)
abbrev pub operator_media : OperatorRequest → List ℕ
operator_media Command = codes "text/plain"
operator_media (Ask Setup) = codes "application/toml"
operator_media (Ask Metrics) = codes "text/plain; version=0.0.4"
operator_media (Ask Statement) = codes "text/plain"
operator_media (Ask Explain) = codes "text/plain"

-- the line that says what an answer is (RFC 9110, 8.3)
abbrev pub operator_media_line : List ℕ → List ℕ
operator_media_line media = line (codes "Content-Type: " ++ media)

-- the answer with a service's status: 200 with its bytes, 400 with the line that says why, 401, 404, or 503 for any other
-- (RFC 9110, 15.3.1, 15.5.1, 15.5.2, 15.5.5 and 15.6.4)
abbrev pub operator_text : OperatorRequest → ℕ → List ℕ → List ℕ
operator_text request status body =
    if status == 200 then closing_text (operator_media_line (operator_media request)) 200 body
    else (if status == 400 then closing_text (operator_media_line (codes "text/plain")) 400 body
    else (if status == 401 then refusal_text 401
    else (if status == 404 then refusal_text 404 else refusal_text 503)))

-- the answer that refuses a head (RFC 9110, 10.2.1, 15.5.2, 15.5.5 and 15.5.6)
abbrev pub operator_refusal_text : OperatorRefusal → List ℕ
operator_refusal_text (Method request) = closing_text (line (codes "Allow: " ++ operator_method request)) 405 []
operator_refusal_text (Status status) = refusal_text status

-- the interim answer to a client that waits before it sends a command (RFC 9110, 10.1.1)
abbrev pub operator_interim : OperatorRequest → Head → List ℕ
operator_interim Command head = continue_text (waits head)
operator_interim (Ask topic) head = []

-- ---- serving

-- what a service was asked, with which body, and the status that it gave
pub record OperatorAsked : Type 0 where
  pub wanted : OperatorWanted
  pub body : List ℕ
  pub status : ℕ

-- the question of a head, with a body and the status of its answer
abbrev pub operator_asking : OperatorWanted → List ℕ → ℕ → OperatorAsked
operator_asking wanted body status = record { wanted = wanted; body = body; status = status }

-- that a service is as it was, that one question made of it what it is, the bytes of its last answer, what is left of a
-- stream, and what it means to have written a text
pub record OperatorTraces : Type 1 where
  pub Unasked : Type 0
  pub Asks : OperatorAsked → Type 0
  pub answer : List ℕ
  pub left : Option (List ℕ)
  pub Writes : List ℕ → Type 0

-- these, part by part
abbrev pub operator_traces_of : (Unasked : Type 0) → (OperatorAsked → Type 0) → (answer : List ℕ) → (left : Option (List ℕ)) → (Writes : List ℕ → Type 0) → OperatorTraces
operator_traces_of Unasked Asks answer left Writes = record { Unasked = Unasked; Asks = Asks; answer = answer; left = left; Writes = Writes }

-- the body is whole: exactly that is asked, once, and the answer is written
pub record IsOperatorAsked (wanted : OperatorWanted) (head : Head) (body after : List ℕ) (traces : OperatorTraces) (served : Served) : Type 0 where
  pub status : ℕ
  pub asked : traces.Asks (operator_asking wanted body status)
  pub written : traces.Writes (operator_interim wanted.request head ++ operator_text wanted.request status traces.answer)
  pub left : traces.left ≡ Some after
  pub closed : served ≡ Closed

-- the body is cut: nothing is asked
pub record IsOperatorCut (wanted : OperatorWanted) (head : Head) (traces : OperatorTraces) (served : Served) : Type 0 where
  pub unasked : traces.Unasked
  pub written : traces.Writes (operator_interim wanted.request head)
  pub left : traces.left ≡ Some []
  pub ended : served ≡ Ended

-- the body is refused: nothing is asked, and the status is written; nothing is said of how much of the body was read
pub record IsOperatorBodyRefused (fault : BodyFault) (wanted : OperatorWanted) (head : Head) (traces : OperatorTraces) (served : Served) : Type 0 where
  pub unasked : traces.Unasked
  pub written : traces.Writes (operator_interim wanted.request head ++ refusal_text (body_status fault))
  pub closed : served ≡ Closed

-- a head is refused: nothing is asked, and the refusal is written
pub record IsOperatorRefused (refusal : OperatorRefusal) (rest : List ℕ) (traces : OperatorTraces) (served : Served) : Type 0 where
  pub unasked : traces.Unasked
  pub written : traces.Writes (operator_refusal_text refusal)
  pub left : traces.left ≡ Some rest
  pub closed : served ≡ Closed

-- what serving a request does, by its body
abbrev pub ServesOperatorBody : OperatorWanted → Head → OperatorTraces → Served → Body → Type 0
ServesOperatorBody wanted head traces served (whole body after) = IsOperatorAsked wanted head body after traces served
ServesOperatorBody wanted head traces served cut = IsOperatorCut wanted head traces served
ServesOperatorBody wanted head traces served (bad fault) = IsOperatorBodyRefused fault wanted head traces served

-- What serving does with a stream that begins with a head and goes on with `rest`, by the request in the head. No byte after that
-- request is taken (RFC 9112, 9.6).
abbrev pub IsOperatorServed : Result OperatorSought OperatorRefusal → Head → List ℕ → OperatorTraces → Served → Type 0
IsOperatorServed (Err refusal) head rest traces served = IsOperatorRefused refusal rest traces served
IsOperatorServed (Ok sought) head rest traces served =
    (body : Body) × IsBody sought.framing rest body × ServesOperatorBody sought.wanted head traces served body

-- the whole body was asked that the bytes begin with
abbrev pub AsksOperatorWhole : OperatorSought → List ℕ → (OperatorAsked → Type 0) → Type 0
AsksOperatorWhole sought rest Asks =
    (body : List ℕ) × (after : List ℕ) × IsBody sought.framing rest (whole body after)
    × ((status : ℕ) × Asks (operator_asking sought.wanted body status))

-- nothing is asked, or only the request of the head, with a whole body
abbrev pub IsOperatorAskedOnly : Result OperatorSought OperatorRefusal → List ℕ → Type 0 → (OperatorAsked → Type 0) → Type 0
IsOperatorAskedOnly (Err refusal) rest Unasked Asks = Unasked
IsOperatorAskedOnly (Ok sought) rest Unasked Asks = Unasked ⊎ AsksOperatorWhole sought rest Asks

-- bytes are a head within the limits and what follows it, and the request of the head, which is not turned away, asks this
pub record IsOperatorAskedBy (refuses : OperatorWanted → Option ℕ) (bytes : List ℕ) (asked : OperatorAsked) : Type 0 where
  pub head : RequestHead
  pub rest : List ℕ
  pub begins : BeginsWith bytes head rest
  pub sought : OperatorSought
  pub wants : admitted refuses (operator_sought_of (head_of head)) ≡ Ok sought
  pub after : List ℕ
  pub frames : IsBody sought.framing rest (whole asked.body after)
  pub asks : asked ≡ operator_asking sought.wanted asked.body asked.status

-- the request of the bytes that came was asked
pub record AsksOperatorCame (refuses : OperatorWanted → Option ℕ) (old new : Option (List ℕ)) (Asks : OperatorAsked → Type 0) : Type 0 where
  pub came : List ℕ
  pub taken : Consumes old new came
  pub asked : OperatorAsked
  pub by : IsOperatorAskedBy refuses came asked
  pub asks : Asks asked

-- ---- after the head

-- what is done with a head that asks for that, of whose body nothing had come: all the bytes that came belong to the request
pub record RunsOnOperatorHead (want : Result OperatorSought OperatorRefusal) (head : Head) (old new : Option (List ℕ)) (traces : OperatorTraces) (served : Served)
    : Type 0 where
  pub came : List ℕ
  pub taken : Consumes old new came
  pub so : IsOperatorServed want head came traces served
  pub ended : served ≡ Ended → IsAtEnd new

-- nothing is asked, or only the request of the head, with a whole body
abbrev pub AsksOperatorSought : Result OperatorSought OperatorRefusal → (old new : Option (List ℕ)) → Type 0 → (OperatorAsked → Type 0) → Type 0
AsksOperatorSought want old new Unasked Asks =
    Unasked ⊎ ((came : List ℕ) × Consumes old new came × IsOperatorAskedOnly want came ⊥ Asks)
