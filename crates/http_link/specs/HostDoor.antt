-- The door of the host, who runs the process: what may be asked there, and what serving one request does.
use Rattle.std.specs.Prelude.{◌≡◌, ◌⊎◌, ℕ, List, [], ◌++◌, ◌==◌, if◌then◌else◌, codes}
use Rattle.std.specs.Prelude.{Option, Some, None, Result, Ok, Err}
use Rattle.std.specs.Str.{bytes_eq}
use Rattle.common_types.specs.ResultChain.{◌>>=◌}
use Rattle.http_link.specs.declared.host_request.HostRefusal.{HostRefusal}
use Rattle.http_link.specs.declared.host_request.HostRefusal.TheVariants.{Target, Method, Token}
use Rattle.http_link.specs.declared.host_request.HostRequest.{HostRequest}
use Rattle.http_link.specs.declared.host_request.HostRequest.TheVariants.{Health, Metrics, Setup, Stop}
use Rattle.http_link.specs.declared.host_request.HostWanted.{HostWanted as HostWantedAt}
use Rattle.http_link.specs.declared.serve.Served.{Served}
use Rattle.http_link.specs.declared.serve.Served.TheVariants.{Closed}
use Rattle.http_link.specs.Answers.{line, refusal_text}
use Rattle.http_link.specs.Doors.{closing_text}
use Rattle.http_link.specs.Fields.{Occurrence, occurrence}
use Rattle.http_link.specs.Heads.{Head}
use Rattle.http_link.specs.Requests.{or_refused, token_in}

-- ---- requests

-- the target of a request (RFC 9112, 3.2.1)
abbrev pub host_target : HostRequest → List ℕ
host_target Health = codes "/health"
host_target Metrics = codes "/metrics"
host_target Setup = codes "/setup"
host_target Stop = codes "/stop"

-- the method of a request (RFC 9110, 9.3.1 and 9.3.3)
abbrev pub method_of : HostRequest → List ℕ
method_of Health = codes "GET"
method_of Metrics = codes "GET"
method_of Setup = codes "GET"
method_of Stop = codes "POST"

-- the request with that target, exactly (RFC 9112, 3.2.1)
abbrev pub request_at : List ℕ → Option HostRequest
request_at target =
    if bytes_eq target (host_target Health) then Some Health
    else (if bytes_eq target (host_target Metrics) then Some Metrics
    else (if bytes_eq target (host_target Setup) then Some Setup
    else (if bytes_eq target (host_target Stop) then Some Stop else None)))

-- the token with which a request comes, by the lines that show credentials; for `Health` none is looked at (RFC 6750, 2.1)
abbrev pub token_shown : HostRequest → Occurrence → Option (List ℕ)
token_shown Health shown = Some []
token_shown Metrics shown = token_in shown
token_shown Setup shown = token_in shown
token_shown Stop shown = token_in shown

-- what a head asks for that nothing refuses
pub record HostWanted : Type 0 where
  pub request : HostRequest
  pub token : List ℕ

-- what a head asks for, without the place of its token
abbrev pub host_wanted_at : HostWantedAt → HostWanted
host_wanted_at wanted = record { request = wanted.request; token = wanted.token.now }

-- what a head asks for, or why the first check that fails refuses it (RFC 9110, 15.5.2, 15.5.5 and 15.5.6)
abbrev pub host_wanted_of : Head → Result HostWanted HostRefusal
host_wanted_of head = do
  request ← or_refused Target (request_at head.target)
  called ← if bytes_eq head.method (method_of request) then Ok head.method else Err (Method request)
  token ← or_refused Token (token_shown request (occurrence (codes "Authorization") head.lines))
  Ok (record { request = request; token = token })

-- ---- answers

-- what an answer of status 200 is (RFC 9110, 8.3)
abbrev pub media_of : HostRequest → List ℕ
media_of Health = codes "text/plain"
media_of Metrics = codes "text/plain; version=0.0.4"
media_of Setup = codes "application/toml"
media_of Stop = codes "application/toml"

-- the line that says what an answer is (RFC 9110, 8.3)
abbrev pub media_line : HostRequest → List ℕ
media_line request = line (codes "Content-Type: " ++ media_of request)

-- the line that says which method a request has (RFC 9110, 10.2.1)
abbrev pub allow_line : HostRequest → List ℕ
allow_line request = line (codes "Allow: " ++ method_of request)

-- the answer with a service's status: 200 with its bytes, 401, or 503 for any other (RFC 9110, 15.3.1, 15.5.2 and 15.6.4)
abbrev pub host_answer : HostRequest → ℕ → List ℕ → List ℕ
host_answer request status body =
    if status == 200 then closing_text (media_line request) 200 body
    else (if status == 401 then refusal_text 401 else refusal_text 503)

-- the answer that refuses a head (RFC 9110, 15.5.2, 15.5.5 and 15.5.6)
abbrev pub host_refusal_text : HostRefusal → List ℕ
host_refusal_text Target = refusal_text 404
host_refusal_text (Method request) = closing_text (allow_line request) 405 []
host_refusal_text Token = refusal_text 401

-- ---- serving

-- what a service was asked, and the status that it gave
pub record HostAsked : Type 0 where
  pub request : HostRequest
  pub token : List ℕ
  pub status : ℕ

-- the question of a head, with the status of its answer
abbrev pub host_asking : HostWanted → ℕ → HostAsked
host_asking wanted status = record { request = wanted.request; token = wanted.token; status = status }

-- that a service is as it was, that one question made of it what it is, the bytes of its last answer, and what it means to have
-- written a text
pub record HostTraces : Type 1 where
  pub Unasked : Type 0
  pub Asks : HostAsked → Type 0
  pub answer : List ℕ
  pub Writes : List ℕ → Type 0

-- the wanted question is asked, exactly once, and the answer is written
pub record IsHostAsked (wanted : HostWanted) (traces : HostTraces) : Type 0 where
  pub status : ℕ
  pub asked : traces.Asks (host_asking wanted status)
  pub written : traces.Writes (host_answer wanted.request status traces.answer)

-- nothing is asked, and what refuses the head is written
pub record IsHostRefused (refusal : HostRefusal) (traces : HostTraces) : Type 0 where
  pub unasked : traces.Unasked
  pub written : traces.Writes (host_refusal_text refusal)

-- what is done, by the request in the head
abbrev pub AnswersHost : Result HostWanted HostRefusal → HostTraces → Type 0
AnswersHost (Ok wanted) traces = IsHostAsked wanted traces
AnswersHost (Err refusal) traces = IsHostRefused refusal traces

-- What serving a stream does that begins with a head of that request and goes on with `rest`. Exactly the head is
-- taken, it is answered, and the connection is closed (RFC 9112, 9.6).
pub record IsHostServed (want : Result HostWanted HostRefusal) (rest : List ℕ) (left : Option (List ℕ)) (traces : HostTraces)
    (served : Served) : Type 0 where
  pub taken : left ≡ Some rest
  pub answered : AnswersHost want traces
  pub closed : served ≡ Closed

-- nothing is asked, or only the question of the head
abbrev pub IsHostAskedOnly : Result HostWanted HostRefusal → Type 0 → (HostAsked → Type 0) → Type 0
IsHostAskedOnly (Ok wanted) Unasked Asks = Unasked ⊎ ((status : ℕ) × Asks (host_asking wanted status))
IsHostAskedOnly (Err refusal) Unasked Asks = Unasked
