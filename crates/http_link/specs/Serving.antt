-- What serving one request does: what is read, what a service is asked, what is written.
use Rattle.std.specs.Prelude.{◌≡◌, ◌⊎◌, ℕ, List, [], ◌++◌, Bool, Option, Some, Result, Ok}
use Rattle.std.specs.Prelude.{Err, if◌then◌else◌}
use Rattle.http_link.specs.declared.bodies.BodyFault.{BodyFault}
use Rattle.http_link.specs.declared.request.RequestKind.{RequestKind}
use Rattle.http_link.specs.declared.serve.Served.{Served}
use Rattle.http_link.specs.declared.serve.Served.TheVariants.{Kept, Closed, Ended}
use Rattle.http_link.specs.Bodies.{Body, IsBody, bad, cut, body_status, whole}
use Rattle.http_link.specs.Heads.{Head}
use Rattle.http_link.specs.Requests.{Wanted, waits, closes}
use Rattle.http_link.specs.Answers.{answer_text, refusal_text, continue_text}

-- what a service was asked, and the status that it gave
pub record Asked : Type 0 where
  pub kind : RequestKind
  pub tenant : ℕ
  pub token : List ℕ
  pub body : List ℕ
  pub status : ℕ

-- the question of a head, with a body and the status of its answer
abbrev pub asking : Wanted → List ℕ → ℕ → Asked
asking wanted body status =
    record { kind = wanted.kind; tenant = wanted.tenant; token = wanted.token; body = body; status = status }

-- that a service is as it was, that one question made of it what it is, the bytes of its last answer, what is left of a
-- stream, and what it means to have written a text
pub record Traces : Type 1 where
  pub Unasked : Type 0
  pub Asks : Asked → Type 0
  pub answer : List ℕ
  pub left : Option (List ℕ)
  pub Writes : List ℕ → Type 0

-- these, part by part
abbrev pub traces_of : (Unasked : Type 0) → (Asked → Type 0) → (answer : List ℕ) → (left : Option (List ℕ)) → (Writes : List ℕ → Type 0) → Traces
traces_of Unasked Asks answer left Writes = record { Unasked = Unasked; Asks = Asks; answer = answer; left = left; Writes = Writes }

-- whether the connection stays open
abbrev pub kept_unless : Bool → Served
kept_unless closed = if closed then Closed else Kept

-- the body is cut: nothing is asked
pub record IsCut (head : Head) (traces : Traces) (served : Served) : Type 0 where
  pub ended : served ≡ Ended
  pub unasked : traces.Unasked
  pub written : traces.Writes (continue_text (waits head))
  pub left : traces.left ≡ Some []

-- the body is whole: exactly that is asked, once, and the answer is written
pub record IsAskedOnce (wanted : Wanted) (head : Head) (body after : List ℕ) (traces : Traces) (served : Served) : Type 0 where
  pub status : ℕ
  pub asked : traces.Asks (asking wanted body status)
  pub written : traces.Writes (continue_text (waits head) ++ answer_text wanted.kind status traces.answer (closes head))
  pub left : traces.left ≡ Some after
  pub open_or_not : served ≡ kept_unless (closes head)

-- the body is refused: nothing is asked, the status is written, and the connection is closed; nothing is said of how
-- much of the body was read
pub record IsBodyRefused (fault : BodyFault) (head : Head) (traces : Traces) (served : Served) : Type 0 where
  pub closed : served ≡ Closed
  pub unasked : traces.Unasked
  pub written : traces.Writes (continue_text (waits head) ++ refusal_text (body_status fault))

-- a head is refused: nothing is asked, the status is written, and the connection is closed
pub record IsHeadRefused (status : ℕ) (rest : List ℕ) (traces : Traces) (served : Served) : Type 0 where
  pub closed : served ≡ Closed
  pub unasked : traces.Unasked
  pub written : traces.Writes (refusal_text status)
  pub left : traces.left ≡ Some rest

-- what serving a request does, by its body
abbrev pub ServesBody : Wanted → Head → Traces → Served → Body → Type 0
ServesBody wanted head traces served (whole body after) = IsAskedOnce wanted head body after traces served
ServesBody wanted head traces served cut = IsCut head traces served
ServesBody wanted head traces served (bad fault) = IsBodyRefused fault head traces served

-- what serving does with a stream that begins with a head and goes on with `rest`, by the request in the head
abbrev pub IsServed : Result Wanted ℕ → Head → List ℕ → Traces → Served → Type 0
IsServed (Err status) head rest traces served = IsHeadRefused status rest traces served
IsServed (Ok wanted) head rest traces served =
    (body : Body) × IsBody wanted.framing rest body × ServesBody wanted head traces served body

-- the text written to a stream that begins with no head within the limits: none, or 400
abbrev pub WritesNothingOr400 : (List ℕ → Type 0) → Served → Type 0
WritesNothingOr400 Writes served =
    ((served ≡ Ended) × Writes []) ⊎ ((served ≡ Closed) × Writes (refusal_text 400))

-- at most one question was asked
abbrev pub AsksAtMostOnce : {Question : Type 0} → Type 0 → (Question → Type 0) → Type 0
AsksAtMostOnce {Question = Question} Unasked Asks = Unasked ⊎ ((question : Question) × Asks question)

-- the whole body was asked that the bytes begin with
abbrev pub AsksWhole : Wanted → List ℕ → (Asked → Type 0) → Type 0
AsksWhole wanted rest Asks =
    (body : List ℕ) × (after : List ℕ) × IsBody wanted.framing rest (whole body after)
    × ((status : ℕ) × Asks (asking wanted body status))

-- nothing is asked, or only the request of the head, with a whole body
abbrev pub IsAskedOnly : Result Wanted ℕ → List ℕ → Type 0 → (Asked → Type 0) → Type 0
IsAskedOnly (Err status) rest Unasked Asks = Unasked
IsAskedOnly (Ok wanted) rest Unasked Asks = Unasked ⊎ AsksWhole wanted rest Asks
