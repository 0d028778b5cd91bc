-- What serving one request at a door does: its head is answered, and the connection is closed.
use Rattle.std.specs.Prelude.{◌≡◌, ℕ, List, ◌++◌, length, true, Option, Some}
use Rattle.http_link.specs.declared.serve.Served.{Served}
use Rattle.http_link.specs.declared.serve.Served.TheVariants.{Closed}
use Rattle.http_link.specs.Answers.{head_with}

-- an answer with a line of its own, after which the connection is closed (RFC 9112, 9.6)
abbrev pub closing_text : List ℕ → ℕ → List ℕ → List ℕ
closing_text own status body = head_with own status (length body) true ++ body

-- a text that answers is written
abbrev pub IsAnswerWritten : (List ℕ → Type 0) → (List ℕ → Type 0) → Type 0
IsAnswerWritten Answers Writes = (text : List ℕ) × Answers text × Writes text

-- of a stream that begins with a head and goes on with rest, exactly the head is taken; it is answered, and the connection is
-- closed (RFC 9112, 9.6)
pub record IsServedAtDoor (rest : List ℕ) (left : Option (List ℕ)) (Answers : List ℕ → Type 0) (Writes : List ℕ → Type 0)
    (served : Served) : Type 0 where
  pub taken : left ≡ Some rest
  pub answered : IsAnswerWritten Answers Writes
  pub closed : served ≡ Closed
