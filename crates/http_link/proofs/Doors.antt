-- From what is done with a head to what serving a known stream at a door does.
use Rattle.std.proofs.Common.{◌≡◌, ℕ, List, subst, Option, Some, Result, Ok, Err, IfOk}
use Rattle.httparse.specs.Grammar.{RequestHead}
use Rattle.http_link.specs.Doors.{IsAnswerWritten, IsServedAtDoor}
use Rattle.http_link.specs.Heads.{Head, head_of}
use Rattle.http_link.specs.declared.serve.Served.{Served}
use Rattle.http_link.specs.declared.serve.Served.TheVariants.{Closed}
use Rattle.http_link.specs.declared.streams.LinkFault.{LinkFault}

-- what is done with the head that was found is what serving the stream does
pub door_served : (result : Result Served LinkFault) (said : Head) (new : Option (List ℕ)) (Answers : Head → List ℕ → Type 0) (Writes : List ℕ → Type 0) (head : RequestHead) (rest : List ℕ)
    → (said ≡ head_of head) × (new ≡ Some rest) → IfOk result (λ served. (served ≡ Closed) × IsAnswerWritten (Answers said) Writes)
    → IfOk result (IsServedAtDoor rest new (Answers (head_of head)) Writes)
door_served (Ok served) said new Answers Writes head rest is so =
    record { taken = is.1; answered = subst (λ (h : Head). IsAnswerWritten (Answers h) Writes) is.0 so.1; closed = so.0 }
door_served (Err fault) said new Answers Writes head rest is so = tt

-- what is asked for the head that was found is what the stream's head wants
pub door_asked : (said : Head) (new : Option (List ℕ)) (Asks : Head → Type 0) (head : RequestHead) (rest : List ℕ)
    → (said ≡ head_of head) × (new ≡ Some rest) → Asks said → Asks (head_of head)
door_asked said new Asks head rest is asks = subst Asks is.0 asks
