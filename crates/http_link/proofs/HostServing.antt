-- From what a door does with a head to what serving a known stream at the host's door does.
use Rattle.std.proofs.Common.{◌≡◌, inl, inr, ℕ, List, subst, sym, Option, Result, Ok, Err, IfOk}
use Rattle.std.specs.Prelude.{◌⊎◌}
use Rattle.http_link.specs.Doors.{IsAnswerWritten, IsServedAtDoor}
use Rattle.http_link.specs.Heads.{Head}
use Rattle.http_link.specs.HostDoor.{AnswersHost, HostAsked, HostTraces, HostWanted, IsHostAskedOnly, IsHostServed, host_asking, host_wanted_of}
use Rattle.http_link.specs.Serving.{AsksAtMostOnce}
use Rattle.http_link.specs.declared.host_request.HostRefusal.{HostRefusal}
use Rattle.http_link.specs.declared.serve.Served.{Served}
use Rattle.http_link.specs.declared.streams.LinkFault.{LinkFault}

-- what is done for a head, where that text is written
abbrev says : HostTraces → List ℕ → HostTraces
says traces text = record traces { Writes = λ written. written ≡ text }

written : (want : Result HostWanted HostRefusal) (traces : HostTraces) → IsAnswerWritten (λ text. AnswersHost want (says traces text)) traces.Writes → AnswersHost want traces
written (Ok wanted) traces a =
    record { status = a.1.status; asked = a.1.asked; written = subst traces.Writes (sym a.1.written) a.2 }
written (Err refusal) traces a =
    record { unasked = a.1.unasked; written = subst traces.Writes (sym a.1.written) a.2 }

-- what serving does at a door is what it does at the host's
pub host_served : (result : Result Served LinkFault) (want : Result HostWanted HostRefusal) (rest : List ℕ) (left : Option (List ℕ)) (traces : HostTraces)
    → IfOk result (IsServedAtDoor rest left (λ text. AnswersHost want (says traces text)) traces.Writes) → IfOk result (IsHostServed want rest left traces)
host_served (Ok served) want rest left traces at =
    record { taken = at.taken; answered = written want traces at.answered; closed = at.closed }
host_served (Err fault) want rest left traces at = tt

-- nothing is asked, or only what the head wants
pub host_only : (want : Result HostWanted HostRefusal) (Unasked : Type 0) (Asks : HostAsked → Type 0) → Unasked ⊎ IsHostAskedOnly want Unasked Asks → IsHostAskedOnly want Unasked Asks
host_only (Ok wanted) Unasked Asks (inl none) = inl none
host_only (Err refusal) Unasked Asks (inl none) = none
host_only want Unasked Asks (inr asked) = asked

-- at most one question is asked
asks_once : (want : Result HostWanted HostRefusal) (Unasked : Type 0) (Asks : HostAsked → Type 0)
    → IsHostAskedOnly want Unasked Asks → AsksAtMostOnce Unasked Asks
asks_once (Ok wanted) Unasked Asks (inl none) = inl none
asks_once (Ok wanted) Unasked Asks (inr asked) = inr (host_asking wanted asked.0, asked.1)
asks_once (Err refusal) Unasked Asks none = inl none

pub host_asks_once : (Unasked : Type 0) (Asks : HostAsked → Type 0)
    → Unasked ⊎ ((head : Head) × IsHostAskedOnly (host_wanted_of head) Unasked Asks) → AsksAtMostOnce Unasked Asks
host_asks_once Unasked Asks (inl none) = inl none
host_asks_once Unasked Asks (inr asked) = asks_once (host_wanted_of asked.0) Unasked Asks asked.1
