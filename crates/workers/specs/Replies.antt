-- The replies to a packet that a worker carries, and their statuses.
use Rattle.std.specs.Prelude.{ℕ, ◌≡◌, List, Option, Some, None}
use Rattle.ilp_addr.specs.Target.{Parts as TargetParts}
use Rattle.meters.specs.declared.kind.Kind.{Kind}
use Rattle.meters.specs.declared.kind.Kind.TheVariants as kind
use Rattle.floor_core.specs.Work.{Job}
use Rattle.floor_core.specs.declared.parts.Got.{Got}
use Rattle.workers.specs.declared.reply.Reply.{Reply}
use Rattle.workers.specs.declared.reply.Reply.TheVariants.{Malformed, Nameless, Stranger, Spent, Memory, NoRoom, Unkept, Decided, Settled, Untold, Lost}
use Rattle.workers.specs.declared.reply.Status.{Status}
use Rattle.workers.specs.declared.reply.Status.TheVariants as status

-- the number of a status (RFC 9110, 15)
abbrev pub http_code : Status → ℕ
http_code status.Answered = 200
http_code status.Malformed = 400
http_code status.Unauthorized = 401
http_code status.Unavailable = 503

-- what an answer with that status is counted as
abbrev pub kind_of : Status → Kind
kind_of status.Answered = kind.Answered
kind_of status.Malformed = kind.ClientError
kind_of status.Unauthorized = kind.ClientError
kind_of status.Unavailable = kind.Unavailable

-- the status of the answer to a packet
abbrev pub status_of : Reply → Status
status_of Malformed = status.Malformed
status_of Nameless = status.Unauthorized
status_of Stranger = status.Unauthorized
status_of Spent = status.Unavailable
status_of Memory = status.Unavailable
status_of NoRoom = status.Unavailable
status_of Unkept = status.Unavailable
status_of Decided = status.Answered
status_of (Settled got) = status.Answered
status_of (Untold got) = status.Unavailable
status_of (Lost got) = status.Unavailable

-- what came back, if the packet was sent on
abbrev pub got_of : Reply → Option Got
got_of (Settled got) = Some got
got_of (Untold got) = Some got
got_of (Lost got) = Some got
got_of _ = None

-- how often it was sent on
abbrev pub sends_of : Reply → ℕ
sends_of (Settled got) = 1
sends_of (Untold got) = 1
sends_of (Lost got) = 1
sends_of _ = 0

-- a packet that was sent, and what came back: so many bytes at the front of the room, or nothing
pub record Sending : Type 0 where
  pub tenant : ℕ
  pub target : TargetParts
  pub frame : List ℕ
  pub expiry : ℕ
  pub got : Got
  pub room : List ℕ

-- the tenant's packet was sent in this exchange
pub record WasSent (came : Got) (sender : ℕ) (So : Sending → Type 0) : Type 0 where
  pub sending : Sending
  pub tenant : sending.tenant ≡ sender
  pub got : sending.got ≡ came
  pub so : So sending

-- the packet was sent once, or the link is as it was
abbrev pub IsSentSo : Reply → ℕ → (Sending → Type 0) → Type 0 → Type 0
IsSentSo (Settled got) tenant So Same = WasSent got tenant So
IsSentSo (Untold got) tenant So Same = WasSent got tenant So
IsSentSo (Lost got) tenant So Same = WasSent got tenant So
IsSentSo _ tenant So Same = Same

-- the call is over, unless the answer is unavailable (503)
abbrev pub IsCallOver : Reply → Job → Type 0
IsCallOver Spent job = Unit {0}
IsCallOver Memory job = Unit {0}
IsCallOver NoRoom job = Unit {0}
IsCallOver Unkept job = Unit {0}
IsCallOver (Untold got) job = Unit {0}
IsCallOver (Lost got) job = Unit {0}
IsCallOver _ job = job ≡ Job.NoJob

-- the frame was a Prepare, and the token well formed
abbrev pub IsOfPrepare : Reply → Type 0
IsOfPrepare Malformed = ⊥
IsOfPrepare Nameless = ⊥
IsOfPrepare _ = Unit {0}
