-- The causes of records in tenants' books, and the records that the steps of a list make.
use Rattle.std.specs.Prelude.{ℕ, ◌≡◌, ◌<◌, List, [], ◌∷◌, ◌++◌, length, All, Option, Some, None, Result, Ok, Err, slice_get}
use Rattle.oer_core.specs.Length.{AreBytes}
use Rattle.ilp_view.specs.Packet.{Prepare}
use Rattle.tenant_core.specs.Answer.{answer_made, tick_made}
use Rattle.tenant_core.specs.Governed.{command_made, commanded}
use Rattle.tenant_core.specs.Judge.{decide_made}
use Rattle.tenant_core.specs.State.{State, opened, recorded}
use Rattle.tenant_core.specs.declared.command.Command.{Command}
use Rattle.tenant_core.specs.declared.journal.Record.{Record}
use Rattle.tenant_core.specs.declared.opening.Opening.{Opening}
use Rattle.floor_core.specs.Forwards.{AreForwards, HasBytes, no_frames}
use Rattle.floor_core.specs.World.{Tenant, Event, Owner, World, put, new_tenant, no_book, arrival, key_in, answer_key, heard}
use Rattle.floor_core.specs.World.{effect_of, all_free, owner, FitsIn, AreOutputs, IsLeft}
use Rattle.floor_core.specs.Worlds.{world_after}
use Rattle.floor_core.specs.declared.step.PeerAnswer.{PeerAnswer}
use Rattle.floor_core.specs.declared.step.Malformed.{Malformed}
use Rattle.floor_core.specs.declared.step.Output.{Output}
use Rattle.floor_core.specs.declared.step.Step.{Step}

-- ---- the cause of a record

-- a frame that came with a token and was decided; an answer to a hold; a moment; a command
pub data Cause : Type 0 where
  Packet : (token frame : List ℕ) (now : ℕ) → Cause
  Return : (hold now : ℕ) (given : PeerAnswer) → Cause
  Moment : (now : ℕ) → Cause
  Order : (now : ℕ) (command : Command) → Cause

-- the record of what arrived, if it was a packet
abbrev pub packet_made : State → List ℕ → Result Prepare Malformed → ℕ → Option Record
packet_made s token (Ok p) now = decide_made s token (key_in p) now
packet_made s token (Err wrong) now = None

-- the record that a cause makes in a book of that state, if it makes one
abbrev pub made_from : State → Cause → Option Record
made_from s (Cause.Packet token frame now) = packet_made s token (arrival token frame) now
made_from s (Cause.Return hold now given) = answer_made s hold now (answer_key (heard given))
made_from s (Cause.Moment now) = tick_made s now
made_from s (Cause.Order now command) = command_made s command now

-- the state after it
abbrev pub left_from : State → Cause → State
left_from s (Cause.Order now command) = commanded s command now
left_from s cause = recorded s (made_from s cause)

-- a frame that came is made of bytes
abbrev pub BringsBytes : Cause → Type 0
BringsBytes (Cause.Packet token frame now) = AreBytes frame
BringsBytes cause = Unit {0}

-- a cause makes that record in a book of that state
abbrev pub HasCause : State → Record → Type 0
HasCause s r = (cause : Cause) × BringsBytes cause × (made_from s cause ≡ Some r)

-- ---- records of many tenants

-- a record, and the tenant whose book has it
pub record Entered : Type 0 where
  pub tenant : ℕ
  pub made : Record

-- that record, if there is one
abbrev pub entered : ℕ → Option Record → List Entered
entered tenant None = []
entered tenant (Some r) = record { tenant = tenant; made = r } ∷ []

-- the records are made one after another, each by a cause in its tenant's book as those before it left it; and leave those books
abbrev pub AreCaused : (books : ℕ → State) → List Entered → (left : ℕ → State) → Type 0
AreCaused books [] left = (t : ℕ) → books t ≡ left t
AreCaused books (e ∷ es) left =
    (cause : Cause) × BringsBytes cause × (made_from (books e.tenant) cause ≡ Some e.made)
    × AreCaused (put books e.tenant (left_from (books e.tenant) cause)) es left

-- ---- records of steps

-- the record that an event makes in the book of the one-tenant connector
abbrev pub made_alone : Tenant → Event → Option Record
made_alone s e = (effect_of s e).made

-- the record that a step makes, by its owner
abbrev pub made_in : World → Owner → List Entered
made_in w (Owner.Own t event) = entered t (made_alone (w.tenants t) event)
made_in w (Owner.Nobody output) = []

-- the records that steps make, one after another
abbrev pub all_made : World → List Step → List Entered
all_made w [] = []
all_made w (s ∷ ss) = made_in w (owner w.hands s) ++ all_made (world_after w s) ss

-- ---- from openings on

-- the book of an opening, if there is one
abbrev pub book_opened : Option Opening → State
book_opened None = no_book
book_opened (Some o) = opened o

-- the world of tenants with these openings: nothing has happened to any of them, and the workers have nothing in hand
abbrev pub world_opened : List Opening → World
world_opened openings = record { tenants = λ t. new_tenant (book_opened (slice_get openings t)); hands = all_free }

-- each opening is at its tenant's number
abbrev pub ArePlaced : List Opening → Type 0
ArePlaced openings =
    (t : ℕ) → t < length openings → (book_opened (slice_get openings t)).opening.tenant ≡ t

-- Steps of workers, run from the openings on, make just these records in this order and leave those books. Each step
-- is of a worker and a tenant of the run, and each frame is made of bytes. Every tenant sees and keeps what the
-- one-tenant connector makes of the tenant's own steps alone. Each frame that goes on is the one that its worker took
-- in last, with another amount and another expiry.
pub record AreRun (openings : List Opening) (entries : List Entered) (left : ℕ → State) : Type 0 where
  pub workers : ℕ
  pub steps : List Step
  pub fit : All (FitsIn workers (length openings)) steps
  pub bytes : All HasBytes steps
  pub made : all_made (world_opened openings) steps ≡ entries
  pub outputs : List Output
  pub last : World
  pub alone : AreOutputs (world_opened openings) steps outputs
  pub ends : IsLeft (world_opened openings) steps outputs last
  pub books : (t : ℕ) → (last.tenants t).book ≡ left t
  pub forwards : AreForwards no_frames steps outputs
