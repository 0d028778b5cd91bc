-- The world that a floor shows: every tenant's calls are those that the workers' slots carry.
use Rattle.std.specs.Prelude.{ℕ, Bool, false, ◌≡◌, ◌+◌, ◌<◌, ◌≤◌, ◌^◌, List, [], ◌∷◌, length, slice_index, slice_index_or}
use Rattle.std.specs.Prelude.{true, ◌==◌, ◌&&◌, if◌then◌else◌, Option, Some, None, Result, Ok, Err}
use Rattle.ilp_view.specs.declared.fault.ViewFault.{ViewFault}
use Rattle.ilp_view.specs.Packet.{Prepare}
use Rattle.ilp_view.specs.Reading.{prepare_at}
use Rattle.tenant_core.specs.OpenHolds.{is_awaited}
use Rattle.tenant_core.specs.State.{State}
use Rattle.tenant_core.specs.declared.terms.TenantTerms.{TenantTerms}
use Rattle.floor_core.specs.Kept.{CallsMatchHolds}
use Rattle.floor_core.specs.Work.{Job, carrying, IsReadable, IsJobOfBytes}
use Rattle.floor_core.specs.World.{Stage, Tenant, Hand, World, FitsIn, no_book, world_at_start}
use Rattle.floor_core.specs.declared.floor.Seat.{Seat}
use Rattle.floor_core.specs.declared.floor.TheConstants.{MAX_SEATS}
use Rattle.floor_core.specs.declared.step.Step.{Step}
use Rattle.floor_core.specs.declared.step.Step.TheVariants.{Govern}

-- what a floor is made of: every worker's slot with the number of its call, every tenant's book, and the number of its
-- next call
pub record FloorState : Type 0 where
  pub seats : List Seat
  pub books : List State
  pub next_calls : List ℕ

-- the most workers
abbrev pub max_seats : ℕ
max_seats = MAX_SEATS

-- ---- seats and books by their numbers

-- the seat of a worker that is not there
abbrev pub no_seat : Seat
no_seat = record { slot = carrying Job.NoJob []; call = 0 }

-- the seat of worker w among these
abbrev pub seat_in : List Seat → ℕ → Seat
seat_in seats w = slice_index_or seats w no_seat

-- the seat of worker w
abbrev pub seat_at : FloorState → ℕ → Seat
seat_at f w = seat_in f.seats w

-- the book of tenant t
abbrev pub book_at : FloorState → ℕ → State
book_at f t = slice_index_or f.books t no_book

-- ---- the calls that are carried

-- a frame that reads is a call that may be decided
abbrev pub stage_of_frame : List ℕ → Result Prepare ViewFault → Option Stage
stage_of_frame token (Ok p) = Some (Stage.Ready token p)
stage_of_frame token (Err f) = None

-- the stage of a slot's call
abbrev pub stage_in : Job → Option Stage
stage_in Job.NoJob = None
stage_in (Job.Carries tenant token frame) = stage_of_frame token (prepare_at frame)
stage_in (Job.Waits tenant hold frame) = Some (Stage.Sent hold)

-- the tenant and the number of the call that a slot carries
abbrev pub carried_by : Job → ℕ → Option (ℕ × ℕ)
carried_by Job.NoJob call = None
carried_by (Job.Carries tenant token frame) call = Some (tenant, call)
carried_by (Job.Waits tenant hold frame) call = Some (tenant, call)

-- the same of a seat
abbrev pub call_carried : Seat → Option (ℕ × ℕ)
call_carried s = carried_by s.slot.job s.call

-- the same of a worker
abbrev pub carried_at : List Seat → ℕ → Option (ℕ × ℕ)
carried_at seats w = call_carried (slice_index_or seats w no_seat)

-- that is the call of this number of tenant t
abbrev pub is_call : ℕ → ℕ → Option (ℕ × ℕ) → Bool
is_call t call None = false
is_call t call (Some c) = (c.0 == t) && (c.1 == call)

-- the calls of tenant t that have not ended, by number, each at the stage of the seat that carries it
abbrev pub calls_of : ℕ → List Seat → ℕ → Option Stage
calls_of t [] call = None
calls_of t (s ∷ ss) call = if is_call t call (call_carried s) then stage_in s.slot.job else calls_of t ss call

-- what a worker has in hand
abbrev pub hand_by : Job → ℕ → Hand
hand_by Job.NoJob call = Hand.Free
hand_by (Job.Carries tenant token frame) call = Hand.Has tenant call
hand_by (Job.Waits tenant hold frame) call = Hand.Awaits tenant call

-- what the workers have in hand
abbrev pub hands_of : List Seat → ℕ → Hand
hands_of seats w = hand_by (slice_index_or seats w no_seat).slot.job (slice_index_or seats w no_seat).call

-- ---- the world

-- a tenant: its book, the number of its next call, and its calls
abbrev pub tenant_of : FloorState → ℕ → Tenant
tenant_of f t = record { book = book_at f t; next_call = slice_index f.next_calls t; calls = calls_of t f.seats }

-- all tenants, and the workers' hands
abbrev pub world_of : FloorState → World
world_of f = record { tenants = tenant_of f; hands = hands_of f.seats }

-- the step names a worker and a tenant that are there
abbrev pub Fits : FloorState → Step → Type 0
Fits f step = FitsIn (length f.seats) (length f.books) step

-- the step is a command
abbrev pub IsCommand : Step → Type 0
IsCommand (Govern tenant now command) = Unit {0}
IsCommand step = ⊥

-- each tenant has numbers left for the calls of so many steps
abbrev pub HasRoom : FloorState → ℕ → Type 0
HasRoom f steps = (t : ℕ) → t < length f.books → slice_index f.next_calls t + steps ≤ 2 ^ 63

-- a floor of these tenants and so many workers on which nothing has happened: nobody has a reply yet
pub record IsNewFloor (setups : List TenantTerms) (start workers : ℕ) (f : FloorState) : Type 0 where
  pub workers_are : length f.seats ≡ workers
  pub tenants_are : length f.books ≡ length setups
  pub world : world_of f ≡ world_at_start setups start
  pub silent : (w : ℕ) → (seat_at f w).slot.reply ≡ []

-- ---- what holds of every floor

-- its parts fit each other
pub record IsSoundFloor (f : FloorState) : Type 0 where
  pub as_many : length f.next_calls ≡ length f.books
  -- each book is at its tenant's number
  pub placed : (t : ℕ) → t < length f.books → (book_at f t).opening.tenant ≡ t
  -- no two workers carry one call
  pub apart : (v w : ℕ) (c : ℕ × ℕ) → carried_at f.seats v ≡ Some c → carried_at f.seats w ≡ Some c → v ≡ w
  -- a call that is carried was loaded, of a tenant that is there
  pub below : (w : ℕ) (c : ℕ × ℕ) → carried_at f.seats w ≡ Some c
      → (c.0 < length f.books) × (c.1 < slice_index f.next_calls c.0)
  -- its frame reads
  pub readable : (w : ℕ) → IsReadable (seat_at f w).slot.job
  -- and is made of bytes
  pub octets : (w : ℕ) → IsJobOfBytes (seat_at f w).slot.job

-- and so is each tenant
pub record IsWhole (f : FloorState) : Type 0 where
  pub sound : IsSoundFloor f
  pub tenants : (t : ℕ) → CallsMatchHolds (tenant_of f t)

-- the tenant of a slot's call is there, and if the slot waits, the tenant's book awaits the answer
abbrev pub IsMet : Job → List State → Type 0
IsMet Job.NoJob books = Unit {0}
IsMet (Job.Carries t token frame) books =
    (t < length books) × ((slice_index_or books t no_book).opening.tenant ≡ t)
IsMet (Job.Waits t hold frame) books =
    (t < length books) × ((slice_index_or books t no_book).opening.tenant ≡ t)
    × (is_awaited (slice_index_or books t no_book) hold ≡ true)
