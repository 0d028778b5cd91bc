-- The output of each step, and what it does to the parts of a floor.
use Rattle.std.specs.Prelude.{ℕ, ◌+◌, List, slice_index, slice_set, Option, Some, None, Result, Ok, Err}
use Rattle.tenant_core.specs.Answer.{tick_result, ticked}
use Rattle.tenant_core.specs.Governed.{command_answer, commanded}
use Rattle.tenant_core.specs.Network.{peer_numbered}
use Rattle.tenant_core.specs.Present.{network_of}
use Rattle.tenant_core.specs.Sound.{IsSound}
use Rattle.tenant_core.specs.State.{State, recorded}
use Rattle.floor_core.specs.FloorView.{FloorState, seat_at, book_at}
use Rattle.floor_core.specs.Work.{Work, Called, job_frame, tenant_in, load_result, loaded, decide_call}
use Rattle.floor_core.specs.Work.{waiting_in, filled_as, filled_room, answer_call}
use Rattle.floor_core.specs.World.{malformed_by, peer_name}
use Rattle.floor_core.specs.declared.floor.Seat.{Seat}
use Rattle.floor_core.specs.declared.parts.Got.{Got}
use Rattle.floor_core.specs.declared.parts.Got.TheVariants as got
use Rattle.floor_core.specs.declared.parts.LoadFault.{LoadFault}
use Rattle.floor_core.specs.declared.parts.LoadFault.TheVariants as load
use Rattle.floor_core.specs.declared.parts.Turn.{Turn}
use Rattle.floor_core.specs.declared.parts.Turn.TheVariants as turn
use Rattle.floor_core.specs.declared.step.PeerAnswer.{PeerAnswer}
use Rattle.floor_core.specs.declared.step.PeerAnswer.TheVariants as given
use Rattle.floor_core.specs.declared.step.Malformed.TheVariants as malformed
use Rattle.floor_core.specs.declared.step.Output.{Output}
use Rattle.floor_core.specs.declared.step.Output.TheVariants.{Busy, Idle, Loaded, Bad, Stranger, Reply, Send, Ticked}
use Rattle.floor_core.specs.declared.step.Output.TheVariants.{Governed}
use Rattle.floor_core.specs.declared.step.Step.{Step}
use Rattle.floor_core.specs.declared.step.Step.TheVariants.{Load, Decide, Answer, Tick, Govern}

-- a floor of these parts
abbrev pub floor_with : List Seat → List State → List ℕ → FloorState
floor_with seats books next_calls = record { seats = seats; books = books; next_calls = next_calls }

-- ---- a load

-- the output of a slot's answer to a load
abbrev pub load_output : ℕ → ℕ → Result (Unit {0}) LoadFault → Output
load_output t call (Ok done) = Loaded t call
load_output t call (Err load.Busy) = Busy
load_output t call (Err load.Token) = Bad t malformed.Token
load_output t call (Err (load.Bad fault)) = Bad t (malformed_by fault)

-- what depends on whether a load was good
abbrev pub if_good : {A : Type 0} → Result (Unit {0}) LoadFault → A → A → A
if_good (Ok done) new old = new
if_good (Err fault) new old = old

-- the seat after a load: a good one takes the tenant's next number
abbrev pub load_seat : FloorState → ℕ → ℕ → List ℕ → List ℕ → Seat
load_seat f w t token bytes =
    record {
      slot = loaded (seat_at f w).slot t token bytes;
      call = if_good (load_result (seat_at f w).slot.job token bytes) (slice_index f.next_calls t) (seat_at f w).call;
    }

-- ---- a decide, and an answer

-- the output of a slot's turn, by the tenant's book before it and the slot after it
abbrev pub turn_output : ℕ → State → Work → Turn → Output
turn_output t book work turn.Idle = Idle
turn_output t book work turn.Stray = Idle
turn_output t book work turn.Stranger = Stranger t
turn_output t book work turn.Reply = Reply t work.reply
turn_output t book work (turn.Send peer hold) =
    Send t (peer_name (peer_numbered peer (network_of book).peers)) hold (job_frame work.job)

-- the slot and the book of one step are changed
abbrev pub put_both : FloorState → ℕ → ℕ → Work → State → FloorState
put_both f w t work book =
    record {
      seats = slice_set f.seats w (record { slot = work; call = (seat_at f w).call });
      books = slice_set f.books t book;
      next_calls = f.next_calls;
    }

-- the output of a call of the worker's slot with a tenant's book, if there is a tenant
abbrev pub call_output : FloorState → Option ℕ → (State → Called) → Output
call_output f None call = Idle
call_output f (Some t) call =
    turn_output t (book_at f t) (call (book_at f t)).work (call (book_at f t)).turn

-- the parts after it
abbrev pub call_moved : FloorState → ℕ → Option ℕ → (State → Called) → FloorState
call_moved f w None call = f
call_moved f w (Some t) call =
    put_both f w t (call (book_at f t)).work (recorded (book_at f t) (call (book_at f t)).made)

-- what came back, as a slot takes it
abbrev pub given_got : PeerAnswer → Got
given_got (given.Bytes bytes) = filled_as bytes
given_got given.Fault = got.Fault

-- the slot that took it
abbrev pub slot_filled : Work → PeerAnswer → Work
slot_filled w (given.Bytes bytes) = record w { room = filled_room w.room bytes }
slot_filled w given.Fault = w

-- a decide by the worker's slot
abbrev pub decide_by : FloorState → ℕ → ℕ → State → Called
decide_by f w now book = decide_call (seat_at f w).slot book now

-- an answer to it
abbrev pub answer_by : FloorState → ℕ → ℕ → PeerAnswer → State → Called
answer_by f w now given book = answer_call (slot_filled (seat_at f w).slot given) book now (given_got given)

-- ---- every step

-- the output of a step
abbrev pub output_of : FloorState → Step → Output
output_of f (Load w t token bytes) =
    load_output t (slice_index f.next_calls t) (load_result (seat_at f w).slot.job token bytes)
output_of f (Decide w now) = call_output f (tenant_in (seat_at f w).slot.job) (decide_by f w now)
output_of f (Answer w now given) = call_output f (waiting_in (seat_at f w).slot.job) (answer_by f w now given)
output_of f (Tick t now) = Ticked t (tick_result (book_at f t) now)
output_of f (Govern t now command) = Governed t (command_answer (book_at f t) command now)

-- the parts after a step
abbrev pub moved : FloorState → Step → FloorState
moved f (Load w t token bytes) =
    record {
      seats = slice_set f.seats w (load_seat f w t token bytes);
      books = f.books;
      next_calls =
          if_good (load_result (seat_at f w).slot.job token bytes)
          (slice_set f.next_calls t (slice_index f.next_calls t + 1)) f.next_calls;
    }
moved f (Decide w now) = call_moved f w (tenant_in (seat_at f w).slot.job) (decide_by f w now)
moved f (Answer w now given) = call_moved f w (waiting_in (seat_at f w).slot.job) (answer_by f w now given)
moved f (Tick t now) = record f { books = slice_set f.books t (ticked (book_at f t) now) }
moved f (Govern t now command) = record f { books = slice_set f.books t (commanded (book_at f t) command now) }

-- the book that a decide asks is a state within its limits
abbrev pub IsAskedBookSound : FloorState → Option ℕ → Type 0
IsAskedBookSound f None = Unit {0}
IsAskedBookSound f (Some t) = IsSound (book_at f t)

-- and so of the step
abbrev pub AsksSound : FloorState → Step → Type 0
AsksSound f (Decide w now) = IsAskedBookSound f (tenant_in (seat_at f w).slot.job)
AsksSound f _ = Unit {0}
