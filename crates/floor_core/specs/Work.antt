-- What a slot carries, and what its calls do to it and to a tenant's book.
use Rattle.std.specs.Prelude.{ℕ, ◌≡◌, ◌≤◌, true, List, [], length, take, Option, Some, None, option_map, IsSome}
use Rattle.std.specs.Prelude.{Result, Ok, Err, is_ok, nat_lt, ◌==◌, if◌then◌else◌}
use Rattle.common_types.specs.Token.{is_token}
use Rattle.ilp_addr.specs.Target.{Parts as TargetParts}
use Rattle.ilp_addr.specs.Timestamp.{timestamp_of}
use Rattle.ilp_view.specs.Packet.{Prepare, max_frame, with_amount_and_expiry}
use Rattle.ilp_view.specs.Reading.{prepare_at}
use Rattle.ilp_view.specs.declared.fault.ViewFault.{ViewFault}
use Rattle.oer_core.specs.Length.{AreBytes}
use Rattle.oer_core.specs.Writing.{overwritten}
use Rattle.tenant_core.specs.Answer.{answer_to, answer_made}
use Rattle.tenant_core.specs.Judge.{judge, decide_made}
use Rattle.tenant_core.specs.Network.{peer_numbered}
use Rattle.tenant_core.specs.Present.{network_of}
use Rattle.tenant_core.specs.State.{State}
use Rattle.tenant_core.specs.declared.faults.HoldFault.{HoldFault}
use Rattle.tenant_core.specs.declared.journal.Record.{Record}
use Rattle.tenant_core.specs.declared.verdict.Verdict.{Verdict}
use Rattle.tenant_core.specs.declared.verdict.Verdict.TheVariants.{Unknown, Forward}
use Rattle.floor_core.specs.Replies.{decision_reply}
use Rattle.floor_core.specs.World.{key_in, answer_key, bytes_given, settled_reply}
use Rattle.floor_core.specs.declared.parts.Got.{Got}
use Rattle.floor_core.specs.declared.parts.Got.TheVariants as got
use Rattle.floor_core.specs.declared.parts.LoadFault.{LoadFault}
use Rattle.floor_core.specs.declared.parts.LoadFault.TheVariants as load
use Rattle.floor_core.specs.declared.parts.Turn.{Turn}
use Rattle.floor_core.specs.declared.parts.Turn.TheVariants.{Idle, Stray, Stranger, Reply, Send}
use Rattle.floor_core.specs.declared.step.PeerAnswer.{PeerAnswer}
use Rattle.floor_core.specs.declared.step.PeerAnswer.TheVariants as given

-- ---- what is carried

-- a call: none; a frame that came with a token for a tenant, and is a Prepare; or the frame that was sent on, and the
-- hold under which the tenant awaits its answer
pub data Job : Type 0 where
  NoJob : Job
  Carries : (tenant : ℕ) (token frame : List ℕ) → Job
  Waits : (tenant hold : ℕ) (frame : List ℕ) → Job

-- a slot: its call, the target and the expiry of the frame that was sent on, the reply to the sender once the call has
-- ended, and the buffer that answers come into
pub record Work : Type 0 where
  pub job : Job
  pub target : Option TargetParts
  pub expiry : Option ℕ
  pub reply : List ℕ
  pub room : List ℕ

-- the frame of a call
abbrev pub job_frame : Job → List ℕ
job_frame Job.NoJob = []
job_frame (Job.Carries tenant token frame) = frame
job_frame (Job.Waits tenant hold frame) = frame

-- the tenant of a call
abbrev pub tenant_in : Job → Option ℕ
tenant_in Job.NoJob = None
tenant_in (Job.Carries tenant token frame) = Some tenant
tenant_in (Job.Waits tenant hold frame) = Some tenant

-- the tenant whose answer a call awaits
abbrev pub waiting_in : Job → Option ℕ
waiting_in (Job.Waits tenant hold frame) = Some tenant
waiting_in _ = None

-- a slot with that call, no target and no reply
abbrev pub carrying : Job → List ℕ → Work
carrying job room = record { job = job; target = None; expiry = None; reply = []; room = room }

-- a slot with no call and this reply, at the front of the buffer
abbrev pub telling : List ℕ → List ℕ → Work
telling reply room = record { job = Job.NoJob; target = None; expiry = None; reply = reply; room = overwritten room 0 reply }

-- ---- a load

-- the answer to reading a frame
abbrev pub frame_result : Result Prepare ViewFault → Result (Unit {0}) LoadFault
frame_result (Ok p) = Ok tt
frame_result (Err fault) = Err (load.Bad fault)

-- the answer to a load: the first fault of the slot, the token and the frame
abbrev pub load_result : Job → (token bytes : List ℕ) → Result (Unit {0}) LoadFault
load_result Job.NoJob token bytes = if is_token token then frame_result (prepare_at bytes) else Err load.Token
load_result _ token bytes = Err load.Busy

-- the slot after a load with that answer
abbrev pub loaded_as : Work → ℕ → List ℕ → List ℕ → Result (Unit {0}) LoadFault → Work
loaded_as w tenant token bytes (Ok done) = carrying (Job.Carries tenant token bytes) w.room
loaded_as w tenant token bytes (Err fault) = w

-- the slot after a load
abbrev pub loaded : Work → (tenant : ℕ) → (token bytes : List ℕ) → Work
loaded w tenant token bytes = loaded_as w tenant token bytes (load_result w.job token bytes)

-- ---- the results of calls

-- the result of a call of a slot with a tenant's book: its turn, the slot after it, and the record that it makes in
-- the book, if any; nothing else of the book changes
pub record Called : Type 0 where
  pub turn : Turn
  pub work : Work
  pub made : Option Record

-- only that answer, and nothing else
abbrev pub only : Turn → Work → Called
only turn w = record { turn = turn; work = w; made = None }

-- the sender gets this reply, and the call has ended
abbrev pub replied : List ℕ → List ℕ → Option Record → Called
replied reply room made = record { turn = Reply; work = telling reply room; made = made }

-- the result if the book is that of the call's tenant, otherwise `Stray`
abbrev pub if_own : ℕ → State → Work → Called → Called
if_own tenant s w called = if s.opening.tenant == tenant then called else only Stray w

-- ---- a decide

-- the target of the peer of that number
abbrev pub target_of : State → ℕ → Option TargetParts
target_of s peer = option_map (λ p. p.terms.target) (peer_numbered peer (network_of s).peers)

-- a slot whose packet goes on to that peer, with that amount and that expiry, and awaits its answer under that hold
abbrev pub sent_on : State → ℕ → Prepare → (hold peer amount expiry : ℕ) → List ℕ → Work
sent_on s tenant p hold peer amount expiry room =
    record {
      job = Job.Waits tenant hold (with_amount_and_expiry p amount (timestamp_of expiry));
      target = target_of s peer;
      expiry = Some expiry;
      reply = [];
      room = room;
    }

-- the result of a verdict on a packet, which makes that record
abbrev pub verdict_call : State → ℕ → List ℕ → Prepare → List ℕ → Option Record → Verdict → Called
verdict_call s tenant token p room made Unknown =
    record { turn = Stranger; work = carrying Job.NoJob room; made = made }
verdict_call s tenant token p room made (Forward hold peer amount expiry) =
    record { turn = Send peer hold; work = sent_on s tenant p hold peer amount expiry room; made = made }
verdict_call s tenant token p room made v = replied (decision_reply s token v) room made

-- the result of a decide of a packet
abbrev pub packet_call : State → ℕ → List ℕ → Prepare → List ℕ → ℕ → Called
packet_call s tenant token p room now =
    verdict_call s tenant token p room (decide_made s token (key_in p) now) (judge s token (key_in p) now)

-- the result of a decide of a frame
abbrev pub frame_call : Work → State → ℕ → List ℕ → Result Prepare ViewFault → ℕ → Called
frame_call w s tenant token (Ok p) now = packet_call s tenant token p w.room now
frame_call w s tenant token (Err fault) now = only Idle w

-- the result of a decide of a slot with that call
abbrev pub job_decided : Job → Work → State → ℕ → Called
job_decided (Job.Carries tenant token frame) w s now =
    if_own tenant s w (frame_call w s tenant token (prepare_at frame) now)
job_decided _ w s now = only Idle w

-- the result of a decide
abbrev pub decide_call : Work → State → ℕ → Called
decide_call w s now = job_decided w.job w s now

-- ---- an answer

-- an answer is awaited
abbrev pub IsWaiting : Job → Type 0
IsWaiting (Job.Waits tenant hold frame) = Unit {0}
IsWaiting _ = ⊥

-- the bytes as an answer: a fault if there are too many of them
abbrev pub filled_as : List ℕ → Got
filled_as bytes = if nat_lt max_frame (length bytes) then got.Fault else got.Filled (length bytes)

-- the buffer with them at its front, if there is room for them
abbrev pub filled_room : List ℕ → List ℕ → List ℕ
filled_room room bytes = if nat_lt max_frame (length bytes) then room else overwritten room 0 bytes

-- the answer of the next peer: so many bytes at the front of the buffer, no more than a frame may have, or nothing
abbrev pub given_by : (room : List ℕ) → Got → PeerAnswer
given_by room (got.Filled n) = if nat_lt max_frame n then given.Fault else given.Bytes (take n room)
given_by room got.Fault = given.Fault

-- the result of an answer to a hold, which makes that record
abbrev pub settled_call : Work → State → PeerAnswer → Option Record → Result Verdict HoldFault → Called
settled_call w s given made (Ok v) = replied (settled_reply s.opening.address (bytes_given given) v) w.room made
settled_call w s given made (Err fault) = only Stray w

-- the result of an answer to a slot with that call
abbrev pub job_answered : Job → Work → State → ℕ → PeerAnswer → Called
job_answered (Job.Waits tenant hold frame) w s now given =
    if_own tenant s w
    (settled_call w s given (answer_made s hold now (answer_key given)) (answer_to s hold now (answer_key given)))
job_answered _ w s now given = only Idle w

-- the result of an answer
abbrev pub answer_call : Work → State → ℕ → Got → Called
answer_call w s now got = job_answered w.job w s now (given_by w.room got)

-- ---- what a slot keeps

-- a frame that came is a Prepare
abbrev pub IsReadable : Job → Type 0
IsReadable (Job.Carries tenant token frame) = is_ok (prepare_at frame) ≡ true
IsReadable _ = Unit {0}

-- and is made of bytes
abbrev pub IsJobOfBytes : Job → Type 0
IsJobOfBytes (Job.Carries tenant token frame) = AreBytes frame
IsJobOfBytes _ = Unit {0}

-- a frame that was sent on has that
abbrev pub WaitsWith : {A : Type 0} → Job → Option A → Type 0
WaitsWith (Job.Waits tenant hold frame) what = IsSome what
WaitsWith _ what = Unit {0}

-- and came with a token
abbrev pub CameWithToken : Job → Type 0
CameWithToken (Job.Carries tenant token frame) = is_token token ≡ true
CameWithToken _ = Unit {0}

-- what holds of every slot
pub record IsWork (w : Work) : Type 0 where
  pub readable : IsReadable w.job
  pub octets : IsJobOfBytes w.job
  pub named : CameWithToken w.job
  pub somewhere : WaitsWith w.job w.target
  pub until : WaitsWith w.job w.expiry
  pub frame : length (job_frame w.job) ≤ max_frame
  pub reply : length w.reply ≤ max_frame
  pub room : length w.room ≡ max_frame
