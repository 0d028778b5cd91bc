-- The one-tenant connector, and whose step each step of a list is.
use Rattle.std.specs.Prelude.{ℕ, ◌≡◌, ◌+◌, ◌<◌, List, [], ◌∷◌, length, Option, Some, None, Result, Ok, Err, ◌==◌}
use Rattle.std.specs.Prelude.{if◌then◌else◌, nat_lt}
use Rattle.std.specs.List.{slice_get}
use Rattle.common_types.specs.Token.{is_token}
use Rattle.ilp_addr.specs.Timestamp.{moment_of, timestamp_of}
use Rattle.ilp_view.specs.declared.fault.ViewFault.{ViewFault}
use Rattle.ilp_view.specs.declared.fault.ViewFault.TheVariants as fault
use Rattle.ilp_view.specs.Packet.{Prepare, Fulfill, Reject, max_frame, with_amount_and_expiry}
use Rattle.ilp_view.specs.Reading.{prepare_at, fulfill_at, reject_at}
use Rattle.tenant_core.specs.Answer.{answer_to, answer_made, tick_made, tick_result, ticked}
use Rattle.tenant_core.specs.Governed.{command_answer, command_made, commanded}
use Rattle.tenant_core.specs.Judge.{judge, decide_made}
use Rattle.tenant_core.specs.Key.{Key}
use Rattle.tenant_core.specs.Network.{nobody, peer_numbered}
use Rattle.tenant_core.specs.Present.{network_of}
use Rattle.tenant_core.specs.State.{State, opened, opening_of, recorded}
use Rattle.tenant_core.specs.declared.command.Command.{Command}
use Rattle.tenant_core.specs.declared.faults.HoldFault.{HoldFault}
use Rattle.tenant_core.specs.declared.journal.AnswerKey.{AnswerKey}
use Rattle.tenant_core.specs.declared.journal.AnswerKey.TheVariants as key
use Rattle.tenant_core.specs.declared.journal.Record.{Record}
use Rattle.tenant_core.specs.declared.peer.Peer.{Peer}
use Rattle.tenant_core.specs.declared.terms.TenantTerms.{TenantTerms}
use Rattle.tenant_core.specs.declared.verdict.Verdict.{Verdict}
use Rattle.tenant_core.specs.declared.verdict.Verdict.TheVariants.{Unknown, Refuse, Forward, Relay}
use Rattle.floor_core.specs.Replies.{decision_reply, refusal_reply}
use Rattle.floor_core.specs.declared.step.Malformed.{Malformed}
use Rattle.floor_core.specs.declared.step.Malformed.TheVariants as malformed
use Rattle.floor_core.specs.declared.step.PeerAnswer.{PeerAnswer}
use Rattle.floor_core.specs.declared.step.PeerAnswer.TheVariants.{Bytes, Fault}
use Rattle.floor_core.specs.declared.step.Step.{Step}
use Rattle.floor_core.specs.declared.step.Step.TheVariants.{Load, Decide, Answer, Tick, Govern}
use Rattle.floor_core.specs.declared.step.Output.{Output}
use Rattle.floor_core.specs.declared.step.Output.TheVariants.{Busy, Idle, Loaded, Bad, Stranger, Reply, Send, Ticked}
use Rattle.floor_core.specs.declared.step.Output.TheVariants.{Governed}

-- the stage of a call that has not ended: its packet may be decided, or was sent on and awaits its answer
pub data Stage : Type 0 where
  Ready : (token : List ℕ) (packet : Prepare) → Stage
  Sent : (hold : ℕ) → Stage

-- a tenant: its book, the number of its next call, and its calls that have not ended, by number
pub record Tenant : Type 0 where
  pub book : State
  pub next_call : ℕ
  pub calls : ℕ → Option Stage

-- what happens to one tenant: bytes arrive with a token, a call is decided, an answer settles a call that was sent on,
-- a moment comes, and an operator commands
pub data Event : Type 0 where
  Arrives : (token bytes : List ℕ) → Event
  Decides : (call now : ℕ) → Event
  Answers : (call now : ℕ) (given : PeerAnswer) → Event
  Ticks : (now : ℕ) → Event
  Governs : (now : ℕ) (command : Command) → Event

-- the function f with v at k
abbrev pub put : {A : Type 0} → (ℕ → A) → ℕ → A → ℕ → A
put f k v = λ n. if n == k then v else f n

-- a tenant with that book, to whom nothing has happened yet
abbrev pub new_tenant : State → Tenant
new_tenant book = record { book = book; next_call = 0; calls = λ n. None }

-- the tenant's number
abbrev pub number_of : Tenant → ℕ
number_of s = s.book.opening.tenant

-- what is wrong with the bytes of a frame
abbrev pub malformed_by : ViewFault → Malformed
malformed_by fault.Kind = malformed.Kind
malformed_by fault.Oer = malformed.Oer
malformed_by fault.Field = malformed.Field
malformed_by fault.AfterEnd = malformed.AfterEnd
malformed_by fault.Size = malformed.Size
malformed_by fault.Short = malformed.Size

-- the packet that a frame is, or what is wrong with it
abbrev pub packet_or_fault : Result Prepare ViewFault → Result Prepare Malformed
packet_or_fault (Ok p) = Ok p
packet_or_fault (Err f) = Err (malformed_by f)

-- what arrives with a token: a packet, or the first fault of the token or the frame
abbrev pub arrival : List ℕ → List ℕ → Result Prepare Malformed
arrival token bytes = if is_token token then packet_or_fault (prepare_at bytes) else Err malformed.Token

-- the parts of a packet that the tenant decides by
abbrev pub key_in : Prepare → Key
key_in p =
    record {
      amount = p.amount;
      expiry = moment_of p.expiry;
      condition = p.condition;
      destination = p.destination;
    }

-- the name of a peer
abbrev pub peer_name : Option Peer → List ℕ
peer_name None = []
peer_name (Some p) = p.terms.name

-- the answer of the next peer, if it is one of the protocol: a Fulfill, or else a Reject (RFC 0027)
abbrev pub key_read : Result Fulfill ViewFault → Result Reject ViewFault → AnswerKey
key_read (Ok p) other = key.Fulfilled p.fulfillment
key_read (Err f) (Ok p) = key.Rejected
key_read (Err f) (Err g) = key.Fault

-- what the tenant settles a packet by: bytes that are neither a Fulfill nor a Reject are a fault
abbrev pub answer_key : PeerAnswer → AnswerKey
answer_key (Bytes bytes) = key_read (fulfill_at bytes) (reject_at bytes)
answer_key Fault = key.Fault

-- the bytes that came back
abbrev pub bytes_given : PeerAnswer → List ℕ
bytes_given (Bytes bytes) = bytes
bytes_given Fault = []

-- what came back, if it is short enough for an answer
abbrev pub heard : PeerAnswer → PeerAnswer
heard (Bytes bytes) = if nat_lt max_frame (length bytes) then Fault else Bytes bytes
heard Fault = Fault

-- the reply to the sender of a settled packet: the bytes that came back, or why it is refused
abbrev pub settled_reply : List ℕ → List ℕ → Verdict → List ℕ
settled_reply address bytes Relay = bytes
settled_reply address bytes (Refuse code amounts) = refusal_reply address code amounts
settled_reply address bytes _ = []

-- ---- the effects of events

-- the result of an event: its output, the tenant after it, and the record that it makes in the book, if any
pub record Effect : Type 0 where
  pub output : Output
  pub after : Tenant
  pub made : Option Record

-- nothing happens
abbrev pub no_effect : Tenant → Effect
no_effect s = record { output = Idle; after = s; made = None }

-- the output, with the book after it and the record, if one is made
abbrev pub on_book : Tenant → Output → State → Option Record → Effect
on_book s output book made = record { output = output; after = record s { book = book }; made = made }

-- an output about a call, with the call's next stage, or none once it has ended, and the record, if one is made
abbrev pub on_call : Tenant → (call : ℕ) → Option Stage → Output → Option Record → Effect
on_call s call stage output made =
    record {
      output = output;
      after = record { book = recorded s.book made; next_call = s.next_call; calls = put s.calls call stage };
      made = made;
    }

-- an arrival: a packet is the next call
abbrev pub arrived : Tenant → (token : List ℕ) → Result Prepare Malformed → Effect
arrived s token (Ok p) =
    record {
      output = Loaded (number_of s) s.next_call;
      after = record {
        book = s.book;
        next_call = s.next_call + 1;
        calls = put s.calls s.next_call (Some (Ready token p));
      };
      made = None;
    }
arrived s token (Err wrong) = record { output = Bad (number_of s) wrong; after = s; made = None }

-- a verdict on the packet of a call, which came with this token: the packet that goes on is the one that came, with another
-- amount and another expiry, and awaits its answer
abbrev pub call_judged : Tenant → (call : ℕ) → (token : List ℕ) → Prepare → Option Record → Verdict → Effect
call_judged s call token p made Unknown = on_call s call None (Stranger (number_of s)) made
call_judged s call token p made (Forward hold peer amount expiry) =
    on_call s call (Some (Sent hold))
    (Send (number_of s) (peer_name (peer_numbered peer (network_of s.book).peers)) hold
    (with_amount_and_expiry p amount (timestamp_of expiry))) made
call_judged s call token p made v = on_call s call None (Reply (number_of s) (decision_reply s.book token v)) made

-- the decide of a call at that stage
abbrev pub call_decided : Tenant → (call : ℕ) → Option Stage → (now : ℕ) → Effect
call_decided s call (Some (Ready token p)) now =
    call_judged s call token p (decide_made s.book token (key_in p) now) (judge s.book token (key_in p) now)
call_decided s call _ now = no_effect s

-- the answer to a hold, which settles its call; nothing if the hold awaits none
abbrev pub call_settled : Tenant → (call : ℕ) → PeerAnswer → Option Record → Result Verdict HoldFault → Effect
call_settled s call given made (Ok v) =
    on_call s call None (Reply (number_of s) (settled_reply s.book.opening.address (bytes_given given) v)) made
call_settled s call given made (Err f) = no_effect s

-- the answer to a call at that stage
abbrev pub call_answered : Tenant → (call : ℕ) → Option Stage → (now : ℕ) → PeerAnswer → Effect
call_answered s call (Some (Sent hold)) now given =
    call_settled s call given (answer_made s.book hold now (answer_key given))
    (answer_to s.book hold now (answer_key given))
call_answered s call _ now given = no_effect s

-- the one-tenant connector: the effect of an event
abbrev pub effect_of : Tenant → Event → Effect
effect_of s (Arrives token bytes) = arrived s token (arrival token bytes)
effect_of s (Decides call now) = call_decided s call (s.calls call) now
effect_of s (Answers call now given) = call_answered s call (s.calls call) now (heard given)
effect_of s (Ticks now) =
    on_book s (Ticked (number_of s) (tick_result s.book now)) (ticked s.book now) (tick_made s.book now)
effect_of s (Governs now command) =
    on_book s (Governed (number_of s) (command_answer s.book command now)) (commanded s.book command now)
    (command_made s.book command now)

-- its output for an event
abbrev pub reply_alone : Tenant → Event → Output
reply_alone s e = (effect_of s e).output

-- the tenant after an event
abbrev pub after_alone : Tenant → Event → Tenant
after_alone s e = (effect_of s e).after

-- the outputs of the one-tenant connector for events, one after the other
abbrev pub run_alone : Tenant → List Event → List Output
run_alone s [] = []
run_alone s (e ∷ es) = reply_alone s e ∷ run_alone (after_alone s e) es

-- the tenant after events
abbrev pub left_alone : Tenant → List Event → Tenant
left_alone s [] = s
left_alone s (e ∷ es) = left_alone (after_alone s e) es

-- what a worker has in hand: nothing, or a call of a tenant that is ready or that awaits its answer
pub data Hand : Type 0 where
  Free : Hand
  Has : (tenant call : ℕ) → Hand
  Awaits : (tenant call : ℕ) → Hand

-- whose a step is: a tenant's event, or nobody's, with its output
pub data Owner : Type 0 where
  Own : (tenant : ℕ) (event : Event) → Owner
  Nobody : (output : Output) → Owner

-- a load by a worker with nothing in hand is the tenant's
abbrev pub load_owner : Hand → ℕ → List ℕ → List ℕ → Owner
load_owner Free tenant token bytes = Own tenant (Arrives token bytes)
load_owner (Has t call) tenant token bytes = Nobody Busy
load_owner (Awaits t call) tenant token bytes = Nobody Busy

-- a decide is of the call in hand, if that is ready
abbrev pub decide_owner : Hand → ℕ → Owner
decide_owner Free now = Nobody Idle
decide_owner (Has t call) now = Own t (Decides call now)
decide_owner (Awaits t call) now = Nobody Idle

-- an answer is to the call in hand, if that awaits one
abbrev pub answer_owner : Hand → ℕ → PeerAnswer → Owner
answer_owner (Awaits t call) now given = Own t (Answers call now given)
answer_owner _ now given = Nobody Idle

-- the owner of a step, by what its worker has in hand; a tick and a command belong to the tenant that they name
abbrev pub owner : (ℕ → Hand) → Step → Owner
owner hands (Load worker tenant token bytes) = load_owner (hands worker) tenant token bytes
owner hands (Decide worker now) = decide_owner (hands worker) now
owner hands (Answer worker now given) = answer_owner (hands worker) now given
owner hands (Tick tenant now) = Own tenant (Ticks now)
owner hands (Govern tenant now command) = Own tenant (Governs now command)

-- a call that was sent awaits its answer
abbrev pub awaiting : Hand → Hand
awaiting Free = Free
awaiting (Has t call) = Awaits t call
awaiting (Awaits t call) = Awaits t call

-- what a worker has in hand after this output: a good load, until its call has ended
abbrev pub told : Hand → Output → Hand
told hand Busy = hand
told hand Idle = hand
told hand (Loaded t call) = Has t call
told hand (Bad t _) = hand
told hand (Stranger t) = Free
told hand (Reply t bytes) = Free
told hand (Send t peer hold frame) = awaiting hand
told hand (Ticked t answer) = hand
told hand (Governed t answer) = hand

-- the worker of a step, if it is one's
abbrev pub worker_of : Step → Option ℕ
worker_of (Load worker tenant token bytes) = Some worker
worker_of (Decide worker now) = Some worker
worker_of (Answer worker now given) = Some worker
worker_of (Tick tenant now) = None
worker_of (Govern tenant now command) = None

-- what the workers have in hand after one of them got this output
abbrev pub hands_told : (ℕ → Hand) → Option ℕ → Output → ℕ → Hand
hands_told hands (Some worker) output = put hands worker (told (hands worker) output)
hands_told hands None output = hands

-- what the workers have in hand after a step with that output
abbrev pub hands_after : (ℕ → Hand) → Step → Output → ℕ → Hand
hands_after hands step output = hands_told hands (worker_of step) output

-- the owner of each step, by the outputs of the steps before it
abbrev pub owners : (ℕ → Hand) → List Step → List Output → List Owner
owners hands [] outputs = []
owners hands (s ∷ ss) [] = []
owners hands (s ∷ ss) (x ∷ xs) = owner hands s ∷ owners (hands_after hands s x) ss xs

-- a tenant's own steps, as the events that happen to it
abbrev pub own_steps : ℕ → List Owner → List Event
own_steps t [] = []
own_steps t (Own u e ∷ os) = if u == t then e ∷ own_steps t os else own_steps t os
own_steps t (Nobody o ∷ os) = own_steps t os

-- what a tenant sees: the outputs at its own steps
abbrev pub seen_by : ℕ → List Owner → List Output → List Output
seen_by t [] outputs = []
seen_by t (o ∷ os) [] = []
seen_by t (Own u e ∷ os) (x ∷ xs) = if u == t then x ∷ seen_by t os xs else seen_by t os xs
seen_by t (Nobody o ∷ os) (x ∷ xs) = seen_by t os xs

-- nobody's steps have the outputs that are nobody's: a busy worker's load, an idle worker's decide
abbrev pub NobodysAreRight : List Owner → List Output → Type 0
NobodysAreRight [] outputs = Unit {0}
NobodysAreRight (o ∷ os) [] = Unit {0}
NobodysAreRight (Own u e ∷ os) (x ∷ xs) = NobodysAreRight os xs
NobodysAreRight (Nobody o ∷ os) (x ∷ xs) = (x ≡ o) × NobodysAreRight os xs

-- the step names a worker and a tenant that are there
abbrev pub FitsIn : ℕ → ℕ → Step → Type 0
FitsIn workers tenants (Load worker tenant token bytes) = (worker < workers) × (tenant < tenants)
FitsIn workers tenants (Decide worker now) = worker < workers
FitsIn workers tenants (Answer worker now given) = worker < workers
FitsIn workers tenants (Tick tenant now) = tenant < tenants
FitsIn workers tenants (Govern tenant now command) = tenant < tenants

-- workers that have nothing in hand
abbrev pub all_free : ℕ → Hand
all_free = λ w. Free

-- what the workers have in hand after steps with these outputs
abbrev pub hands_left : (ℕ → Hand) → List Step → List Output → ℕ → Hand
hands_left hands [] outputs = hands
hands_left hands (s ∷ ss) [] = hands
hands_left hands (s ∷ ss) (x ∷ xs) = hands_left (hands_after hands s x) ss xs

-- every tenant, by number, and what every worker has in hand; tenants and workers that are not there have nothing, and
-- no step is theirs
pub record World : Type 0 where
  pub tenants : ℕ → Tenant
  pub hands : ℕ → Hand

-- the book of a tenant that is not there
abbrev pub no_book : State
no_book =
    opened (record {
      tenant = 0;
      name = [];
      address = [];
      journal = 0;
      margin = 0;
      hold = 0;
      period = 0;
      clock = 0;
      next_hold = 0;
      network = nobody;
    })

-- the tenant of that number, to whom nothing has happened, if these are its terms
abbrev pub tenant_at_start : ℕ → ℕ → Option TenantTerms → Tenant
tenant_at_start start t None = new_tenant no_book
tenant_at_start start t (Some terms) = new_tenant (opened (opening_of t terms start))

-- the world of these tenants at its start: nothing has happened to any of them, and the workers have nothing in hand
abbrev pub world_at_start : List TenantTerms → ℕ → World
world_at_start setups start = record { tenants = λ t. tenant_at_start start t (slice_get setups t); hands = all_free }

-- The outputs of these steps in that world: there is one for each step. Each tenant sees what the one-tenant connector
-- says to the tenant's own steps alone. A step that is nobody's has nobody's output.
pub record AreOutputs (world : World) (steps : List Step) (outputs : List Output) : Type 0 where
  pub each_step : length outputs ≡ length steps
  pub alone : (t : ℕ) → seen_by t (owners world.hands steps outputs) outputs
      ≡ run_alone (world.tenants t) (own_steps t (owners world.hands steps outputs))
  pub nobodys : NobodysAreRight (owners world.hands steps outputs) outputs

-- The world that these steps with these outputs lead to. Each tenant is as the one-tenant connector leaves it after
-- the tenant's own steps alone. Each worker has in hand what its own outputs leave it.
pub record IsLeft (world : World) (steps : List Step) (outputs : List Output) (after : World) : Type 0 where
  pub alone : (t : ℕ) → left_alone (world.tenants t) (own_steps t (owners world.hands steps outputs)) ≡ after.tenants t
  pub hands : after.hands ≡ hands_left world.hands steps outputs
