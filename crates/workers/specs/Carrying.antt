-- What a packet went through that a worker carried, and what a command did: which books decided, and when.
use Rattle.std.specs.Prelude.{ℕ, ◌≡◌, List, [], ◌∷◌, ◌++◌, Option, Some, Result, Ok, Err}
use Rattle.tenant_core.specs.Governed.{IsGoverned, made_by}
use Rattle.tenant_core.specs.Sound.{IsSound}
use Rattle.tenant_core.specs.State.{State, recorded}
use Rattle.tenant_core.specs.declared.command.Answered.{Answered}
use Rattle.tenant_core.specs.declared.command.Command.{Command}
use Rattle.tenant_core.specs.declared.faults.CommandFault.{CommandFault}
use Rattle.tenant_core.specs.declared.journal.Record.{Record}
use Rattle.tenant_core.specs.declared.opening.Opening.{Opening}
use Rattle.floor_core.specs.Work.{Job, Work, Called, answer_call, carrying, decide_call, job_frame}
use Rattle.floor_core.specs.declared.parts.Got.{Got}
use Rattle.floor_core.specs.declared.parts.Got.TheVariants.{Fault}
use Rattle.floor_core.specs.declared.parts.Turn.{Turn}
use Rattle.floor_core.specs.declared.parts.Turn.TheVariants as turn
use Rattle.one_list.specs.Holds.{BeginsHold, IsAnsweredByAnother}
use Rattle.one_list.specs.Steps.{done_by, next_place, of_tenant, of_worker}
use Rattle.one_list.specs.declared.step.Done.{Done}
use Rattle.books_shared.specs.Rises.{command_rise, rise_of}
use Rattle.books_shared.specs.Shares.{ShareView, share_met}
use Rattle.books_shared.specs.Traced.{IsLedTo, share_counted}
use Rattle.books_shared.specs.declared.rise.CallCounts.{CallCounts}
use Rattle.workers.specs.Keeping.{place_after}
use Rattle.workers.specs.Replies.{Sending}
use Rattle.workers.specs.declared.governing.GovernFault.{GovernFault}
use Rattle.workers.specs.declared.governing.GovernFault.TheVariants.{Spent, Memory, NoRoom, Stray, Unkept, Refused}
use Rattle.workers.specs.declared.keeping.JournalPlace.{JournalPlace}
use Rattle.workers.specs.declared.reply.Reply.{Reply}
use Rattle.workers.specs.declared.reply.Reply.TheVariants as reply

-- ---- books under their locks

-- Under what books are found: with these openings the tenants' first periods began, and such moments the clock may give.
-- And what became of what was done to them: that all records of a tenant before a place are kept, or that keeping them may fail
pub record Circumstances : Type 1 where
  pub openings : List Opening
  pub Gives : ℕ → Type 0
  pub Keeps : JournalPlace → Type 0
  pub Fails : Type 0

abbrev pub circumstances : List Opening → (ℕ → Type 0) → (JournalPlace → Type 0) → Type 0 → Circumstances
circumstances openings Gives Keeps Fails = record { openings = openings; Gives = Gives; Keeps = Keeps; Fails = Fails }

-- A book as it was found under a lock: the replay of its journal, and within its limits. The tenant's steps until
-- then, over all its periods, led to it from the tenant's first opening. `HasOwnSteps` says which of them are the
-- asking worker's, and `HasGrown` that the worker has met just these. `now` is the moment that the clock gave then.
pub record Found (under : Circumstances) : Type 0 where
  pub book : State
  pub steps : List Done
  pub now : ℕ
  pub sound : IsSound book
  pub led : IsLedTo under.openings book steps
  pub gave : under.Gives now

-- the book that was found is the tenant's
abbrev pub IsOf : {under : Circumstances} → ℕ → Found under → Type 0
IsOf tenant found = found.book.opening.tenant ≡ tenant

-- ---- calls

-- whose call it is, and a worker's share before and after
pub record Growth : Type 0 where
  pub owner : ℕ
  pub before : ShareView
  pub after : ShareView

-- Of this worker, the steps that led to the book are exactly what it had done for the tenant before the call, in its
-- order. So the book is not from before the worker's last step for the tenant.
abbrev pub HasOwnSteps : {under : Circumstances} → Growth → Found under → Type 0
HasOwnSteps g found = of_worker g.before.worker found.steps ≡ of_tenant g.owner g.before.steps

-- a share before and after what was done for that tenant
abbrev pub growth : ℕ → (before after : ShareView) → Growth
growth owner before after = record { owner = owner; before = before; after = after }

-- the same worker, with the same counts, steps, meetings and receipts: for how many calls there is room is left open
abbrev pub AreAlike : (one other : ShareView) → Type 0
AreAlike one other = other ≡ record one { room = other.room }

-- the share, once its worker has met the steps that led to the book
abbrev pub meeting : {under : Circumstances} → Found under → ShareView → ShareView
meeting found s = share_met found.book.opening.tenant found.steps s

-- The share has grown by one call with the book: by the steps that it has met, by that rise, and by that record at the
-- book's next place. The one list's steps of the tenant begin with those that it has met. So each book that is asked
-- is one to which the tenant's steps in the one list led.
abbrev pub HasGrown : {under : Circumstances} → Found under → CallCounts → Option Record → Growth → Type 0
HasGrown found rise made g = AreAlike (share_counted rise (next_place found.book) made (meeting found g.before)) g.after

-- it has met the steps that led to the book, and nothing else changed
abbrev pub HasMet : {under : Circumstances} → Found under → Growth → Type 0
HasMet found g = AreAlike (meeting found g.before) g.after

-- it has not grown
abbrev pub IsSame : Growth → Type 0
IsSame g = AreAlike g.before g.after

-- up to the share between
abbrev pub upto : ShareView → Growth → Growth
upto between g = record g { after = between }

-- from the share between on
abbrev pub from : ShareView → Growth → Growth
from between g = record g { before = between }

-- a call of the slot with the tenant's book, as it was found: its turn, the slot after it, the share that has grown by it,
-- and the place after the book's records
pub record WasCalled (under : Circumstances) (g : Growth) (call : State → ℕ → Called) (turn : Turn) (after : Work) (place : JournalPlace) : Type 0 where
  pub found : Found under
  pub own : IsOf g.owner found
  pub mine : HasOwnSteps g found
  pub told : (call found.book found.now).turn ≡ turn
  pub left : after ≡ (call found.book found.now).work
  pub grew : HasGrown found (rise_of (call found.book found.now)) (call found.book found.now).made g
  pub at : place ≡ place_after (recorded found.book (call found.book found.now).made)

-- such a call, with all that was done to the book until then kept, by the call too
pub record WasKept (under : Circumstances) (g : Growth) (call : State → ℕ → Called) (turn : Turn) (after : Work) : Type 0 where
  pub place : JournalPlace
  pub called : WasCalled under g call turn after place
  pub kept : under.Keeps place

-- such a call, of which it is not known whether it is kept
pub record WasUnkept (under : Circumstances) (g : Growth) (call : State → ℕ → Called) (turn : Turn) (after : Work) : Type 0 where
  pub place : JournalPlace
  pub called : WasCalled under g call turn after place
  pub failed : under.Fails

-- the tenant's book held the packet of the slot, to send it on to a peer; the step of that record begins the hold
pub record WasForwarded (under : Circumstances) (g : Growth) (before after : Work) : Type 0 where
  pub peer : ℕ
  pub hold : ℕ
  pub place : JournalPlace
  pub decided : WasCalled under g (decide_call before) (turn.Send peer hold) after place
  pub step : Done
  pub made : done_by g.before.worker (next_place decided.found.book) (decide_call before decided.found.book decided.found.now).made ≡ step ∷ []
  pub begins : BeginsHold hold step

-- ---- a send

-- the frame of the slot was sent to the slot's target for the tenant, with the slot's expiry, and this came back, into the
-- slot's room
pub record WasExchanged (owner : ℕ) (before : Work) (came : Got) (after : Work) (So : Sending → Type 0) : Type 0 where
  pub sending : Sending
  pub tenant : sending.tenant ≡ owner
  pub target : Some sending.target ≡ before.target
  pub frame : sending.frame ≡ job_frame before.job
  pub expiry : Some sending.expiry ≡ before.expiry
  pub got : sending.got ≡ came
  pub so : So sending
  pub left : after ≡ record before { room = sending.room }

-- the packet of the slot went on: the tenant's book forwarded it, which is kept, and what that left in the slot was sent, to the
-- slot's target
pub record WentOn (under : Circumstances) (g : Growth) (before : Work) (came : Got) (after : Work) (So : Sending → Type 0) : Type 0 where
  pub waiting : Work
  pub forwarded : WasForwarded under g before waiting
  pub kept : under.Keeps forwarded.place
  pub sent : WasExchanged g.owner waiting came after So

-- ---- an answer

-- the last that the worker did for the tenant was to send on the packet of that hold
pub record HasSentOn (share : ShareView) (tenant hold : ℕ) : Type 0 where
  pub before : List Done
  pub step : Done
  pub last : of_tenant tenant share.steps ≡ before ++ step ∷ []
  pub by_it : step.worker ≡ share.worker
  pub begins : BeginsHold hold step

-- the last that the worker did for the tenant was to send on the packet that the call awaits
abbrev pub IsOwnCall : ShareView → ℕ → Job → Type 0
IsOwnCall share tenant (Job.Waits owner hold frame) = HasSentOn share tenant hold
IsOwnCall share tenant _ = Unit {0}

-- the result of an answer with what came back
abbrev pub answer_with : Work → Got → State → ℕ → Called
answer_with before came book now = answer_call before book now came

-- the tenant's book has no such hold, and the share has only met its steps
pub record WasMissed (under : Circumstances) (g : Growth) (before : Work) (came : Got) : Type 0 where
  pub found : Found under
  pub own : IsOf g.owner found
  pub mine : HasOwnSteps g found
  pub turn : (answer_with before came found.book found.now).turn ≡ turn.Stray
  pub none : HasMet found g

-- what became of a packet at an answer, by its turn
abbrev pub IsAnswered : (under : Circumstances) → Turn → Growth → Got → (before after : Work) → JournalPlace → Type 0
IsAnswered under turn.Reply g came before after place = WasCalled under g (answer_with before came) turn.Reply after place
IsAnswered under _ g came before after place = WasMissed under g before came × (after ≡ before)

-- ---- a packet

-- what became of the hold of a packet that was not sent on, by the turn of its decide: its book settled it as one without an answer
abbrev pub IsReleased : (under : Circumstances) → Turn → Growth → (before after : Work) → Type 0
IsReleased under (turn.Send peer hold) g before after = (told : Turn) × (place : JournalPlace) × IsAnswered under told g Fault before after place
IsReleased under _ g before after = (after ≡ before) × IsSame g

-- nothing of the packet left, and its book's verdict is not known to be kept: if that was to send it on, it is held no longer
pub record WasHeldBack (under : Circumstances) (g : Growth) (before after : Work) : Type 0 where
  pub between : ShareView
  pub told : Turn
  pub left : Work
  pub decided : WasUnkept under (upto between g) (decide_call before) told left
  pub ended : Work
  pub released : IsReleased under told (from between g) left ended
  pub cleared : after ≡ carrying Job.NoJob ended.room

-- the packet went on, and what came back was settled, which is kept
pub record CameBack (under : Circumstances) (g : Growth) (before : Work) (came : Got) (after : Work) (So : Sending → Type 0) : Type 0 where
  pub between : ShareView
  pub answered : Work
  pub went : WentOn under (upto between g) before came answered So
  pub settled : WasKept under (from between g) (answer_with answered came) turn.Reply after

-- the packet went on, and what came back was settled, which is not known to be kept
pub record WasUntold (under : Circumstances) (g : Growth) (before : Work) (came : Got) (after : Work) (So : Sending → Type 0) : Type 0 where
  pub between : ShareView
  pub answered : Work
  pub went : WentOn under (upto between g) before came answered So
  pub left : Work
  pub settled : WasUnkept under (from between g) (answer_with answered came) turn.Reply left
  pub cleared : after ≡ carrying Job.NoJob left.room

-- the packet went on, and its answer was not awaited any longer: since the step by which it went on, another worker
-- answered its hold
pub record WasLost (under : Circumstances) (g : Growth) (before : Work) (came : Got) (after : Work) (So : Sending → Type 0) : Type 0 where
  pub between : ShareView
  pub answered : Work
  pub went : WentOn under (upto between g) before came answered So
  pub missed : WasMissed under (from between g) answered came
  pub elsewhere : IsAnsweredByAnother went.forwarded.step went.forwarded.hold missed.found.steps
  pub left : after ≡ carrying Job.NoJob answered.room

-- What became of the packet of a slot, by the reply. `before` is the slot with the packet just taken in, `after` the
-- slot at the end, whose reply goes to the sender. Each book that was asked was found under these circumstances.
abbrev pub IsCarried : (under : Circumstances) → Reply → Growth → (before after : Work) → (So : Sending → Type 0) → Type 0
IsCarried under reply.Malformed g before after So = (after ≡ before) × IsSame g
IsCarried under reply.Nameless g before after So = (after ≡ before) × IsSame g
IsCarried under reply.Stranger g before after So = WasKept under g (decide_call before) turn.Stranger after
IsCarried under reply.Spent g before after So = (after ≡ carrying Job.NoJob before.room) × IsSame g
IsCarried under reply.Memory g before after So = (after ≡ carrying Job.NoJob before.room) × IsSame g
IsCarried under reply.NoRoom g before after So = under.Fails × (after ≡ carrying Job.NoJob before.room) × IsSame g
IsCarried under reply.Unkept g before after So = WasHeldBack under g before after
IsCarried under reply.Decided g before after So = WasKept under g (decide_call before) turn.Reply after
IsCarried under (reply.Settled got) g before after So = CameBack under g before got after So
IsCarried under (reply.Untold got) g before after So = WasUntold under g before got after So
IsCarried under (reply.Lost got) g before after So = WasLost under g before got after So

-- ---- steps of a packet, by their turns

-- what became of a packet at a decide, by its turn: the book is the tenant's, so there is an answer
abbrev pub IsDecided : (under : Circumstances) → Turn → Growth → (before after : Work) → JournalPlace → Type 0
IsDecided under turn.Idle g before after place = ⊥
IsDecided under turn.Stray g before after place = ⊥
IsDecided under told g before after place = WasCalled under g (decide_call before) told after place

-- the slot at the end: if the answer is unavailable (503), the call is dropped
abbrev pub slot_closed : Reply → Work → Work
slot_closed reply.Spent left = carrying Job.NoJob left.room
slot_closed reply.Memory left = carrying Job.NoJob left.room
slot_closed reply.NoRoom left = carrying Job.NoJob left.room
slot_closed reply.Unkept left = carrying Job.NoJob left.room
slot_closed (reply.Untold got) left = carrying Job.NoJob left.room
slot_closed (reply.Lost got) left = carrying Job.NoJob left.room
slot_closed _ left = left

-- ---- a command

-- the tenant's book got this command at its moment, and gave this answer; the share has grown by that
pub record WasCommanded (under : Circumstances) (g : Growth) (given : Command) (answer : Result Answered CommandFault) : Type 0 where
  pub found : Found under
  pub own : IsOf g.owner found
  pub mine : HasOwnSteps g found
  pub after : State
  pub governed : IsGoverned answer given found.book after found.now
  pub grew : HasGrown found (command_rise answer) (made_by answer found.book given found.now) g

-- such a command, with all that was done to the book until then kept, by the command too
pub record WasDone (under : Circumstances) (g : Growth) (given : Command) (answer : Result Answered CommandFault) : Type 0 where
  pub commanded : WasCommanded under g given answer
  pub kept : under.Keeps (place_after commanded.after)

-- such a command, of which it is not known whether it is kept
pub record WasDoneUntold (under : Circumstances) (g : Growth) (given : Command) : Type 0 where
  pub answer : Result Answered CommandFault
  pub commanded : WasCommanded under g given answer
  pub failed : under.Fails

-- what became of a command, by its answer: `Stray` is never answered
abbrev pub IsDone : (under : Circumstances) → Result Answered GovernFault → Growth → Command → Type 0
IsDone under (Ok answered) g given = WasDone under g given (Ok answered)
IsDone under (Err Spent) g given = IsSame g
IsDone under (Err Memory) g given = IsSame g
IsDone under (Err NoRoom) g given = under.Fails × IsSame g
IsDone under (Err Stray) g given = ⊥
IsDone under (Err Unkept) g given = WasDoneUntold under g given
IsDone under (Err (Refused fault)) g given = WasDone under g given (Err fault)
