-- Answers to packets that went on, and ticks: what each leads to, and the state after it.
use Rattle.std.specs.Prelude.{ℕ, ◌+◌, Bool, true, false, not, ◌||◌, List, length, max, count_by, Option, Some, None}
use Rattle.std.specs.Prelude.{option_map, Result, Ok, Err, nat_lt, nat_le, if◌then◌else◌}
use Rattle.std.specs.Str.{bytes_eq}
use Rattle.sha2.specs.Sha256.{sha256}
use Rattle.tenant_core.specs.Checks.{◌⇒◌, ◌>>◌}
use Rattle.tenant_core.specs.Holds.{holds_of, open_holds, open_hold, is_overdue}
use Rattle.tenant_core.specs.Judge.{refuse}
use Rattle.tenant_core.specs.State.{State, clock_of, recorded}
use Rattle.tenant_core.specs.declared.faults.BookFault.{BookFault}
use Rattle.tenant_core.specs.declared.faults.BookFault.TheVariants.{Full}
use Rattle.tenant_core.specs.declared.faults.HoldFault.{HoldFault}
use Rattle.tenant_core.specs.declared.faults.HoldFault.TheVariants.{NoSuchHold}
use Rattle.tenant_core.specs.declared.hold.Fate.{Fate}
use Rattle.tenant_core.specs.declared.hold.Fate.TheVariants.{Marked}
use Rattle.tenant_core.specs.declared.hold.Hold.{Hold}
use Rattle.tenant_core.specs.declared.journal.AnswerKey.{AnswerKey}
use Rattle.tenant_core.specs.declared.journal.AnswerKey.TheVariants.{Fulfilled, Fault}
use Rattle.tenant_core.specs.declared.journal.Entry.TheVariants.{Answer, Tick}
use Rattle.tenant_core.specs.declared.journal.Outcome.TheVariants.{Packet, Ticked}
use Rattle.tenant_core.specs.declared.journal.Record.{Record}
use Rattle.tenant_core.specs.declared.verdict.RejectCode.TheVariants.{WrongCondition, PeerUnreachable, TimedOut}
use Rattle.tenant_core.specs.declared.verdict.Verdict.{Verdict}
use Rattle.tenant_core.specs.declared.verdict.Verdict.TheVariants.{Relay}

-- ---- answers

-- a tick marked it
abbrev pub is_marked : Fate → Bool
is_marked Marked = true
is_marked _ = false

-- it is too late for an answer to the hold
abbrev pub is_late : Hold → ℕ → Bool
is_late h clock = is_marked h.fate || nat_le h.expiry clock

-- the SHA-256 of the fulfillment is the condition (RFC 0027, "Conditions and Fulfillments")
abbrev pub fits : List ℕ → List ℕ → Bool
fits fulfillment condition = bytes_eq (sha256 fulfillment) condition

-- the answer is a Fulfill that does not fit the condition
abbrev pub is_misfit : AnswerKey → List ℕ → Bool
is_misfit (Fulfilled fulfillment) condition = not (fits fulfillment condition)
is_misfit _ condition = false

-- the answer is that the peer gave none
abbrev pub is_fault : AnswerKey → Bool
is_fault Fault = true
is_fault _ = false

-- the verdict on the answer to an open hold, at the clock after it
abbrev pub settle_answer : Hold → ℕ → AnswerKey → Verdict
settle_answer h clock key = do
  is_late h clock ⇒ refuse TimedOut
  is_misfit key h.condition ⇒ refuse WrongCondition
  is_fault key ⇒ refuse PeerUnreachable
  Relay

-- the verdict on an answer to what was found under its number
abbrev pub settled : Option Hold → ℕ → AnswerKey → Result Verdict HoldFault
settled None clock key = Err NoSuchHold
settled (Some h) clock key = Ok (settle_answer h clock key)

-- the verdict on an answer to the hold of that number at this moment
abbrev pub answer_to : State → ℕ → ℕ → AnswerKey → Result Verdict HoldFault
answer_to s hold now key = settled (open_hold s hold) (max (clock_of s) now) key

-- the record of an answer
abbrev pub answer_record : ℕ → ℕ → AnswerKey → Verdict → Record
answer_record hold now key v =
    record { entry = Answer (record { hold = hold; now = now; key = key }); outcome = Packet v }

-- the record that an answer makes, if it makes one
abbrev pub answer_made : State → ℕ → ℕ → AnswerKey → Option Record
answer_made s hold now key =
    option_map (λ h. answer_record hold now key (settle_answer h (max (clock_of s) now) key)) (open_hold s hold)

-- the state after an answer
abbrev pub answered : State → ℕ → ℕ → AnswerKey → State
answered s hold now key = recorded s (answer_made s hold now key)

-- ---- ticks

-- the journal has no room for another entry and the answers of all open holds
abbrev pub has_no_place : State → Bool
has_no_place s = nat_lt s.opening.journal (length s.records + open_holds s + 1)

-- how many holds are overdue at that clock
abbrev pub tick_count : State → ℕ → ℕ
tick_count s clock = count_by (is_overdue clock) (holds_of s)

-- the result of a tick at this moment
abbrev pub tick_result : State → ℕ → Result ℕ BookFault
tick_result s now = if has_no_place s then Err Full else Ok (tick_count s (max (clock_of s) now))

-- the record of a tick
abbrev pub tick_record : ℕ → ℕ → Record
tick_record now count = record { entry = Tick (record { now = now }); outcome = Ticked count }

-- the record that a tick makes, if it makes one
abbrev pub tick_made : State → ℕ → Option Record
tick_made s now = if has_no_place s then None else Some (tick_record now (tick_count s (max (clock_of s) now)))

-- the state after a tick
abbrev pub ticked : State → ℕ → State
ticked s now = recorded s (tick_made s now)
