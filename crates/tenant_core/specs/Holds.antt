-- Holds, the packets that went on: each with its fate, read off the records of a state.
use Rattle.std.specs.Prelude.{ℕ, ◌≡◌, ◌+◌, Bool, true, false, ◌&&◌, List, [], ◌∷◌, fold, map, length, count_by, find}
use Rattle.std.specs.Prelude.{Option, Some, None, nat_le, ◌==◌, if◌then◌else◌}
use Rattle.tenant_core.specs.State.{State, later, extended}
use Rattle.tenant_core.specs.declared.hold.Fate.{Fate}
use Rattle.tenant_core.specs.declared.hold.Fate.TheVariants.{Held, Marked, Ended}
use Rattle.tenant_core.specs.declared.hold.Hold.{Hold}
use Rattle.tenant_core.specs.declared.journal.AnswerKey.{AnswerKey}
use Rattle.tenant_core.specs.declared.journal.AnswerKey.TheVariants.{Fulfilled}
use Rattle.tenant_core.specs.declared.journal.DecideEntry.{DecideEntry}
use Rattle.tenant_core.specs.declared.journal.Entry.{Entry}
use Rattle.tenant_core.specs.declared.journal.Entry.TheVariants.{Decide, Answer, Tick, Change, Roll}
use Rattle.tenant_core.specs.declared.journal.Outcome.{Outcome}
use Rattle.tenant_core.specs.declared.journal.Outcome.TheVariants.{Packet}
use Rattle.tenant_core.specs.declared.journal.Record.{Record}
use Rattle.tenant_core.specs.declared.verdict.Verdict.{Verdict}
use Rattle.tenant_core.specs.declared.verdict.Verdict.TheVariants.{Forward, Relay}

-- ---- what a fate says

-- the answer may still come
abbrev pub awaits_answer : Fate → Bool
awaits_answer Held = true
awaits_answer Marked = true
awaits_answer (Ended fulfilled) = false

-- the amounts are held
abbrev pub holds_amounts : Fate → Bool
holds_amounts Held = true
holds_amounts Marked = false
holds_amounts (Ended fulfilled) = false

-- the amounts were taken
abbrev pub took_amounts : Fate → Bool
took_amounts Held = false
took_amounts Marked = false
took_amounts (Ended fulfilled) = fulfilled

-- the hold awaits its answer, be it overdue or not
abbrev pub is_open : Hold → Bool
is_open h = awaits_answer h.fate

-- the hold of that number awaits its answer
abbrev pub is_open_under : ℕ → Hold → Bool
is_open_under n h = (h.number == n) && is_open h

-- the hold's amounts are held, and it expired by that clock
abbrev pub is_overdue : ℕ → Hold → Bool
is_overdue clock h = holds_amounts h.fate && nat_le h.expiry clock

-- ---- what a record makes of holds

-- the hold that a Prepare begins, if it goes on
abbrev pub begun_by : DecideEntry → Verdict → Option Hold
begun_by d (Forward hold peer amount expiry) =
    Some (record {
      number = hold;
      from = d.peer;
      to = peer;
      amount = d.amount;
      price = amount;
      expiry = expiry;
      condition = d.condition;
      fate = Held;
    })
begun_by d _ = None

-- the hold that a record begins
abbrev pub hold_begun : Entry → Outcome → Option Hold
hold_begun (Decide d) (Packet v) = begun_by d v
hold_begun _ _ = None

-- the answer is a Fulfill (RFC 0027, "ILP Fulfill")
abbrev pub is_fulfill : AnswerKey → Bool
is_fulfill (Fulfilled fulfillment) = true
is_fulfill _ = false

-- the answer goes back as it came
abbrev pub is_relay : Verdict → Bool
is_relay Relay = true
is_relay _ = false

-- what an entry led to is that the answer goes back as it came
abbrev pub is_relayed : Outcome → Bool
is_relayed (Packet v) = is_relay v
is_relayed _ = false

-- the hold with that fate
abbrev pub with_fate : Hold → Fate → Hold
with_fate h fate = record h { fate = fate }

-- an answer ends the open hold of its number
abbrev pub hold_ended : ℕ → Bool → Hold → Hold
hold_ended n fulfilled h = with_fate h (if is_open_under n h then Ended fulfilled else h.fate)

-- a tick marks what is overdue at the clock after it
abbrev pub hold_ticked : ℕ → Hold → Hold
hold_ticked clock h = with_fate h (if is_overdue clock h then Marked else h.fate)

-- what an entry makes of a hold, at the clock after it: it is fulfilled if a Fulfill goes back as it came
abbrev pub hold_after : ℕ → Entry → Outcome → Hold → Hold
hold_after clock (Decide d) o h = h
hold_after clock (Answer a) o h = hold_ended a.hold (is_fulfill a.key && is_relayed o) h
hold_after clock (Tick t) o h = hold_ticked clock h
hold_after clock (Change c) o h = h
hold_after clock (Roll r) o h = h

-- ---- the holds of a state

-- what records leave: the clock, and the holds with their fates
pub record Course : Type 0 where
  pub clock : ℕ
  pub holds : List Hold

-- one record more
abbrev pub course_after : Course → Record → Course
course_after c r =
    let clock = later c.clock r
    in record {
      clock = clock;
      holds = extended (map (hold_after clock r.entry r.outcome) c.holds) (hold_begun r.entry r.outcome);
    }

-- the holds of a period, in the order of their numbers
unfoldable pub holds_of : State → List Hold
holds_of s = (fold course_after (record { clock = s.opening.clock; holds = [] }) s.records).holds

-- how many holds the period began
abbrev pub hold_count : State → ℕ
hold_count s = length (holds_of s)

-- how many holds await their answers
abbrev pub open_holds : State → ℕ
open_holds s = count_by is_open (holds_of s)

-- the number of the next hold: holds are numbered over all periods
abbrev pub next_hold : State → ℕ
next_hold s = s.opening.next_hold + hold_count s

-- the hold of that number, if it awaits its answer
abbrev pub open_hold : State → ℕ → Option Hold
open_hold s n = find (is_open_under n) (holds_of s)

-- the holds are numbered one after the other from n on
abbrev pub AreNumbered : ℕ → List Hold → Type 0
AreNumbered n [] = Unit {0}
AreNumbered n (h ∷ hs) = (h.number ≡ n) × AreNumbered (n + 1) hs
