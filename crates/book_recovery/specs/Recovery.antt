-- What the records of a tenant lead to, and what a crash makes of them.
use Rattle.std.specs.Prelude.{ℕ, ◌≡◌, ◌≢◌, max, List, [], ◌∷◌, map, take, Option, Some, None, Result, Ok, Err}
use Rattle.std.specs.List.{slice_get}
use Rattle.common_types.specs.declared.read_error.ReadError.{ReadError}
use Rattle.common_types.specs.declared.read_error.ReadError.TheVariants.{Memory, Fault as Faulty}
use Rattle.tenant_core.specs.Answer.{answered}
use Rattle.tenant_core.specs.Holds.{holds_of, open_holds}
use Rattle.tenant_core.specs.Periods.{closed, next_opening, roll_refusal}
use Rattle.tenant_core.specs.Reopening.{opening_fault}
use Rattle.tenant_core.specs.Replay.{outcome_of}
use Rattle.tenant_core.specs.State.{State, opened, clock_of, recorded}
use Rattle.tenant_core.specs.declared.journal.AnswerKey.TheVariants.{Fault}
use Rattle.tenant_core.specs.declared.journal.Entry.{Entry}
use Rattle.tenant_core.specs.declared.journal.Entry.TheVariants.{Roll}
use Rattle.tenant_core.specs.declared.journal.Outcome.{Outcome}
use Rattle.tenant_core.specs.declared.journal.Record.{Record}
use Rattle.tenant_core.specs.declared.opening.Opening.{Opening}
use Rattle.tenant_core.specs.declared.period.PeriodParts.{PeriodParts}
use Rattle.book_recovery.specs.declared.recovering.LogFault.{LogFault}
use Rattle.book_recovery.specs.declared.recovering.LogFault.TheVariants.{Limit, Differs, Last}
use Rattle.book_recovery.specs.declared.recovering.Recovered.{Recovered}

-- ---- records that lead on

-- the state after a record of that entry: a roll opens the next period, any other entry is appended
abbrev pub after_entry : Entry → State → Record → State
after_entry (Roll x) s r = opened (next_opening s (max (clock_of s) x.now))
after_entry _ s r = recorded s (Some r)

abbrev pub after_record : State → Record → State
after_record s r = after_entry r.entry s r

-- the state after an entry that led to that; it stays as it was if the entry led to nothing
abbrev pub after_outcome : State → Entry → Option Outcome → State
after_outcome s e None = s
after_outcome s e (Some outcome) = after_record s (record { entry = e; outcome = outcome })

-- what an entry leads to, and the state after it
abbrev pub IsDoneAgain : State → State → Entry → Option Outcome → Type 0
IsDoneAgain before after e o = (o ≡ outcome_of before e) × (after ≡ after_outcome before e o)

-- each record is what its entry leads to, over all periods, from one state to the other
abbrev pub LeadTo : State → List Record → State → Type 0
LeadTo s [] t = s ≡ t
LeadTo s (r ∷ rs) t = (outcome_of s r.entry ≡ Some r.outcome) × LeadTo (after_record s r) rs t

-- the records lead on up to that place; the one there is not what its entry leads to
pub record BreaksAt (first : State) (records : List Record) (place : ℕ) : Type 0 where
  pub state : State
  pub leads : LeadTo first (take place records) state
  pub next : Record
  pub is_next : slice_get records place ≡ Some next
  pub differs : outcome_of state next.entry ≢ Some next.outcome

-- the records lead on to that state, or break at that place
abbrev pub IsFollowedTo : Option ℕ → State → List Record → State → Type 0
IsFollowedTo None first records state = LeadTo first records state
IsFollowedTo (Some place) first records state = BreaksAt first records place

-- ---- what a crash makes of them

-- the state after the packets of these numbers had no answer
abbrev pub given_up : ℕ → List ℕ → State → State
given_up now [] s = s
given_up now (n ∷ ns) s = given_up now ns (answered s n now Fault)

-- the state after all that is held had no answer
abbrev pub all_given_up : ℕ → State → State
all_given_up now s = given_up now (map (λ h. h.number) (holds_of s)) s

-- the period that a roll closes at that moment, and the state after it; none if the roll is refused
abbrev pub IsClosed : Option PeriodParts → State → State → ℕ → Type 0
IsClosed (Some period) before after now =
    (roll_refusal before ≡ None) × (period ≡ closed before now)
    × (after ≡ opened (next_opening before (max (clock_of before) now)))
IsClosed None before after now = (roll_refusal before ≢ None) × (after ≡ before)

-- A crash is to a tenant as if none of its next peers had answered any more, and it had rolled. A period begins with the opening,
-- and the records lead to a state. All that it holds has no answer, and the period is closed.
pub record IsRecovered (first : Opening) (records : List Record) (now : ℕ) (closes : Option PeriodParts) (book : State) : Type 0 where
  pub begins : opening_fault first ≡ None
  pub state : State
  pub leads : LeadTo (opened first) records state
  pub closes_so : IsClosed closes (all_given_up now state) book now

-- the result of a recovery: the closed period and the next book; or the first thing that is wrong
abbrev pub IsRecovery : Result Recovered (ReadError LogFault) → Opening → List Record → ℕ → Type 0
IsRecovery (Ok recovered) first records now = IsRecovered first records now (Some recovered.period) recovered.book
IsRecovery (Err Memory) first records now = Unit {0}
IsRecovery (Err (Faulty (Limit fault))) first records now = opening_fault first ≡ Some fault
IsRecovery (Err (Faulty (Differs place))) first records now = (opening_fault first ≡ None) × BreaksAt (opened first) records place
IsRecovery (Err (Faulty Last)) first records now = (book : State) × IsRecovered first records now None book

-- ---- laws

-- what led leads as far as any front of it goes: so does what a crash leaves of a log
abbrev pub FrontLaw : Type 0
FrontLaw = (s t : State) (records : List Record) (n : ℕ) → LeadTo s records t → (u : State) × LeadTo s (take n records) u

-- records that lead somewhere lead there alone
abbrev pub OneEndLaw : Type 0
OneEndLaw = (s t u : State) (records : List Record) → LeadTo s records t → LeadTo s records u → t ≡ u

-- records that lead on break nowhere
abbrev pub NoBreakLaw : Type 0
NoBreakLaw = (s t : State) (records : List Record) (place : ℕ) → LeadTo s records t → BreaksAt s records place → ⊥

-- once all that is held had no answer, nothing is held
abbrev pub NothingHeldLaw : Type 0
NothingHeldLaw = (s : State) (now : ℕ) → open_holds (all_given_up now s) ≡ 0
