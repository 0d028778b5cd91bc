-- A tenant's book as what its records led to, over all its periods.
use Rattle.std.specs.Prelude.{◌≡◌, ◌++◌, max, length, List, [], ◌∷◌, Some}
use Rattle.tenant_core.specs.Journals.{last_of}
use Rattle.tenant_core.specs.Made.{IsMade}
use Rattle.tenant_core.specs.Periods.{next_opening}
use Rattle.tenant_core.specs.State.{State, opened, clock_of, recorded}
use Rattle.tenant_core.specs.declared.journal.Entry.{Entry}
use Rattle.tenant_core.specs.declared.journal.Entry.TheVariants.{Roll}
use Rattle.tenant_core.specs.declared.journal.Record.{Record}
use Rattle.tenant_core.specs.declared.opening.Opening.{Opening}
use Rattle.one_list.specs.declared.step.Done.{Done}

-- the state after a record of that entry: a roll's opens the next period, any other is appended
abbrev pub after_entry : Entry → State → Record → State
after_entry (Roll x) s r = opened (next_opening s (max (clock_of s) x.now))
after_entry _ s r = recorded s (Some r)

-- the state after a record
abbrev pub after_record : State → Record → State
after_record s r = after_entry r.entry s r

-- the step's record is what its entry leads to in the state, and its place is that of the next record
pub record IsNextStep (s : State) (e : Done) : Type 0 where
  pub made : IsMade s e.made
  pub period : e.period ≡ s.opening.period
  pub number : e.number ≡ length s.records

-- steps that each made its record, one after another, lead from one state to the other
abbrev pub LeadTo : State → List Done → State → Type 0
LeadTo s [] t = s ≡ t
LeadTo s (e ∷ es) t = IsNextStep s e × LeadTo (after_record s e.made) es t

-- the steps are all that happened since a tenant's first opening
abbrev pub IsHistory : Opening → List Done → State → Type 0
IsHistory o steps s = LeadTo (opened o) steps s

-- how histories begin and go on, and which record is the last one
pub record HistoryLaws : Type 0 where
  pub begins : (o : Opening) → IsHistory o [] (opened o)
  pub goes_on : (o : Opening) (steps : List Done) (s : State) (e : Done)
      → IsHistory o steps s → IsNextStep s e → IsHistory o (steps ++ e ∷ []) (after_record s e.made)
  pub last : (records : List Record) (r : Record) → last_of (records ++ r ∷ []) ≡ Some r
