-- What a service hands out when all its books are closed: the periods that its tenants' rolls closed, and each worker's receipts.
use Rattle.std.specs.Prelude.{ℕ, ◌≡◌, ◌+◌, true, List, [], ◌∷◌, ◌++◌, length, Some, All, slice_get}
use Rattle.std.specs.List.Sorted.{IsPermutation}
use Rattle.tenant_core.specs.Periods.{closed}
use Rattle.tenant_core.specs.State.{State, opened}
use Rattle.tenant_core.specs.declared.journal.Entry.{Entry}
use Rattle.tenant_core.specs.declared.journal.Entry.TheVariants.{Roll}
use Rattle.tenant_core.specs.declared.opening.Opening.{Opening}
use Rattle.tenant_core.specs.declared.period.PeriodParts.{PeriodParts}
use Rattle.one_list.specs.History.{after_record}
use Rattle.one_list.specs.Steps.{of_tenant}
use Rattle.one_list.specs.declared.step.Done.{Done}
use Rattle.receipts.specs.declared.receipt.Receipt.{Receipt}
use Rattle.books_shared.specs.Gathers.{are_all_there}
use Rattle.books_shared.specs.Shares.{ShareView, receipts_told}

-- ---- closed periods

-- the period that an entry closes: a roll's, and no other's
abbrev pub closed_at : Entry → State → List PeriodParts
closed_at (Roll x) s = closed s x.now ∷ []
closed_at _ s = []

-- the periods that steps closed, from a state on
abbrev pub periods_closed_by : State → List Done → List PeriodParts
periods_closed_by s [] = []
periods_closed_by s (e ∷ es) = closed_at e.made.entry s ++ periods_closed_by (after_record s e.made) es

-- those of the tenants from that number on, one tenant's after the other's; these are the tenants' first openings
abbrev pub closed_from : (tenant : ℕ) → List Opening → List Done → List PeriodParts
closed_from tenant [] log = []
closed_from tenant (o ∷ os) log = periods_closed_by (opened o) (of_tenant tenant log) ++ closed_from (tenant + 1) os log

-- the periods are all that the steps of the list closed, each once, in any order
abbrev pub AreClosedIn : List Opening → List Done → List PeriodParts → Type 0
AreClosedIn openings log periods = IsPermutation (closed_from 0 openings log) periods

-- no book has a record in the running period
abbrev pub AreRolled : List (State × ℕ) → Type 0
AreRolled books = All (λ b. b.0.records ≡ []) books

-- ---- receipts

-- the shares are those of so many workers, each once, and of each there is the list of the receipts of its steps, at its number
pub record AreReceiptsOf (workers : ℕ) (shares : List ShareView) (lists : List (List Receipt)) : Type 0 where
  pub there : are_all_there workers shares ≡ true
  pub many : length lists ≡ workers
  pub own : All (λ s. slice_get lists s.worker ≡ Some (receipts_told s.steps)) shares

-- the shares are those of the workers from that number on, in the order of their numbers
abbrev pub AreSharesFrom : (worker : ℕ) → List ShareView → Type 0
AreSharesFrom worker [] = Unit {0}
AreSharesFrom worker (s ∷ ss) = (s.worker ≡ worker) × AreSharesFrom (worker + 1) ss
