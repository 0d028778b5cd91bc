-- One list of steps, and what it says of tenants and workers.
use Rattle.std.specs.Prelude.{ℕ, ◌≡◌, ◌==◌, ◌<◌, ◌≤◌, ◌-◌, List, [], ◌∷◌, ◌++◌, count_by, filter, length, All, Option, Some, None}
use Rattle.tenant_core.specs.Journals.{last_of}
use Rattle.tenant_core.specs.State.{State}
use Rattle.tenant_core.specs.declared.journal.Record.{Record}
use Rattle.one_list.specs.declared.step.Beginning.{Beginning}
use Rattle.one_list.specs.declared.step.Done.{Done}
use Rattle.one_list.specs.declared.step.Size.{Size}

-- ---- steps

-- the place of a record: in the journal of that tenant, in the period of that number, after that many records of it
pub record Place : Type 0 where
  pub tenant : ℕ
  pub period : ℕ
  pub number : ℕ

-- the place of the next record of a state
abbrev pub next_place : State → Place
next_place s = record { tenant = s.opening.tenant; period = s.opening.period; number = length s.records }

-- the step of that worker, of which this is the record, at that place
abbrev pub done : ℕ → Place → Record → Done
done worker p r = record { worker = worker; tenant = p.tenant; period = p.period; number = p.number; made = r }

-- the step of a record, if there is one
abbrev pub done_by : ℕ → Place → Option Record → List Done
done_by worker p None = []
done_by worker p (Some r) = done worker p r ∷ []

-- the place of the last of a period's records
abbrev pub last_place : (tenant period : ℕ) → List Record → Place
last_place tenant period records = record { tenant = tenant; period = period; number = length records - 1 }

-- the step of the last of a period's records, if there is one
abbrev pub done_last : (worker tenant period : ℕ) → List Record → List Done
done_last worker tenant period records = done_by worker (last_place tenant period records) (last_of records)

-- the steps of that tenant, in their order
abbrev pub of_tenant : ℕ → List Done → List Done
of_tenant tenant log = filter (λ e. e.tenant == tenant) log

-- the steps of that worker, in their order
abbrev pub of_worker : ℕ → List Done → List Done
of_worker worker log = filter (λ e. e.worker == worker) log

-- ---- parts

-- a tenant's part of the list: its number, and the steps of it in their order
pub record PartView : Type 0 where
  pub number : ℕ
  pub steps : List Done

-- the part with these steps more
abbrev pub grown : PartView → List Done → PartView
grown p es = record p { steps = p.steps ++ es }

-- a worker's part of the list: its number, the steps of it in their order, and the tenants' steps that it has met, each time as
-- far as they had come then
pub record WorkerView : Type 0 where
  pub number : ℕ
  pub steps : List Done
  pub met : List Beginning

-- the part with these steps more
abbrev pub worked : WorkerView → List Done → WorkerView
worked p es = record p { steps = p.steps ++ es }

-- the part, once the worker has met the steps of a tenant's part
abbrev pub has_met : WorkerView → PartView → WorkerView
has_met p t = record p { met = p.met ++ record { tenant = t.number; steps = t.steps } ∷ [] }

-- they are the first steps that the list has of the tenant
abbrev pub IsBeginning : List Done → Beginning → Type 0
IsBeginning log b = (rest : List Done) × (of_tenant b.tenant log ≡ b.steps ++ rest)

-- the steps go on from what was met of that tenant, if it was of that tenant
abbrev pub GoesOnFrom : ℕ → List Done → Beginning → Type 0
GoesOnFrom tenant steps b = b.tenant ≡ tenant → (rest : List Done) × (steps ≡ b.steps ++ rest)

-- ---- one list

-- how many of the parts have that number
abbrev pub parts_numbered : ℕ → List PartView → ℕ
parts_numbered number parts = count_by (λ p. p.number == number) parts

-- The list has the steps of each tenant's part and of each worker's part, each in their order, and no others of them.
-- What a worker has met of a tenant is how the tenant's steps in the list begin. Every step is of one of the tenants
-- by one of the workers. No tenant has two parts.
pub record IsOneList (size : Size) (of_tenants : List PartView) (of_workers : List WorkerView) (log : List Done) : Type 0 where
  pub tenants : All (λ p. of_tenant p.number log ≡ p.steps) of_tenants
  pub workers : All (λ p. of_worker p.number log ≡ p.steps) of_workers
  pub met : All (λ p. All (IsBeginning log) p.met) of_workers
  pub others : All (λ e. (e.tenant < size.tenants) × (e.worker < size.workers)) log
  pub once : (number : ℕ) → parts_numbered number of_tenants ≤ 1

-- there is one list of which these are parts
abbrev pub HaveOneList : Size → List PartView → List WorkerView → Type 0
HaveOneList size tenants workers = (log : List Done) × IsOneList size tenants workers log
