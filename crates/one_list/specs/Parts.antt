-- How contracts see the types, and what the types keep.
use Rattle.std.specs.Prelude.{ℕ, Bool, true, false, ◌≡◌, ◌≤◌, ◌<◌, ◌-◌, ◌^◌, List, [], ◌∷◌, map}
use Rattle.atomic_table.specs.Seated.{TableId}
use Rattle.atomic_table.specs.Table.{Me}
use Rattle.tenant_core.specs.Journals.{Recorded}
use Rattle.tenant_core.specs.Limits.{max_tenants}
use Rattle.one_list.specs.declared.step.Beginning.{Beginning}
use Rattle.one_list.specs.declared.step.Done.{Done}
use Rattle.one_list.specs.declared.step.Size.{Size}
use Rattle.one_list.specs.declared.rule.Claim.{Claim}
use Rattle.one_list.specs.Steps.{PartView, WorkerView}
use Rattle.one_list.specs.Rules.{claim, claims_of, first_view, new_claims, table_words, watching}

-- a list of which no run has been picked: its table, and how many tenants and workers there are
pub record OpenedView : Type 0 where
  pub table : TableId
  pub size : Size

-- how many tenants' parts were handed out, and how many workers'
pub record UnclaimedView : Type 0 where
  pub tenants : ℕ
  pub workers : ℕ

-- the parts that were put together
pub record GatheringView : Type 0 where
  pub tenants : List PartView
  pub workers : List WorkerView

-- ---- what the types keep

-- a table has words for that many tenants
pub record HasTenantWords (table : TableId) (size : Size) : Type 0 where
  pub words : table.words ≡ table_words
  pub few : size.tenants ≤ max_tenants

-- the table of an opened list, and its first pass
pub record IsOpened (table : TableId) (size : Size) (at : TableId) (me : Me Recorded (List Claim)) : Type 0 where
  pub roomy : HasTenantWords table size
  pub countable : size.workers < 2 ^ 64
  pub same_table : at ≡ table
  pub claims : me ≡ (first_view size, [])

-- the table of a run's list
pub record IsChronicle (table : TableId) (size : Size) (at : TableId) (key : Size) : Type 0 where
  pub roomy : HasTenantWords table size
  pub same_table : at ≡ table
  pub same_size : key ≡ size

-- a pass that claims no step of so many workers, or tenants, from that number on
pub record IsUnclaimed (table : TableId) (of_worker : Bool) (from most : ℕ) (at : TableId) (me : Me Recorded (List Claim)) : Type 0 where
  pub few : from ≤ most
  pub countable : most < 2 ^ 64
  pub same_table : at ≡ table
  pub claims : me ≡ (new_claims of_worker from (most - from), [])

-- the steps that a part's pass claims
abbrev pub claimed_steps : List (List Claim) → List Done
claimed_steps ((c ∷ cs) ∷ vs) = c.steps
claimed_steps _ = []

-- what a part's pass has met
abbrev pub met_in : List (List Claim) → List Beginning
met_in ((c ∷ cs) ∷ vs) = c.met
met_in _ = []

-- a tenant's part, as contracts see it
abbrev pub part_of : ℕ → List (List Claim) → PartView
part_of number views = record { number = number; steps = claimed_steps views }

-- a worker's part, as contracts see it
abbrev pub worker_part_of : ℕ → List (List Claim) → WorkerView
worker_part_of number views = record { number = number; steps = claimed_steps views; met = met_in views }

-- the pass of the part of that worker, or of that tenant, which has met that
pub record IsPart (table : TableId) (of_worker : Bool) (number most : ℕ) (met : List Beginning) (at : TableId) (views : List (List Claim)) : Type 0 where
  pub below : number < most
  pub same_table : at ≡ table
  pub claims : views ≡ (claim of_worker number (claimed_steps views) met ∷ []) ∷ []

-- the pass of one who watches, and has met that
pub record IsWatcher (table : TableId) (size : Size) (met : List Beginning) (at : TableId) (views : List (List Claim)) : Type 0 where
  pub same_table : at ≡ table
  pub claims : views ≡ watching size met ∷ []

-- the tenants' parts of which the claims speak
abbrev pub tenants_in : List Claim → List PartView
tenants_in v = map (λ c. record { number = c.number; steps = c.steps }) (claims_of false v)

-- the workers' parts of which they speak
abbrev pub workers_in : List Claim → List WorkerView
workers_in v = map (λ c. record { number = c.number; steps = c.steps; met = c.met }) (claims_of true v)

-- parts that were put together, as contracts see them
abbrev pub gathered : List Claim → GatheringView
gathered v = record { tenants = tenants_in v; workers = workers_in v }

-- the pass of the parts that were put together
pub record IsGathering (table at : TableId) (me : Me Recorded (List Claim)) : Type 0 where
  pub same_table : at ≡ table
  pub free : me.1 ≡ []
