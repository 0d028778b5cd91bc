-- What passes know of the one list, and how steps change it.
use Rattle.std.specs.Prelude.{ℕ, zero, suc, ◌≡◌, ◌≤◌, ◌<◌, ◌+◌, ◌*◌, ◌==◌, ◌&&◌, cond, not, Bool, true, false, List, [], ◌∷◌, ◌++◌, filter, map, count_by, sum_by, All}
use mathlib.Core.Option.{Option, none, some}
use lib.ListN.{get_elem?}
use Rattle.atomic_table.specs.Table.{Step, Me}
use Rattle.atomic_table.specs.Seated.{TableId}
use Rattle.tenant_core.specs.Journals.{Recorded}
use Rattle.tenant_core.specs.Limits.{max_tenants}
use Rattle.tenant_core.specs.declared.journal.Record.{Record}
use Rattle.one_list.specs.declared.step.Beginning.{Beginning}
use Rattle.one_list.specs.declared.step.Done.{Done}
use Rattle.one_list.specs.declared.step.Size.{Size}
use Rattle.one_list.specs.declared.rule.Claim.{Claim}
use Rattle.one_list.specs.Steps.{IsBeginning, done_last}

-- the name of no table
abbrev pub no_table : TableId
no_table = record { words = 0; slots = 0; views_name = 0; atom = 0; block = 0; offset = 0; slot_names = [] }

-- no tenant and no worker
abbrev pub no_size : Size
no_size = record { tenants = 0; workers = 0 }

-- the words of a table: a cache line of eight for each tenant that there may be, and one before them
abbrev pub table_words : ℕ
table_words = (max_tenants + 1) * 8

-- ---- claims

-- the claim that these are all steps of that worker, or of that tenant, in their order, and that the worker has met those
abbrev pub claim : Bool → ℕ → List Done → List Beginning → Claim
claim of_worker number steps met = record { of_worker = of_worker; number = number; steps = steps; met = met }

-- the step is one of those that the claim speaks of
abbrev pub concerns : Claim → Done → Bool
concerns c e = cond c.of_worker (e.worker == c.number) (e.tenant == c.number)

-- the claim is right: these are all such steps of the list, in its order, and what was met are tenants' first steps in it
abbrev pub IsRightClaim : List Done → Claim → Type 0
IsRightClaim log c = (filter (concerns c) log ≡ c.steps) × All (IsBeginning log) c.met

-- all claims are right
abbrev pub AllFit : List Done → List Claim → Type 0
AllFit log [] = Unit {0}
AllFit log (c ∷ cs) = IsRightClaim log c × AllFit log cs

-- the claim is of a worker, or of a tenant, as asked
abbrev pub is_kind : Bool → Claim → Bool
is_kind of_worker c = cond of_worker c.of_worker (not c.of_worker)

-- the claim speaks of that worker, or of that tenant
abbrev pub speaks_of : Bool → ℕ → Claim → Bool
speaks_of of_worker number c = is_kind of_worker c && (c.number == number)

-- how many of the claims speak of that worker, or of that tenant
abbrev pub claim_count : Bool → ℕ → List Claim → ℕ
claim_count of_worker number claims = count_by (speaks_of of_worker number) claims

-- each step is of one of the tenants by one of the workers
abbrev pub AreBelow : Size → List Done → Type 0
AreBelow size log = All (λ e. (e.tenant < size.tenants) × (e.worker < size.workers)) log

-- the number may be that of a part: of a tenant's, or of one of the workers'
abbrev pub IsPartNumber : Size → Bool → ℕ → Type 0
IsPartNumber size false number = Unit {0}
IsPartNumber size true number = number < size.workers

-- the rule: there is one list by which the claims of all passes are right, and each worker and each tenant is claimed once at
-- most
pub record ChronicleInvariant (size : Size) (views : List (List Claim)) : Type 0 where
  pub log : List Done
  pub fits : (by : ℕ) (v : List Claim) → get_elem? views by ≡ some v → AllFit log v
  pub once : (of_worker : Bool) (number : ℕ) → IsPartNumber size of_worker number → sum_by (claim_count of_worker number) views ≤ 1
  pub below : AreBelow size log

-- ---- the start

-- claims of no step, of so many workers or tenants from that number on
abbrev pub new_claims : Bool → ℕ → ℕ → List Claim
new_claims of_worker from zero = []
new_claims of_worker from (suc n) = claim of_worker from [] [] ∷ new_claims of_worker (suc from) n

-- what the first pass claims: no step of each tenant and each worker
abbrev pub first_view : Size → List Claim
first_view size = new_claims false 0 size.tenants ++ new_claims true 0 size.workers

-- what one who watches claims: no step, under a number that no worker has; and what it has met
abbrev pub watching : Size → List Beginning → List Claim
watching size met = claim true size.workers [] met ∷ []

-- ---- a step

-- the claim after these steps
abbrev pub claim_after : List Done → Claim → Claim
claim_after es c = claim c.of_worker c.number (c.steps ++ filter (concerns c) es) c.met

-- the step of the last of a period's records, by the worker and for the tenant that are claimed
abbrev pub steps_by : List Claim → (period : ℕ) → List Record → List Done
steps_by (w ∷ t ∷ cs) period records = done_last w.number t.number period records
steps_by _ period records = []

-- the claims after the last record of that period's journal was added
abbrev pub claims_after : (period : ℕ) → Option Recorded → List Claim → List Claim
claims_after period none v = v
claims_after period (some j) v = map (claim_after (steps_by v period j.records)) v

-- the step was added to the list: the number that the word is offered is that of the period
abbrev pub Adds : Step Recorded → Me Recorded (List Claim) → ℕ → Me Recorded (List Claim) → Type 0
Adds st me n me' = me' ≡ (claims_after st.second st.said me.0, me.1)

-- none speaks of a worker or a tenant of which another does
abbrev pub AreOnce : Size → List Claim → Type 0
AreOnce size v = (of_worker : Bool) (number : ℕ) → IsPartNumber size of_worker number → claim_count of_worker number v ≤ 1

-- there is one list by which the claims are right
abbrev pub AreOfOneList : Size → List Claim → Type 0
AreOfOneList size v = (log : List Done) × AllFit log v × AreBelow size log × AreOnce size v

-- what a look shows: the claims are right, and stay as they are
abbrev pub LookShows : Size → Step Recorded → Me Recorded (List Claim) → ℕ → Me Recorded (List Claim) → Type 0
LookShows size st me n me' = AreOfOneList size me.0 × (me' ≡ me)

-- the claims after the worker that is claimed has met the steps of the tenant that is
abbrev pub met_claims : List Claim → List Claim
met_claims (w ∷ t ∷ cs) =
    record w { met = w.met ++ record { tenant = t.number; steps = t.steps } ∷ [] } ∷ t ∷ cs
met_claims v = v

-- what a meeting shows: the claims are right, and the worker's claim covers the tenant's steps from then on
abbrev pub Meets : Size → Step Recorded → Me Recorded (List Claim) → ℕ → Me Recorded (List Claim) → Type 0
Meets size st me n me' = AreOfOneList size me.0 × (me' ≡ (met_claims me.0, me.1))

-- ---- cut in two

-- the first of the claims
abbrev pub first_claim : List Claim → List Claim
first_claim [] = []
first_claim (c ∷ cs) = c ∷ []

-- all claims but the first
abbrev pub other_claims : List Claim → List Claim
other_claims [] = []
other_claims (c ∷ cs) = cs

-- the claims that speak of workers, or those that speak of tenants
abbrev pub claims_of : Bool → List Claim → List Claim
claims_of of_worker v = filter (is_kind of_worker) v
