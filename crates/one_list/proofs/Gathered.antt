-- Parts, from their passes; and the one list of parts that were put together.
use Rattle.std.proofs.Common.{◌≡◌, ◌==◌, ◌+◌, ◌&&◌, arith, ℕ, List, [], ◌∷◌, ◌++◌, All, map, Bool, true, false, cond, not, refl, sym, ap, ◌∙◌, subst}
use Rattle.std.specs.Prelude.{filter}
use Rattle.atomic_table.specs.Table.{Me}
use Rattle.std.proofs.lemmas.List.Sums.{sum_by-cons}
use Rattle.std.proofs.lemmas.List.{append-nil, map-append}
use Rattle.std.proofs.lemmas.List.Elements.{filter-append, All-nil, All-cons}
use Rattle.tenant_core.specs.Journals.{Recorded}
use Rattle.one_list.specs.declared.step.Beginning.{Beginning}
use Rattle.one_list.specs.declared.step.Done.{Done}
use Rattle.one_list.specs.declared.step.Size.{Size}
use Rattle.one_list.specs.declared.rule.Claim.{Claim}
use Rattle.one_list.specs.Steps.{IsBeginning, PartView, WorkerView, HaveOneList, of_tenant, of_worker, parts_numbered}
use Rattle.one_list.specs.Rules.{AllFit, IsRightClaim, AreOfOneList, claim, claims_of, claim_count, is_kind, speaks_of}
use Rattle.one_list.specs.Parts.{gathered, met_in, claimed_steps, tenants_in, workers_in}

-- what a seat holds that a badge became
pub seated : {c : List Claim} {me : Me Recorded (List Claim)} → me.0 ∷ [] ≡ c ∷ [] → me.1 ≡ [] → me ≡ (c, [])
seated {c} {me} e f = let h : me.0 ≡ c = cc (e) in λ i. (h i, f i)

-- a badge claims the steps that are in it
pub claimed : {b : Bool} {n : ℕ} {steps : List Done} {met : List Beginning} {views : List (List Claim)} → views ≡ (claim b n steps met ∷ []) ∷ []
    → views ≡ (claim b n (claimed_steps views) met ∷ []) ∷ []
claimed {b} {n} {steps} {met} {views} e = e ∙ ap (λ (l : List Done). (claim b n l met ∷ []) ∷ []) (sym (ap claimed_steps e))

-- and has met what is in it
pub claimed_met : {b : Bool} {n : ℕ} {steps : List Done} {met : List Beginning} {views : List (List Claim)} → views ≡ (claim b n steps met ∷ []) ∷ []
    → views ≡ (claim b n (claimed_steps views) (met_in views) ∷ []) ∷ []
claimed_met {b} {n} {steps} {met} {views} e = claimed e ∙ ap (λ (l : List Beginning). (claim b n (claimed_steps views) l ∷ []) ∷ []) (sym (ap met_in e))

-- the parts of which a claim speaks
abbrev part_in : Claim → PartView
part_in c = record { number = c.number; steps = c.steps }

abbrev worker_in : Claim → WorkerView
worker_in c = record { number = c.number; steps = c.steps; met = c.met }

tenants-append : (v w : List Claim) → tenants_in (v ++ w) ≡ tenants_in v ++ tenants_in w
tenants-append v w = ap (map (λ c. part_in c)) (filter-append (is_kind false) v w) ∙ map-append (λ c. part_in c) (claims_of false v) (claims_of false w)

workers-append : (v w : List Claim) → workers_in (v ++ w) ≡ workers_in v ++ workers_in w
workers-append v w = ap (map (λ c. worker_in c)) (filter-append (is_kind true) v w) ∙ map-append (λ c. worker_in c) (claims_of true v) (claims_of true w)

-- a tenant's part more, and a worker's
pub with_tenant : (v w : List Claim) (n : ℕ) (steps : List Done) → w ≡ claim false n steps [] ∷ []
    → gathered (v ++ w) ≡ record { tenants = (gathered v).tenants ++ record { number = n; steps = steps } ∷ []; workers = (gathered v).workers }
with_tenant v w n steps is =
    let t = tenants-append v w ∙ ap (λ l. tenants_in v ++ tenants_in l) is in
    let u = workers-append v w ∙ (ap (λ l. workers_in v ++ workers_in l) is ∙ append-nil (workers_in v)) in
    λ i. record { tenants = t i; workers = u i }

pub with_worker : (v w : List Claim) (n : ℕ) (steps : List Done) (met : List Beginning) → w ≡ claim true n steps met ∷ []
    → gathered (v ++ w) ≡ record { tenants = (gathered v).tenants; workers = (gathered v).workers ++ record { number = n; steps = steps; met = met } ∷ [] }
with_worker v w n steps met is =
    let t = tenants-append v w ∙ (ap (λ l. tenants_in v ++ tenants_in l) is ∙ append-nil (tenants_in v)) in
    let u = workers-append v w ∙ ap (λ l. workers_in v ++ workers_in l) is in
    λ i. record { tenants = t i; workers = u i }

-- ---- at the end

-- the list has of a tenant just the steps of its part
abbrev TellsTenant : List Done → PartView → Type 0
TellsTenant log p = of_tenant p.number log ≡ p.steps

-- of a worker just the steps of its part
abbrev TellsWorker : List Done → WorkerView → Type 0
TellsWorker log p = of_worker p.number log ≡ p.steps

-- what the worker has met are beginnings of the list
abbrev HasMet : List Done → WorkerView → Type 0
HasMet log p = All (IsBeginning log) p.met

told_tenant : (log : List Done) (c : Claim) (cs : List Claim) (b : Bool) → c.of_worker ≡ b → IsRightClaim log c → All (TellsTenant log) (tenants_in cs)
    → All (TellsTenant log) (map part_in (cond (not b) (c ∷ claims_of false cs) (claims_of false cs)))
told_tenant log c cs true is f rest = rest
told_tenant log c cs false is f rest =
    All-cons (TellsTenant log) (part_in c) (tenants_in cs) (subst (λ b. filter (λ (e : Done). cond b (e.worker == c.number) (e.tenant == c.number)) log ≡ c.steps) is f.0) rest

told_worker : (log : List Done) (c : Claim) (cs : List Claim) (b : Bool) → c.of_worker ≡ b → IsRightClaim log c → All (TellsWorker log) (workers_in cs)
    → All (TellsWorker log) (map worker_in (cond b (c ∷ claims_of true cs) (claims_of true cs)))
told_worker log c cs true is f rest =
    All-cons (TellsWorker log) (worker_in c) (workers_in cs) (subst (λ b. filter (λ (e : Done). cond b (e.worker == c.number) (e.tenant == c.number)) log ≡ c.steps) is f.0) rest
told_worker log c cs false is f rest = rest

told_met : (log : List Done) (c : Claim) (cs : List Claim) (b : Bool) → IsRightClaim log c → All (HasMet log) (workers_in cs)
    → All (HasMet log) (map worker_in (cond b (c ∷ claims_of true cs) (claims_of true cs)))
told_met log c cs true f rest = All-cons (HasMet log) (worker_in c) (workers_in cs) f.1 rest
told_met log c cs false f rest = rest

tenants_told : (log : List Done) (v : List Claim) → AllFit log v → All (TellsTenant log) (tenants_in v)
tenants_told log [] f = All-nil (TellsTenant log)
tenants_told log (c ∷ cs) f = told_tenant log c cs c.of_worker refl f.0 (tenants_told log cs f.1)

workers_told : (log : List Done) (v : List Claim) → AllFit log v → All (TellsWorker log) (workers_in v)
workers_told log [] f = All-nil (TellsWorker log)
workers_told log (c ∷ cs) f = told_worker log c cs c.of_worker refl f.0 (workers_told log cs f.1)

met_told : (log : List Done) (v : List Claim) → AllFit log v → All (HasMet log) (workers_in v)
met_told log [] f = All-nil (HasMet log)
met_told log (c ∷ cs) f = told_met log c cs c.of_worker f.0 (met_told log cs f.1)

-- a tenant's parts are counted as the claims are that speak of it
numbered_by : (n : ℕ) (c : Claim) (cs : List Claim) (b : Bool) → c.of_worker ≡ b → parts_numbered n (tenants_in cs) ≡ claim_count false n cs
    → parts_numbered n (tenants_in (c ∷ cs)) ≡ claim_count false n (c ∷ cs)
numbered_by n c cs true is rest =
    let left : parts_numbered n (tenants_in (c ∷ cs)) ≡ parts_numbered n (tenants_in cs)
    = ap (λ (b : Bool). parts_numbered n (map part_in (cond (not b) (c ∷ claims_of false cs) (claims_of false cs)))) is in
    let right : claim_count false n (c ∷ cs) ≡ cond (speaks_of false n c) 1 0 + claim_count false n cs = sum_by-cons (λ x. cond (speaks_of false n x) 1 0) c cs in
    let one : ℕ = cond (speaks_of false n c) 1 0 in
    let none : one ≡ 0 = ap (λ (b : Bool). cond (not b && (c.number == n)) 1 0) is in
    omega (arith, left, right, none, rest)
numbered_by n c cs false is rest =
    let one : ℕ = cond (c.number == n) 1 0 in
    let left : parts_numbered n (tenants_in (c ∷ cs)) ≡ one + parts_numbered n (tenants_in cs)
    = ap (λ (b : Bool). parts_numbered n (map part_in (cond (not b) (c ∷ claims_of false cs) (claims_of false cs)))) is
    ∙ sum_by-cons (λ (p : PartView). cond (p.number == n) 1 0) (part_in c) (tenants_in cs) in
    let right : claim_count false n (c ∷ cs) ≡ cond (speaks_of false n c) 1 0 + claim_count false n cs = sum_by-cons (λ x. cond (speaks_of false n x) 1 0) c cs in
    let own : ℕ = cond (speaks_of false n c) 1 0 in
    let here : own ≡ one = ap (λ (b : Bool). cond (not b && (c.number == n)) 1 0) is in
    omega (arith, left, right, here, rest)

numbered : (n : ℕ) (v : List Claim) → parts_numbered n (tenants_in v) ≡ claim_count false n v
numbered n [] = refl
numbered n (c ∷ cs) = numbered_by n c cs c.of_worker refl (numbered n cs)

-- where the claims are right there is one list
pub one_list : (size : Size) (v : List Claim) → AreOfOneList size v → HaveOneList size (tenants_in v) (workers_in v)
one_list size v t = (
  t.0,
  record {
    tenants = tenants_told t.0 v t.1;
    workers = workers_told t.0 v t.1;
    met = met_told t.0 v t.1;
    others = t.2;
    once = λ n. omega (arith, numbered n v, t.3 false n tt);
  },
)
