-- The answer at the operators' door is what the service answered.
use Rattle.std.proofs.Common.{◌≡◌, ℕ, List, Bool, true, false, Option, Some, None, refl, sym, subst, arith, inl, inr}
use Rattle.std.specs.Prelude.{◌↔◌, ◌⊎◌, ◌^◌, ◌-◌, is_some, Result, Ok, Err}
use Rattle.std.specs.List.{slice_get}
use Rattle.std.specs.Str.{bytes_eq}
use Rattle.common_types.specs.Numerals.{number_in}
use Rattle.common_types.specs.declared.numerals.NumberFault.{NumberFault}
use Rattle.http_link.specs.OperatorDoor.{OperatorWanted, operator_asking}
use Rattle.http_link.specs.declared.operator_request.Topic.{Topic}
use Rattle.http_link.specs.declared.operator_request.Topic.TheVariants.{Setup, Metrics, Statement, Explain}
use Rattle.one_list.specs.declared.run.Run.{Ghosts}
use Rattle.tenant_core.specs.declared.opening.Opening.{Opening}
use Rattle.service.specs.Answering.{operator_token}
use Rattle.service.specs.Operating.{Explains, HasToldOperator, IsExplained, IsHiddenSetup, IsKept, IsTenantMetrics, IsToldOperator, OrMemory, States}
use Rattle.service.specs.Questions.{Question, fault_line, question_in}
use Rattle.service.specs.Served.{tenant_named}
use Rattle.service.specs.declared.office.Office.{Office}
use Rattle.service.specs.declared.operators.asking.Unanswered.{Unanswered}
use Rattle.service.specs.declared.operators.asking.Unanswered.TheVariants as unanswered
use Rattle.service.specs.declared.operators.question.QuestionFault.{QuestionFault}

-- the text of a 200, by the topic
abbrev IsTold : (P M : ℕ → List ℕ → Type 0) → (E : ℕ → Question → List ℕ → Type 0) → Result Question QuestionFault → ℕ → Topic → List ℕ → Type 0
IsTold P M E q tenant Setup text = P tenant text
IsTold P M E q tenant Metrics text = M tenant text
IsTold P M E q tenant Statement text = Unit {0}
IsTold P M E q tenant Explain text = (question : Question) × (q ≡ Ok question) × E tenant question text

-- what `HasToldOperator` says, of any service
record HasTold (P M : ℕ → List ℕ → Type 0) (E : ℕ → Question → List ℕ → Type 0) (q : Result Question QuestionFault) (named : Option ℕ) (mine : ℕ → Bool)
    (topic : Topic) (status : ℕ) (text : List ℕ) : Type 0 where
  refused : status ≡ 401 ↔ ((tenant : ℕ) × (named ≡ Some tenant) × (mine tenant ≡ false))
  unknown : named ≡ None → status ≡ 404
  missing : status ≡ 404 → (named ≡ None) ⊎ (topic ≡ Statement)
  told : status ≡ 200
      → (tenant : ℕ) × (named ≡ Some tenant) × (mine tenant ≡ true) × IsTold P M E q tenant topic text
  why : status ≡ 400
      → (fault : QuestionFault) × (topic ≡ Explain) × (q ≡ Err fault) × (text ≡ fault_line fault)

-- a token that is the operator's is not refused
owned : (named : Option ℕ) (mine : ℕ → Bool) (tenant status : ℕ) → named ≡ Some tenant → mine tenant ≡ true → (status ≡ 401 → ⊥)
    → (status ≡ 401 ↔ ((tenant : ℕ) × (named ≡ Some tenant) × (mine tenant ≡ false)))
owned named mine tenant status known right never =
    ((λ is. absurd (never is)), (λ other. absurd (let same = other.1 in let wrong = other.2 in cc)))

module _ {V : Type 0} (items : V → List ℕ) (P M : ℕ → List ℕ → Type 0) (E : ℕ → Question → List ℕ → Type 0) (mine : ℕ → Bool) (named : Option ℕ) (status : ℕ) (text : List ℕ) where
  nobody : (q : Result Question QuestionFault) (topic : Topic) → named ≡ None → status ≡ 404 → HasTold P M E q named mine topic status text
  nobody q topic none is = record {
    refused = ((λ other. absurd (omega arith)), (λ known. absurd (let other = known.1 in cc)));
    unknown = λ _. is;
    missing = λ _. inl none;
    told = λ other. absurd (omega arith);
    why = λ other. absurd (omega arith);
  }

  stranger : (q : Result Question QuestionFault) (topic : Topic) (tenant : ℕ) → named ≡ Some tenant → mine tenant ≡ false → status ≡ 401 → HasTold P M E q named mine topic status text
  stranger q topic tenant known wrong is = record {
    refused = ((λ _. (tenant, known, wrong)), (λ _. is));
    unknown = λ none. absurd cc;
    missing = λ other. absurd (omega arith);
    told = λ other. absurd (omega arith);
    why = λ other. absurd (omega arith);
  }

  good : (q : Result Question QuestionFault) (topic : Topic) (tenant : ℕ) → named ≡ Some tenant → mine tenant ≡ true → status ≡ 200 → IsTold P M E q tenant topic text
      → HasTold P M E q named mine topic status text
  good q topic tenant known right is tale = record {
    refused = owned named mine tenant status known right (λ other. absurd (omega arith));
    unknown = λ none. absurd cc;
    missing = λ other. absurd (omega arith);
    told = λ _. (tenant, known, right, tale);
    why = λ other. absurd (omega arith);
  }

  short : (q : Result Question QuestionFault) (topic : Topic) (tenant : ℕ) → named ≡ Some tenant → mine tenant ≡ true → status ≡ 503
      → HasTold P M E q named mine topic status text
  short q topic tenant known right is = record {
    refused = owned named mine tenant status known right (λ other. absurd (omega arith));
    unknown = λ none. absurd cc;
    missing = λ other. absurd (omega arith);
    told = λ other. absurd (omega arith);
    why = λ other. absurd (omega arith);
  }

  missing : (q : Result Question QuestionFault) (tenant : ℕ) → named ≡ Some tenant → mine tenant ≡ true → status ≡ 404
      → HasTold P M E q named mine Statement status text
  missing q tenant known right is = record {
    refused = owned named mine tenant status known right (λ other. absurd (omega arith));
    unknown = λ none. absurd cc;
    missing = λ _. inr refl;
    told = λ other. absurd (omega arith);
    why = λ other. absurd (omega arith);
  }

  blamed : (q : Result Question QuestionFault) (tenant : ℕ) (fault : QuestionFault) → named ≡ Some tenant → mine tenant ≡ true → q ≡ Err fault
      → status ≡ 400 → text ≡ fault_line fault → HasTold P M E q named mine Explain status text
  blamed q tenant fault known right bad is line = record {
    refused = owned named mine tenant status known right (λ other. absurd (omega arith));
    unknown = λ none. absurd cc;
    missing = λ other. absurd (omega arith);
    told = λ other. absurd (omega arith);
    why = λ _. (fault, refl, bad, line);
  }

  by_memory : (q : Result Question QuestionFault) (topic : Topic) (tenant : ℕ) (T : List ℕ → Type 0) (result : Result V Unanswered)
      → ((t : List ℕ) → T t → IsTold P M E q tenant topic t)
      → named ≡ Some tenant → mine tenant ≡ true → OrMemory (λ v. T (items v)) result → IsKept items result status text → HasTold P M E q named mine topic status text
  by_memory q topic tenant T (Ok v) tell known right told kept = good q topic tenant known right kept.0 (tell text (subst T (sym kept.1) told))
  by_memory q topic tenant T (Err unanswered.Memory) tell known right told kept = short q topic tenant known right kept
  by_memory q topic tenant T (Err unanswered.Tenant) tell known right told kept = absurd cc
  by_memory q topic tenant T (Err unanswered.Token) tell known right told kept = absurd cc
  by_memory q topic tenant T (Err unanswered.Statement) tell known right told kept = absurd cc
  by_memory q topic tenant T (Err (unanswered.Question fault)) tell known right told kept = absurd cc

  reproached : (q : Result Question QuestionFault) (tenant : ℕ) (fault : QuestionFault) → named ≡ Some tenant → mine tenant ≡ true → q ≡ Err fault
      → (status ≡ 400) × (text ≡ fault_line fault) → HasTold P M E q named mine Explain status text
  reproached q tenant fault known right bad is = blamed q tenant fault known right bad is.0 is.1

  by_question : (q : Result Question QuestionFault) (tenant : ℕ) (result : Result V Unanswered)
      → named ≡ Some tenant → mine tenant ≡ true → Explains q (λ question v. E tenant question (items v)) result → IsKept items result status text
      → HasTold P M E q named mine Explain status text
  by_question (Ok question) tenant result known right told kept = by_memory (Ok question) Explain tenant (E tenant question) result (λ t tale. (question, refl, tale)) known right told kept
  by_question (Err fault) tenant result known right told kept = reproached (Err fault) tenant fault known right refl (subst (λ r. IsKept items r status text) told kept)

  by_period : (q : Result Question QuestionFault) (n : Result ℕ NumberFault) (tenant : ℕ) (result : Result V Unanswered)
      → named ≡ Some tenant → mine tenant ≡ true → States n (λ period v. Unit {0}) result → IsKept items result status text
      → HasTold P M E q named mine Statement status text
  by_period q (Err fault) tenant result known right told kept = missing q tenant known right (subst (λ r. IsKept items r status text) told kept)
  by_period q (Ok period) tenant (Ok v) known right told kept = good q Statement tenant known right kept.0 tt
  by_period q (Ok period) tenant (Err unanswered.Statement) known right told kept = missing q tenant known right kept
  by_period q (Ok period) tenant (Err unanswered.Memory) known right told kept = absurd cc
  by_period q (Ok period) tenant (Err unanswered.Tenant) known right told kept = absurd cc
  by_period q (Ok period) tenant (Err unanswered.Token) known right told kept = absurd cc
  by_period q (Ok period) tenant (Err (unanswered.Question fault)) known right told kept = absurd cc

  by_request : (q : Result Question QuestionFault) (n : Result ℕ NumberFault) (topic : Topic) (tenant : ℕ) (result : Result V Unanswered)
      → named ≡ Some tenant → mine tenant ≡ true
      → (topic ≡ Setup → OrMemory (λ v. P tenant (items v)) result)
      → (topic ≡ Metrics → OrMemory (λ v. M tenant (items v)) result)
      → (topic ≡ Explain → Explains q (λ question v. E tenant question (items v)) result)
      → (topic ≡ Statement → States n (λ period v. Unit {0}) result)
      → IsKept items result status text
      → HasTold P M E q named mine topic status text
  by_request q n Setup tenant result known right setup metrics explain statement kept = by_memory q Setup tenant (P tenant) result (λ t tale. tale) known right (setup refl) kept
  by_request q n Metrics tenant result known right setup metrics explain statement kept = by_memory q Metrics tenant (M tenant) result (λ t tale. tale) known right (metrics refl) kept
  by_request q n Explain tenant result known right setup metrics explain statement kept = by_question q tenant result known right (explain refl) kept
  by_request q n Statement tenant result known right setup metrics explain statement kept = by_period q n tenant result known right (statement refl) kept

  answered : (q : Result Question QuestionFault) (n : Result ℕ NumberFault) (topic : Topic) (result : Result V Unanswered)
      → (result ≡ Err unanswered.Tenant ↔ named ≡ None)
      → ((tenant : ℕ) → named ≡ Some tenant → (result ≡ Err unanswered.Token ↔ mine tenant ≡ false))
      → ((tenant : ℕ) → named ≡ Some tenant → topic ≡ Setup → mine tenant ≡ true → OrMemory (λ v. P tenant (items v)) result)
      → ((tenant : ℕ) → named ≡ Some tenant → topic ≡ Metrics → mine tenant ≡ true → OrMemory (λ v. M tenant (items v)) result)
      → ((tenant : ℕ) → named ≡ Some tenant → topic ≡ Explain → mine tenant ≡ true → Explains q (λ question v. E tenant question (items v)) result)
      → ((tenant : ℕ) → named ≡ Some tenant → topic ≡ Statement → mine tenant ≡ true → States n (λ period v. Unit {0}) result)
      → IsKept items result status text
      → HasTold P M E q named mine topic status text
  answered q n topic result unknown refused setup metrics explain statement kept = by named refl
    where
      shown : (tenant : ℕ) → named ≡ Some tenant → (b : Bool) → mine tenant ≡ b → HasTold P M E q named mine topic status text
      shown tenant known false wrong = stranger q topic tenant known wrong (subst (λ r. IsKept items r status text) ((refused tenant known).1 wrong) kept)
      shown tenant known true right = by_request q n topic tenant result known right (λ is. setup tenant known is right) (λ is. metrics tenant known is right)
          (λ is. explain tenant known is right) (λ is. statement tenant known is right) kept

      by : (o : Option ℕ) → named ≡ o → HasTold P M E q named mine topic status text
      by None none = nobody q topic none (subst (λ r. IsKept items r status text) (unknown.1 none) kept)
      by (Some tenant) known = shown tenant known (mine tenant) refl

module _ {J : Type 0} {r : Ghosts J} (openings : List Opening) (Gives : ℕ → Type 0) (office : Office J r) (words : List ℕ) where
  same_told : (tenant : ℕ) (topic : Topic) (text : List ℕ)
      → IsTold (IsHiddenSetup openings office) (IsTenantMetrics openings office)
      (IsExplained openings Gives office) (question_in words) tenant topic text
      → IsToldOperator openings Gives office tenant words topic text
  same_told tenant Setup text told = told
  same_told tenant Metrics text told = told
  same_told tenant Statement text told = told
  same_told tenant Explain text told = told

pub operator_answered : {J V : Type 0} {r : Ghosts J} (openings : List Opening) (Gives : ℕ → Type 0) (office : Office J r) (wanted : OperatorWanted) (topic : Topic)
    (items : V → List ℕ) (result : Result V Unanswered) (status : ℕ) (text : List ℕ)
    → (result ≡ Err unanswered.Tenant ↔ tenant_named office.names.items wanted.tenant ≡ None)
    → ((tenant : ℕ) → tenant_named office.names.items wanted.tenant ≡ Some tenant
    → (result ≡ Err unanswered.Token ↔ bytes_eq (operator_token office tenant) wanted.token ≡ false))
    → ((tenant : ℕ) → tenant_named office.names.items wanted.tenant ≡ Some tenant → topic ≡ Setup
    → bytes_eq (operator_token office tenant) wanted.token ≡ true → OrMemory (λ v. IsHiddenSetup openings office tenant (items v)) result)
    → ((tenant : ℕ) → tenant_named office.names.items wanted.tenant ≡ Some tenant → topic ≡ Metrics
    → bytes_eq (operator_token office tenant) wanted.token ≡ true
    → OrMemory (λ v. IsTenantMetrics openings office tenant (items v)) result)
    → ((tenant : ℕ) → tenant_named office.names.items wanted.tenant ≡ Some tenant → topic ≡ Explain
    → bytes_eq (operator_token office tenant) wanted.token ≡ true
    → Explains (question_in wanted.words) (λ question v. IsExplained openings Gives office tenant question (items v)) result)
    → ((tenant : ℕ) → tenant_named office.names.items wanted.tenant ≡ Some tenant → topic ≡ Statement
    → bytes_eq (operator_token office tenant) wanted.token ≡ true
    → States (number_in 0 (2 ^ 64 - 1) wanted.words) (λ period v. Unit {0}) result)
    → IsKept items result status text
    → (body : List ℕ) → HasToldOperator openings Gives office topic (operator_asking wanted body status) text
operator_answered openings Gives office wanted topic items result status text unknown refused setup metrics explain statement kept body =
    let named = tenant_named office.names.items wanted.tenant in
    let h : HasTold (IsHiddenSetup openings office) (IsTenantMetrics openings office)
    (IsExplained openings Gives office) (question_in wanted.words) named (λ tenant. bytes_eq (operator_token office tenant) wanted.token) topic status text
    = answered items (IsHiddenSetup openings office) (IsTenantMetrics openings office)
    (IsExplained openings Gives office) (λ tenant. bytes_eq (operator_token office tenant) wanted.token) named status text (question_in wanted.words)
    (number_in 0 (2 ^ 64 - 1) wanted.words) topic result unknown refused setup metrics explain statement kept in
    record {
      refused = h.refused;
      unknown = h.unknown;
      missing = h.missing;
      told = λ good. let known = h.told good in (known.0, known.1, known.2, same_told openings Gives office wanted.words known.0 topic text known.3);
      why = h.why;
    }

-- a statement that is given, whatever its text
pub stated : {V : Type 0} (n : Result ℕ NumberFault) (P : ℕ → V → Type 0) (result : Result V Unanswered) → States n P result → States n (λ period v. Unit {0}) result
stated (Ok period) P (Ok v) told = tt
stated (Ok period) P (Err fault) told = told
stated (Err fault) P result told = told
