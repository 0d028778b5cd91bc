-- The answers at the operators' door, and the commands that come there.
use Rattle.std.specs.Prelude.{ℕ, ◌≡◌, ◌↔◌, ◌⊎◌, true, false, Bool, if◌then◌else◌, List, [], ◌∷◌, ◌++◌, codes, Option, Some, None, is_some, Result, Ok, Err}
use Rattle.std.specs.List.{slice_get}
use Rattle.std.specs.Str.{bytes_eq}
use Rattle.books_shared.specs.Traced.{IsLedTo}
use Rattle.common_types.specs.declared.numerals.NumberFault.{NumberFault}
use Rattle.admin_text.specs.Commands.{command_in}
use Rattle.admin_text.specs.declared.commands.TextFault.{TextFault}
use Rattle.admin_text.specs.declared.commands.TextFault.TheVariants as text_fault
use Rattle.http_link.specs.OperatorDoor.{IsOperatorAskedBy, OperatorAsked, OperatorWanted}
use Rattle.http_link.specs.Serving.{Asked}
use Rattle.http_link.specs.declared.operator_request.OperatorRequest.{OperatorRequest}
use Rattle.http_link.specs.declared.operator_request.OperatorRequest.TheVariants.{Ask, Command}
use Rattle.http_link.specs.declared.operator_request.Topic.{Topic}
use Rattle.http_link.specs.declared.operator_request.Topic.TheVariants.{Setup, Metrics, Statement, Explain}
use Rattle.http_link.specs.declared.request.RequestKind.TheVariants.{Admin}
use Rattle.one_list.specs.declared.run.Run.{Ghosts}
use Rattle.one_list.specs.declared.step.Done.{Done}
use Rattle.tenant_core.specs.State.{State}
use Rattle.tenant_core.specs.declared.opening.Opening.{Opening}
use Rattle.service.specs.Answering.{HasAnswered, IsNewDesk, command_line, operator_token}
use Rattle.service.specs.Explaining.{explanation}
use Rattle.service.specs.Hidden.{hidden_text}
use Rattle.service.specs.Hosting.{Repeats}
use Rattle.service.specs.Journal.{IsKeptOf}
use Rattle.service.specs.Metrics.{ArePacketsOf, IsBookOf, statements_text, tenants_text}
use Rattle.service.specs.PeerMetrics.{IsPeersText}
use Rattle.service.specs.Presence.{IsTenantText}
use Rattle.service.specs.Questions.{Question, fault_line, question_in}
use Rattle.service.specs.Served.{tenant_named, told_text}
use Rattle.service.specs.declared.host.metrics.TenantCounts.{TenantCounts}
use Rattle.service.specs.declared.office.Office.{Office}
use Rattle.service.specs.declared.operators.answering.LastAnswer.{LastAnswer}
use Rattle.service.specs.declared.operators.answering.LastAnswer.TheVariants.{ByDesk, Line, Text}
use Rattle.service.specs.declared.operators.asking.Unanswered.{Unanswered}
use Rattle.service.specs.declared.operators.asking.Unanswered.TheVariants as unanswered
use Rattle.service.specs.declared.operators.question.QuestionFault.{QuestionFault}
use Rattle.service.specs.declared.worker.desk.Desk.{Desk}

-- ---- by topic

-- the answer is such a one, unless an allocation fails
abbrev pub OrMemory : {V : Type 0} → (V → Type 0) → Result V Unanswered → Type 0
OrMemory Told (Ok value) = Told value
OrMemory Told (Err fault) = fault ≡ unanswered.Memory

-- the answer is such a one, or there is no such statement
abbrev pub OrMissing : {V : Type 0} → (V → Type 0) → Result V Unanswered → Type 0
OrMissing Told (Ok value) = Told value
OrMissing Told (Err fault) = fault ≡ unanswered.Statement

-- A question gets such an answer, unless an allocation fails. Words that are not a question get their fault.
abbrev pub Explains : {V : Type 0} → Result Question QuestionFault → (Question → V → Type 0) → Result V Unanswered → Type 0
Explains (Ok question) Told result = OrMemory (Told question) result
Explains (Err fault) Told result = result ≡ Err (unanswered.Question fault)

-- The number of a period gets such a statement, if there is one. Words that are not a number name no statement.
abbrev pub States : {V : Type 0} → Result ℕ NumberFault → (ℕ → V → Type 0) → Result V Unanswered → Type 0
States (Ok period) Told result = OrMissing (Told period) result
States (Err fault) Told result = result ≡ Err unanswered.Statement

-- the bytes of the last answer: a text of its own, a line, or what the desk told of a command
abbrev pub told_at : {J : Type 0} {r : Ghosts J} → LastAnswer → Desk J r → List ℕ
told_at (Text text) desk = text.items
told_at (Line line) desk = line.now
told_at ByDesk desk = told_text desk.told desk.slot.reply desk.printed.items

-- the status of an answer, and the text that is kept of it
abbrev pub IsKept : {V : Type 0} → (V → List ℕ) → Result V Unanswered → (status : ℕ) → (text : List ℕ) → Type 0
IsKept items (Ok value) status text = (status ≡ 200) × (text ≡ items value)
IsKept items (Err (unanswered.Question fault)) status text = (status ≡ 400) × (text ≡ fault_line fault)
IsKept items (Err unanswered.Token) status text = status ≡ 401
IsKept items (Err unanswered.Tenant) status text = status ≡ 404
IsKept items (Err unanswered.Statement) status text = status ≡ 404
IsKept items (Err unanswered.Memory) status text = status ≡ 503

-- ---- of a service

-- the setup of one tenant, as its book was at some moment, with its tokens hidden
abbrev pub IsHiddenSetup : {J : Type 0} {r : Ghosts J} → List Opening → Office J r → ℕ → List ℕ → Type 0
IsHiddenSetup openings office tenant text = (whole : List ℕ) × IsTenantText openings office tenant whole × (text ≡ hidden_text whole)

-- the metrics of one tenant, by its own book and packets: its rows of the host's metrics, also those of statements if some are
-- kept, and those of its peers
abbrev pub IsTenantMetrics : {J : Type 0} {r : Ghosts J} → List Opening → Office J r → (tenant : ℕ) → List ℕ → Type 0
IsTenantMetrics openings office tenant text =
    (counts : TenantCounts) × (slice_get office.names.items tenant ≡ Some counts.name.now) × IsBookOf tenant counts.book × ArePacketsOf openings tenant counts.packets
    × (peers : List ℕ) × IsPeersText openings office tenant counts.name.now peers
    × (text ≡ (tenants_text (counts ∷ []) ++ statements_text (is_some office.filing) (counts ∷ [])) ++ peers)

-- the explanation of a packet by the tenant's book as it was at some moment, all records of which are kept, and by a moment that the
-- clock gave
pub record IsExplained {J : Type 0} {r : Ghosts J} (openings : List Opening) (Gives : ℕ → Type 0) (office : Office J r) (tenant : ℕ) (question : Question)
    (text : List ℕ) : Type 0 where
  pub book : State
  pub steps : List Done
  pub own : book.opening.tenant ≡ tenant
  pub led : IsLedTo openings book steps
  pub now : ℕ
  pub given : Gives now
  pub kept : IsKeptOf openings office book
  pub told : text ≡ explanation book question now

-- the text of a 200 about a tenant
abbrev pub IsToldOperator : {J : Type 0} {r : Ghosts J} → List Opening → (ℕ → Type 0) → Office J r → ℕ → List ℕ → Topic → List ℕ → Type 0
IsToldOperator openings Gives office tenant words Setup text = IsHiddenSetup openings office tenant text
IsToldOperator openings Gives office tenant words Metrics text = IsTenantMetrics openings office tenant text
IsToldOperator openings Gives office tenant words Statement text = Unit {0}
IsToldOperator openings Gives office tenant words Explain text =
    (question : Question) × (question_in words ≡ Ok question) × IsExplained openings Gives office tenant question text

-- A request is refused with 401 exactly if its name is a tenant's and its token not that tenant's. An unknown name is refused with
-- 404. So is a request for a statement that is not there, and no other. The text of a 200 is about the tenant of that name, whose
-- token was shown, and of the requested kind. That of a 400 says why the words are not a question.
pub record HasToldOperator {J : Type 0} {r : Ghosts J} (openings : List Opening) (Gives : ℕ → Type 0) (office : Office J r) (topic : Topic) (asked : OperatorAsked)
    (text : List ℕ) : Type 0 where
  pub refused : asked.status ≡ 401
      ↔ ((tenant : ℕ) × (tenant_named office.names.items asked.wanted.tenant ≡ Some tenant)
      × (bytes_eq (operator_token office tenant) asked.wanted.token ≡ false))
  pub unknown : tenant_named office.names.items asked.wanted.tenant ≡ None → asked.status ≡ 404
  pub missing : asked.status ≡ 404
      → (tenant_named office.names.items asked.wanted.tenant ≡ None) ⊎ (topic ≡ Statement)
  pub told : asked.status ≡ 200
      → (tenant : ℕ) × (tenant_named office.names.items asked.wanted.tenant ≡ Some tenant)
      × (bytes_eq (operator_token office tenant) asked.wanted.token ≡ true)
      × IsToldOperator openings Gives office tenant asked.wanted.words topic text
  pub why : asked.status ≡ 400
      → (fault : QuestionFault) × (topic ≡ Explain) × (question_in asked.wanted.words ≡ Err fault)
      × (text ≡ fault_line fault)

-- the status that turns a request away by its head: 404 for a name that is no tenant's, 401 for another token than its operator's
abbrev pub refusal_at : {J : Type 0} {r : Ghosts J} → Office J r → OperatorWanted → Option ℕ → Option ℕ
refusal_at office wanted None = Some 404
refusal_at office wanted (Some tenant) = if bytes_eq (operator_token office tenant) wanted.token then None else Some 401

abbrev pub operator_refusal : {J : Type 0} {r : Ghosts J} → Office J r → OperatorWanted → Option ℕ
operator_refusal office wanted = refusal_at office wanted (tenant_named office.names.items wanted.tenant)

-- ---- commands

-- the line that says why a body is not a command
abbrev pub command_fault_line : TextFault → List ℕ
command_fault_line text_fault.Verb =
    codes "command: its first word or two must be peer add, peer remove, peer limits, peer bucket, route add, route remove, rate set, settle in, settle out, balances or roll\n"
command_fault_line text_fault.Argument =
    codes "command: a word is missing, malformed or one too many, or both peers of a rate are the same\n"
command_fault_line text_fault.Range = codes "command: a number is outside its limits\n"

-- a command for a tenant, as a question
abbrev pub order_of : OperatorAsked → ℕ → Asked
order_of asked tenant =
    record { kind = Admin; tenant = tenant; token = asked.wanted.token; body = asked.body; status = asked.status }

-- the text of a 200 is what the command printed; that of a 400 says why the body is not a command
pub record IsReported {J : Type 0} {r : Ghosts J} (asked : OperatorAsked) (after : Desk J r) (text : List ℕ) : Type 0 where
  pub told : asked.status ≡ 200 → text ≡ after.printed.items
  pub why : asked.status ≡ 400
      → (fault : TextFault) × (command_in (command_line asked.body) ≡ Err fault) × (text ≡ command_fault_line fault)

-- a command for a tenant is answered as a worker answers it; an unknown name is refused with 404
abbrev pub IsCommanded : {J : Type 0} {r : Ghosts J} → (Gives : ℕ → Type 0) → Office J r → Option ℕ → Desk J r → OperatorAsked → List ℕ → Desk J r → Type 0
IsCommanded Gives office None before asked text after = (asked.status ≡ 404) × (after ≡ before)
IsCommanded Gives office (Some tenant) before asked text after =
    HasAnswered Gives office before (order_of asked tenant) after × IsReported asked after text

-- what a request does to the desk, and the text of its answer: a question leaves the desk as it is
abbrev pub IsOperated : {J : Type 0} {r : Ghosts J} → (Gives : ℕ → Type 0) → Office J r → OperatorRequest → Desk J r → OperatorAsked → List ℕ → Desk J r → Type 0
IsOperated Gives office Command before asked text after =
    IsCommanded Gives office (tenant_named office.names.items asked.wanted.tenant) before asked text after
IsOperated {J} {r} Gives office (Ask topic) before asked text after =
    (after ≡ before) × HasToldOperator r.openings Gives office topic asked text

-- bytes that came at the door are a whole request, whose head is not turned away, and it was answered
pub record HasVisited {J : Type 0} {r : Ghosts J} (Gives : ℕ → Type 0) (office : Office J r) (before after : Desk J r) : Type 0 where
  pub came : List ℕ
  pub asked : OperatorAsked
  pub by : IsOperatorAskedBy (operator_refusal office) came asked
  pub text : List ℕ
  pub told : IsOperated Gives office asked.wanted.request before asked text after

-- a desk after the requests of some connections at the door, one each: it has answered those, and no others
abbrev pub HasOperated : {J : Type 0} {r : Ghosts J} → (Gives : ℕ → Type 0) → Office J r → Desk J r → Desk J r → Type 0
HasOperated Gives office before after = Repeats (HasVisited Gives office) before after

-- the desk of who answers operators, if anyone does, after its requests
abbrev pub HaveOperated : {J : Type 0} {r : Ghosts J} → (Gives : ℕ → Type 0) → Office J r → Option (Desk J r) → Option (Desk J r) → Type 0
HaveOperated Gives office None after = after ≡ None
HaveOperated {J} {r} Gives office (Some before) after =
    (desk : Desk J r) × (after ≡ Some desk) × HasOperated Gives office before desk

-- a desk that the requests of operators left
pub record HasObeyed {J : Type 0} {r : Ghosts J} (Gives : ℕ → Type 0) (office : Office J r) (desk : Desk J r) : Type 0 where
  pub new : Desk J r
  pub is_new : IsNewDesk new
  pub operated : HasOperated Gives office new desk
