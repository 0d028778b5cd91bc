-- What a worker answers to a question, what it counts with it, and what connections leave of a worker.
use Rattle.std.specs.Prelude.{ℕ, ◌≡◌, ◌≢◌, ◌+◌, ◌-◌, ◌==◌, ◌⊎◌, ◌↔◌, true, false, Bool, List, [], ◌∷◌, length, take, map, nat_lt}
use Rattle.std.specs.Prelude.{slice_index_or, if◌then◌else◌, Option, Some, None, Result, Ok, Err, IfOk, is_ok}
use Rattle.std.specs.List.{flat_map}
use Rattle.std.specs.Prelude.{All}
use Rattle.std.specs.Str.{bytes_eq}
use Rattle.std.specs.Io.KnownBytes.{Consumes}
use Rattle.common_types.specs.Token.{is_token}
use Rattle.ilp_view.specs.Reading.{prepare_at}
use Rattle.tenant_core.specs.declared.command.Answered.{Answered}
use Rattle.tenant_core.specs.declared.command.Command.{Command}
use Rattle.tenant_core.specs.declared.faults.CommandFault.{CommandFault}
use Rattle.tenant_core.specs.declared.faults.CommandFault.TheVariants.{Memory}
use Rattle.meters.specs.Seats.{count_of}
use Rattle.meters.specs.declared.kind.Kind as meter
use Rattle.one_list.specs.declared.run.Run.{Ghosts}
use Rattle.books_shared.specs.Shares.{ShareView, fresh, is_spent}
use Rattle.floor_core.specs.Work.{loaded}
use Rattle.floor_core.specs.declared.parts.Got.{Got}
use Rattle.workers.specs.Carrying.{IsCarried, IsDone, growth}
use Rattle.workers.specs.Counting.{IsSpent, command_kind, reply_tallied, tallied}
use Rattle.workers.specs.Replies.{http_code, sends_of, status_of}
use Rattle.workers.specs.declared.governing.GovernFault.{GovernFault}
use Rattle.workers.specs.declared.governing.GovernFault.TheVariants.{Spent, NoRoom, Stray, Unkept, Refused}
use Rattle.workers.specs.declared.governing.GovernFault.TheVariants as govern
use Rattle.workers.specs.declared.reply.Reply.{Reply}
use Rattle.workers.specs.declared.reply.Reply.TheVariants.{Nameless, Malformed}
use Rattle.workers.specs.declared.reply.Reply.TheVariants as replies
use Rattle.workers.specs.declared.reply.Status.{Status}
use Rattle.workers.specs.declared.reply.Status.TheVariants as status
use Rattle.admin_text.specs.Commands.{command_in}
use Rattle.admin_text.specs.declared.setup.Setup.{Setup}
use Rattle.admin_text.specs.declared.commands.TextFault.{TextFault}
use Rattle.output_text.specs.Printed.{answer_lines, tenant_name}
use Rattle.http_link.specs.Connections.{AreAskedBy, IsConnectionOver}
use Rattle.http_link.specs.Serving.{Asked}
use Rattle.http_link.specs.declared.request.RequestKind.{RequestKind}
use Rattle.http_link.specs.declared.request.RequestKind.TheVariants.{Ilp, Admin}
use Rattle.http_link.specs.declared.serve.Served.TheVariants as served
use Rattle.http_link.specs.declared.streams.LinkFault.{LinkFault}
use Rattle.service.specs.declared.worker.desk.Desk.{Desk}
use Rattle.service.specs.declared.office.Office.{Office}
use Rattle.service.specs.declared.worker.Over.{Over}
use Rattle.service.specs.declared.worker.Over.TheVariants.{Ended, Closed, Yielded}
use Rattle.service.specs.Journal.{in_office}
use Rattle.service.specs.Served.{tenant_named}
use Rattle.service.specs.Rolling.{IsTidied, IsUntouched}

-- ---- a packet

-- A packet was carried by the book of its tenant, counted at the meters, and answered with the status of its reply.
-- The books' share has grown by each call of the book. It counts what the book did. Each record that the book made is
-- the next step of the worker's part of the one list, and that part has no other new step.
--
-- A malformed token and a frame that is not a Prepare get no further. Nothing does if no more may be counted or sent,
-- or if an audited run is out of memory for receipts. Books were asked at moments that the clock gave, and steps led
-- to them from the run's openings. Nothing leaves unless what led to it is kept, where a journal is. If workers answer only packets that they sent on themselves, none is lost: its
-- answer is settled.
pub record WasCarried {J : Type 0} {r : Ghosts J} (Gives : ℕ → Type 0) (office : Office J r) (before : Desk J r) (tenant : ℕ) (token frame : List ℕ) (told : Status)
    (after : Desk J r) : Type 0 where
  pub reply : Reply
  pub status : told ≡ status_of reply
  pub nameless : reply ≡ Nameless ↔ is_token token ≡ false
  pub malformed : reply ≡ Malformed ↔ (is_token token ≡ true) × (is_ok (prepare_at frame) ≡ false)
  pub spent : reply ≡ replies.Spent ↔ (is_token token ≡ true) × (is_ok (prepare_at frame) ≡ true)
      × IsSpent before.share before.sent
  pub memory : reply ≡ replies.Memory → before.share.audited ≡ true
  pub sure : (got : Got) → r.own ≡ true → reply ≢ replies.Lost got
  pub sent : after.sent ≡ before.sent + sends_of reply
  pub carried : IsCarried (in_office Gives office) reply (growth tenant before.share after.share)
      (loaded before.slot tenant token frame) after.slot (λ sending. Unit {0})
  pub metered : after.seat ≡ reply_tallied tenant reply before.seat

-- ---- a command

-- the command in a body, which a line feed may end
abbrev pub command_line : List ℕ → List ℕ
command_line body = if slice_index_or body (length body - 1) 0 == 10 then take (length body - 1) body else body

-- a command's answer is printed in its lines (200), unless it is out of memory for them (503)
abbrev pub IsPrinted : {J : Type 0} {r : Ghosts J} → Office J r → ℕ → Result Answered CommandFault → Status → List ℕ → Type 0
IsPrinted office tenant answer told printed =
    ((told ≡ status.Answered) × (printed ≡ answer_lines (tenant_name office.names.items tenant) answer))
    ⊎ (told ≡ status.Unavailable)

-- what the tenant's book answers or refuses is printed; any other fault is a 503
abbrev pub IsCommandAnswer : {J : Type 0} {r : Ghosts J} → Office J r → ℕ → Result Answered GovernFault → Status → List ℕ → Type 0
IsCommandAnswer office tenant (Ok answered) told printed = IsPrinted office tenant (Ok answered) told printed
IsCommandAnswer office tenant (Err Spent) told printed = told ≡ status.Unavailable
IsCommandAnswer office tenant (Err govern.Memory) told printed = told ≡ status.Unavailable
IsCommandAnswer office tenant (Err NoRoom) told printed = told ≡ status.Unavailable
IsCommandAnswer office tenant (Err Stray) told printed = told ≡ status.Unavailable
IsCommandAnswer office tenant (Err Unkept) told printed = told ≡ status.Unavailable
IsCommandAnswer office tenant (Err (Refused Memory)) told printed = told ≡ status.Unavailable
IsCommandAnswer office tenant (Err (Refused fault)) told printed = IsPrinted office tenant (Err fault) told printed

-- A command was done or refused by the book of the tenant, counted at the meters, and answered. The books' share has
-- grown by it: the book's record is the next step of the worker's part of the one list, and that part has no other new
-- step.
--
-- No book was asked if no more may be counted, or if an audited run is out of memory for the receipt. Otherwise one
-- was asked, at a moment that the clock gave, and steps led to it from the run's openings.
pub record WasGoverned {J : Type 0} {r : Ghosts J} (Gives : ℕ → Type 0) (office : Office J r) (before : Desk J r) (tenant : ℕ) (given : Command) (told : Status)
    (after : Desk J r) : Type 0 where
  pub answer : Result Answered GovernFault
  pub spent : answer ≡ Err Spent ↔ is_spent before.share ≡ true
  pub memory : answer ≡ Err govern.Memory → before.share.audited ≡ true
  pub done : IsDone (in_office Gives office) answer (growth tenant before.share after.share) given
  pub metered : after.seat ≡ tallied tenant (command_kind answer) before.seat
  pub slot : after.slot ≡ before.slot
  pub sent : after.sent ≡ before.sent
  pub told_so : IsCommandAnswer office tenant answer told after.printed.items

-- the status of a command that was obeyed, or whose text has a fault
abbrev pub obeyed_status : Result Status TextFault → Status
obeyed_status (Ok told) = told
obeyed_status (Err fault) = status.Malformed

-- A text that spells a command is done, and any other is malformed (400). If it is out of memory to read it, nothing
-- happens (503).
abbrev pub WasObeyed : {J : Type 0} {r : Ghosts J} → (Gives : ℕ → Type 0) → Result Command TextFault → Office J r → Desk J r → ℕ → Status → Desk J r → Type 0
WasObeyed Gives (Ok given) office before tenant told after =
    WasGoverned Gives office before tenant given told after ⊎ ((told ≡ status.Unavailable) × IsUntouched before after)
WasObeyed Gives (Err fault) office before tenant told after =
    ((told ≡ status.Malformed) ⊎ (told ≡ status.Unavailable)) × IsUntouched before after

-- ---- a question

-- the token of a tenant's operator
abbrev pub operator_token : {J : Type 0} {r : Ghosts J} → Office J r → ℕ → List ℕ
operator_token office tenant = (slice_index_or office.terms.items tenant (record { admin = []; hold = 0 })).admin

-- the tenant, if there is one and that is its operator's token
abbrev pub operator_by : {J : Type 0} {r : Ghosts J} → Office J r → (shown : List ℕ) → Option ℕ → Option ℕ
operator_by office shown None = None
operator_by office shown (Some tenant) = if bytes_eq (operator_token office tenant) shown then Some tenant else None

-- a packet of a tenant that is there is carried; then the tenant's period is closed if the service closes ripe ones and it is ripe
abbrev pub WasAskedPacket : {J : Type 0} {r : Ghosts J} → (Gives : ℕ → Type 0) → Bool → Office J r → Asked → Desk J r → Status → Desk J r → Type 0
WasAskedPacket {J} {r} Gives true office asked before told after =
    (between : Desk J r) × WasCarried Gives office before asked.tenant asked.token asked.body told between
    × IsTidied Gives office.roll_at office between asked.tenant after
WasAskedPacket Gives false office asked before told after = (told ≡ status.Unavailable) × IsUntouched before after

-- a command under the operator's token is obeyed, one under another is not (401)
abbrev pub WasAskedCommand : {J : Type 0} {r : Ghosts J} → (Gives : ℕ → Type 0) → Bool → Office J r → Asked → Desk J r → Status → Desk J r → Type 0
WasAskedCommand Gives true office asked before told after =
    WasObeyed Gives (command_in (command_line asked.body)) office before asked.tenant told after
WasAskedCommand Gives false office asked before told after = (told ≡ status.Unauthorized) × IsUntouched before after

-- a command for a tenant that is there
abbrev pub WasOrdered : {J : Type 0} {r : Ghosts J} → (Gives : ℕ → Type 0) → Bool → Office J r → Asked → Desk J r → Status → Desk J r → Type 0
WasOrdered Gives true office asked before told after =
    WasAskedCommand Gives (bytes_eq (operator_token office asked.tenant) asked.token) office asked before told after
WasOrdered Gives false office asked before told after = (told ≡ status.Unavailable) × IsUntouched before after

-- what is asked, by its kind
abbrev pub WasAsked : {J : Type 0} {r : Ghosts J} → (Gives : ℕ → Type 0) → RequestKind → Office J r → Asked → Desk J r → Status → Desk J r → Type 0
WasAsked Gives Ilp office asked before told after =
    WasAskedPacket Gives (nat_lt asked.tenant office.books.tenants) office asked before told after
WasAsked Gives Admin office asked before told after =
    WasOrdered Gives (nat_lt asked.tenant office.books.tenants) office asked before told after

-- a question was answered with that status, and the text of a 200 is of the question's kind
pub record HasAnswered {J : Type 0} {r : Ghosts J} (Gives : ℕ → Type 0) (office : Office J r) (before : Desk J r) (asked : Asked) (after : Desk J r) : Type 0 where
  pub told : Status
  pub code : asked.status ≡ http_code told
  pub kind : after.told ≡ asked.kind
  pub so : WasAsked Gives asked.kind office asked before told after

-- ---- many questions

-- what questions leave of a desk, the latest first
abbrev pub HasAnsweredAll : {J : Type 0} {r : Ghosts J} → (Gives : ℕ → Type 0) → Office J r → Desk J r → List Asked → Desk J r → Type 0
HasAnsweredAll Gives office before [] after = after ≡ before
HasAnsweredAll {J} {r} Gives office before (asked ∷ earlier) after =
    (desk : Desk J r) × HasAnsweredAll Gives office before earlier desk × HasAnswered Gives office desk asked after

-- ---- connections

-- the bytes that came on a connection, and the questions that they asked, the latest first
pub record Connection : Type 0 where
  pub came : List ℕ
  pub questions : List Asked

-- the tenants of an office, by name, that take requests of a kind where packets come: commands only if the service takes them there
abbrev pub tenants_of : {J : Type 0} {r : Ghosts J} → Office J r → RequestKind → List ℕ → Option ℕ
tenants_of office Ilp name = tenant_named office.names.items name
tenants_of office Admin name = if office.admin then tenant_named office.names.items name else None

-- How a connection with these bytes left ended. No more bytes came; or its last request closed it, or the next one was
-- turned away; or it gave way, and no byte that was read is left.
abbrev pub HasEnded : (RequestKind → List ℕ → Option ℕ) → Over → (left : List ℕ) → (last : Bool) → Option (List ℕ) → Type 0
HasEnded tenant_of Ended left last known = IsConnectionOver tenant_of served.Ended left last known
HasEnded tenant_of Closed left last known = IsConnectionOver tenant_of served.Closed left last known
HasEnded tenant_of Yielded left last known = left ≡ []

-- What was heard on a connection: its requests were answered in their order, none passed over and none after the last
-- one. If no device failed, all that came was taken, up to its end.
pub record HasHeard {J : Type 0} {r : Ghosts J} (Gives : ℕ → Type 0) (office : Office J r) (before : Desk J r) (old new : Option (List ℕ))
    (result : Result Over LinkFault) (after : Desk J r) : Type 0 where
  pub connection : Connection
  pub left : List ℕ
  pub last : Bool
  pub asked : AreAskedBy (tenants_of office) connection.came connection.questions left last
  pub answered : HasAnsweredAll Gives office before connection.questions after
  pub taken : IfOk result (λ over. Consumes old new connection.came)
  pub over : IfOk result (λ over. HasEnded (tenants_of office) over left last new)

-- the questions of a connection are those of its requests, in their order, none passed over and none after the last
-- one
abbrev pub IsAsked : {J : Type 0} {r : Ghosts J} → Office J r → Connection → Type 0
IsAsked office connection =
    (left : List ℕ) × (last : Bool) × AreAskedBy (tenants_of office) connection.came connection.questions left last

-- a desk after some connections, the latest first: it has answered the questions of each, and no others
pub record HasServed {J : Type 0} {r : Ghosts J} (Gives : ℕ → Type 0) (office : Office J r) (before after : Desk J r) : Type 0 where
  pub connections : List Connection
  pub asked : All (IsAsked office) connections
  pub left : HasAnsweredAll Gives office before (flat_map (λ connection. connection.questions) connections) after

-- ---- a service

-- a share in which nothing is counted
abbrev pub IsUncounted : ShareView → Type 0
IsUncounted share = (audited : Bool) × (worker : ℕ) × (share ≡ fresh audited worker)

-- a desk at which nothing was asked: its worker has counted nothing
pub record IsNewDesk {J : Type 0} {r : Ghosts J} (desk : Desk J r) : Type 0 where
  pub share : IsUncounted desk.share
  pub seat : (tenant : ℕ) (kind : meter.Kind) → count_of tenant kind desk.seat ≡ 0

-- a desk that its connections left
pub record HasWorked {J : Type 0} {r : Ghosts J} (Gives : ℕ → Type 0) (office : Office J r) (desk : Desk J r) : Type 0 where
  pub new : Desk J r
  pub is_new : IsNewDesk new
  pub served : HasServed Gives office new desk

-- what a service knows of the tenants of a setup: their names, the tokens of their operators, and for how long each
-- holds a packet at most. Each has a book
pub record IsOfficeOf {J : Type 0} {r : Ghosts J} (setup : Setup) (office : Office J r) : Type 0 where
  pub names : office.names.items ≡ map (λ t. t.name) setup.tenants
  pub operators : map (λ terms. terms.admin) office.terms.items ≡ map (λ t. t.admin) setup.tenants
  pub holds : map (λ terms. terms.hold) office.terms.items ≡ map (λ t. t.hold) setup.tenants
  pub books : office.books.tenants ≡ length setup.tenants
