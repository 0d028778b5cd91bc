-- The one list goes on with each call: what the call appended is what its entry led to, and leads to the state after it.
use Rattle.std.proofs.Common.{◌≡◌, ◌==◌, ◌≤◌, ◌<◌, ℕ, ◌+◌, ◌-◌, zero, suc, Bool, true, false, List, [], ◌∷◌, ◌++◌, length, map, refl, sym, ap, subst, ◌∙◌}
use Rattle.std.proofs.Common.{arith, append-nil, add-zero, length-append}
use Rattle.std.specs.Prelude.{max, Option, Some, None, IfSome, Result, Ok, Err, slice_get, option_map, if◌then◌else◌}
use Rattle.ilp_addr.specs.Timestamp.{last_moment}
use Rattle.ilp_view.specs.Packet.{Prepare}
use Rattle.ilp_view.specs.Reading.{prepare_at}
use Rattle.ilp_view.specs.declared.fault.ViewFault.{ViewFault}
use Rattle.tenant_core.specs.Answer.{answer_made, answer_record, settle_answer, tick_count, tick_made, tick_record, tick_result, has_no_place, answer_to}
use Rattle.tenant_core.specs.Calls.{CallLaws}
use Rattle.tenant_core.specs.Governed.{IsGoverned, command_answer, command_made, commanded, made_by, order_answer, order_left, order_made, roll_answer, roll_left, roll_made}
use Rattle.tenant_core.specs.Holds.{open_hold}
use Rattle.tenant_core.specs.Judge.{decide_made, decide_record, is_recorded, judge, record_left}
use Rattle.tenant_core.specs.Key.{Key}
use Rattle.tenant_core.specs.Made.{IsMade, MadeLaws}
use Rattle.tenant_core.specs.Network.{peer_with_token}
use Rattle.tenant_core.specs.Orders.{ordered}
use Rattle.tenant_core.specs.Periods.{roll_refusal, roll_record}
use Rattle.tenant_core.specs.Present.{network_of}
use Rattle.tenant_core.specs.Replay.{IsReplay}
use Rattle.tenant_core.specs.Sound.{IsSound}
use Rattle.tenant_core.specs.State.{State, clock_of, recorded, opening_of}
use Rattle.tenant_core.specs.declared.command.Answered.{Answered}
use Rattle.tenant_core.specs.declared.command.Command.{Command}
use Rattle.tenant_core.specs.declared.command.Command.TheVariants as command
use Rattle.tenant_core.specs.declared.faults.BookFault.{BookFault}
use Rattle.tenant_core.specs.declared.faults.BookFault.TheVariants.{Full}
use Rattle.tenant_core.specs.declared.faults.CommandFault.{CommandFault}
use Rattle.tenant_core.specs.declared.faults.HoldFault.{HoldFault}
use Rattle.tenant_core.specs.declared.hold.Hold.{Hold}
use Rattle.tenant_core.specs.declared.journal.AnswerKey.{AnswerKey}
use Rattle.tenant_core.specs.declared.journal.Change.{Change as Changed}
use Rattle.tenant_core.specs.declared.journal.Record.{Record}
use Rattle.tenant_core.specs.declared.opening.Opening.{Opening}
use Rattle.tenant_core.specs.declared.peer.Peer.{Peer}
use Rattle.tenant_core.specs.declared.terms.TenantTerms.{TenantTerms}
use Rattle.tenant_core.specs.declared.verdict.Verdict.{Verdict}
use Rattle.tenant_core.specs.declared.verdict.Verdict.TheVariants.{Unknown, NoRoom, Refuse, Fulfil, Forward, Relay}
use Rattle.floor_core.specs.Work.{Job, Work, Called, answer_call, decide_call, frame_call, given_by, job_answered, job_decided, settled_call, verdict_call}
use Rattle.floor_core.specs.World.{answer_key, key_in}
use Rattle.floor_core.specs.declared.parts.Got.{Got}
use Rattle.floor_core.specs.declared.step.PeerAnswer.{PeerAnswer}
use Rattle.std.specs.List.{enumerate_from}
use Rattle.std.proofs.lemmas.List.{length-map}
use Rattle.std.proofs.lemmas.List.FromFn.{length-enumerate_from}
use Rattle.one_list.specs.History.{HistoryLaws}
use Rattle.one_list.specs.Steps.{PartView, Place, done, done_by, done_last, grown, next_place}
use Rattle.one_list.specs.declared.step.Done.{Done}
use Rattle.books_shared.specs.Rises.{entries_of, tick_rise}
use Rattle.books_shared.specs.declared.rise.CallCounts.{CallCounts}
use Rattle.books_shared.specs.Shares.{ShareView, share_raised, with_steps}
use Rattle.floor_core.specs.Causes.{HasCause}
use Rattle.books_shared.specs.Traced.{IsLedTo, IsTraced, after_made, share_counted, openings_of}
use Rattle.books_shared.proofs.Causes.{causes_on, governed_cause}
use Rattle.books_shared.specs.Tracing.{HasAppended, steps_appended, steps_of_command}

-- ---- which records a call appends: none is a roll's

abbrev pub Stays : Option Record → Type 0
Stays made = (s : State) → after_made s made ≡ recorded s made

stays_none : Stays None
stays_none s = refl

-- what holds where no record is made, and of each kind of record, holds of what a call makes
module _ (P : Option Record → Type 0) (none : P None) where
  either_made : (b : Bool) (r : Record) → P (Some r) → P (if b then Some r else None)
  either_made true r h = h
  either_made false r h = none

  neither_made : (b : Bool) (r : Record) → P (Some r) → P (if b then None else Some r)
  neither_made true r h = none
  neither_made false r h = h

  pub record_makes : ((n : ℕ) (key : Key) (now : ℕ) (v : Verdict) → P (Some (decide_record n key now v)))
      → (o : Option Peer) (key : Key) (now : ℕ) (v : Verdict) → P (record_left o key now v)
  record_makes each None key now v = none
  record_makes each (Some from) key now v = either_made (is_recorded v) (decide_record from.number key now v) (each from.number key now v)

  verdict_makes : (s : State) (t : ℕ) (token : List ℕ) (p : Prepare) (room : List ℕ) (made : Option Record) (v : Verdict)
      → P made → P (verdict_call s t token p room made v).made
  verdict_makes s t token p room made Unknown h = h
  verdict_makes s t token p room made NoRoom h = h
  verdict_makes s t token p room made (Refuse code amounts) h = h
  verdict_makes s t token p room made Fulfil h = h
  verdict_makes s t token p room made (Forward hold peer amount expiry) h = h
  verdict_makes s t token p room made Relay h = h

  own_makes : (b : Bool) (one other : Called) → P one.made → P other.made → P (if b then one else other).made
  own_makes true one other h k = h
  own_makes false one other h k = k

  frame_makes : ((n : ℕ) (key : Key) (now : ℕ) (v : Verdict) → P (Some (decide_record n key now v)))
      → (w : Work) (s : State) (t : ℕ) (token : List ℕ) (r : Result Prepare ViewFault) (now : ℕ) → P (frame_call w s t token r now).made
  frame_makes each w s t token (Ok p) now =
      verdict_makes s t token p w.room (decide_made s token (key_in p) now) (judge s token (key_in p) now)
      (record_makes each (peer_with_token token (network_of s).peers) (key_in p) now (judge s token (key_in p) now))
  frame_makes each w s t token (Err fault) now = none

  decided_makes : ((n : ℕ) (key : Key) (now : ℕ) (v : Verdict) → P (Some (decide_record n key now v)))
      → (j : Job) (w : Work) (s : State) (now : ℕ) → P (job_decided j w s now).made
  decided_makes each Job.NoJob w s now = none
  decided_makes each (Job.Carries t token frame) w s now =
      own_makes (s.opening.tenant == t) _ _ (frame_makes each w s t token (prepare_at frame) now) none
  decided_makes each (Job.Waits t hold frame) w s now = none

  pub decide_makes : ((n : ℕ) (key : Key) (now : ℕ) (v : Verdict) → P (Some (decide_record n key now v)))
      → (w : Work) (s : State) (now : ℕ) → P (decide_call w s now).made
  decide_makes each w s now = decided_makes each w.job w s now

  pub held_makes : (o : Option Hold) (f : Hold → Record) → ((h : Hold) → P (Some (f h))) → P (option_map f o)
  held_makes None f each = none
  held_makes (Some h) f each = each h

  settled_makes : (w : Work) (s : State) (given : PeerAnswer) (made : Option Record) (r : Result Verdict HoldFault) → P made → P (settled_call w s given made r).made
  settled_makes w s given made (Ok v) h = h
  settled_makes w s given made (Err fault) h = none

  answered_makes : (j : Job) (w : Work) (s : State) (now : ℕ) (given : PeerAnswer)
      → ((t hold : ℕ) (frame : List ℕ) (key : AnswerKey) (v : Verdict) → j ≡ Job.Waits t hold frame → P (Some (answer_record hold now key v))) → P (job_answered j w s now given).made
  answered_makes Job.NoJob w s now given each = none
  answered_makes (Job.Carries t token frame) w s now given each = none
  answered_makes (Job.Waits t hold frame) w s now given each =
      own_makes (s.opening.tenant == t) _ _
      (settled_makes w s given (answer_made s hold now (answer_key given)) (answer_to s hold now (answer_key given))
      (held_makes (open_hold s hold) _ (λ h. each t hold frame (answer_key given) (settle_answer h (max (clock_of s) now) (answer_key given)) refl))) none

  pub answer_makes : (w : Work) (s : State) (now : ℕ) (got : Got)
      → ((t hold : ℕ) (frame : List ℕ) (key : AnswerKey) (v : Verdict) → w.job ≡ Job.Waits t hold frame → P (Some (answer_record hold now key v))) → P (answer_call w s now got).made
  answer_makes w s now got each = answered_makes w.job w s now (given_by w.room got) each

  pub tick_makes : (s : State) (now : ℕ) → ((count : ℕ) → P (Some (tick_record now count))) → P (tick_made s now)
  tick_makes s now each =
      let count : ℕ = tick_count s (max (clock_of s) now) in neither_made (has_no_place s) (tick_record now count) (each count)

pub record_stays : (o : Option Peer) (key : Key) (now : ℕ) (v : Verdict) → Stays (record_left o key now v)
record_stays = record_makes Stays stays_none (λ n key now v s. refl)

pub held_stays : (o : Option Hold) (f : Hold → Record) → ((h : Hold) → Stays (Some (f h))) → Stays (option_map f o)
held_stays = held_makes Stays stays_none

pub decide_stays : (w : Work) (s : State) (now : ℕ) → Stays (decide_call w s now).made
decide_stays = decide_makes Stays stays_none (λ n key now v s. refl)

pub answer_stays : (w : Work) (s : State) (now : ℕ) (got : Got) → Stays (answer_call w s now got).made
answer_stays w s now got = answer_makes Stays stays_none w s now got (λ t hold frame key v is x. refl)

pub tick_stays : (s : State) (now : ℕ) → Stays (tick_made s now)
tick_stays s now = tick_makes Stays stays_none s now (λ count x. refl)

-- a tick counts the entry that it appends
pub tick_entries : (s : State) (now : ℕ) (count : Result ℕ BookFault) (rise : CallCounts) → count ≡ tick_result s now → rise ≡ tick_rise count
    → rise.entries ≡ entries_of (tick_made s now)
tick_entries s now count rise told e =
    ap (λ (r : CallCounts). r.entries) (e ∙ ap tick_rise told) ∙ by (has_no_place s) (tick_count s (max (clock_of s) now))
  where
    by : (b : Bool) (n : ℕ) → (tick_rise (if b then Err Full else Ok n)).entries ≡ entries_of (if b then None else Some (tick_record now n))
    by true n = refl
    by false n = refl

-- the record that was appended is what its entry led to
pub made_of : MadeLaws → (s : State) (made : Option Record) → IsReplay (recorded s made) → IfSome made (λ r. IsMade s r)
made_of laws s None replay = tt
made_of laws s (Some r) replay = laws.last s r replay

-- ---- the same of commands

order_is_made : MadeLaws → (s : State) (r : Result Changed CommandFault) (now : ℕ) → IsReplay (order_left s r now)
    → IfSome (order_made r now) (λ x. IsMade s x)
order_is_made laws s (Ok change) now replay = laws.last s _ replay
order_is_made laws s (Err fault) now replay = tt

roll_is_made : MadeLaws → (s : State) (o : Option CommandFault) (now : ℕ) → roll_refusal s ≡ o → IsSound (roll_left s o now)
    → IfSome (roll_made o now) (λ x. IsMade s x)
roll_is_made laws s None now free sound = let clock : max (clock_of s) now ≤ last_moment = sound.clock in laws.roll s now free (omega arith)
roll_is_made laws s (Some fault) now free sound = tt

command_is_made : MadeLaws → (s : State) (c : Command) (now : ℕ) → IsSound (commanded s c now) → IfSome (command_made s c now) (λ x. IsMade s x)
command_is_made laws s (command.Order order) now sound = order_is_made laws s (ordered s order) now sound.replay
command_is_made laws s command.Balances now sound = tt
command_is_made laws s command.Roll now sound = roll_is_made laws s (roll_refusal s) now refl sound

order_leaves : (s : State) (r : Result Changed CommandFault) (now : ℕ) → order_left s r now ≡ after_made s (order_made r now)
order_leaves s (Ok change) now = refl
order_leaves s (Err fault) now = refl

roll_leaves : (s : State) (o : Option CommandFault) (now : ℕ) → roll_left s o now ≡ after_made s (roll_made o now)
roll_leaves s None now = refl
roll_leaves s (Some fault) now = refl

pub command_leaves : (s : State) (c : Command) (now : ℕ) → commanded s c now ≡ after_made s (command_made s c now)
command_leaves s (command.Order order) now = order_leaves s (ordered s order) now
command_leaves s command.Balances now = refl
command_leaves s command.Roll now = roll_leaves s (roll_refusal s) now

pub governed_leaves : (r : Result Answered CommandFault) (c : Command) (before after : State) (now : ℕ)
    → IsGoverned r c before after now → after ≡ after_made before (made_by r before c now)
governed_leaves (Ok answered) c before after now governed = governed.1 ∙ command_leaves before c now
governed_leaves (Err fault) c before after now governed = governed.1

pub governed_made : MadeLaws → (r : Result Answered CommandFault) (c : Command) (before after : State) (now : ℕ)
    → IsGoverned r c before after now → IsSound after → IfSome (made_by r before c now) (λ x. IsMade before x)
governed_made laws (Ok answered) c before after now governed sound =
    command_is_made laws before c now (subst (λ (x : State). IsSound x) governed.1 sound)
governed_made laws (Err fault) c before after now governed sound = tt

pub governed_tenant : CallLaws → (r : Result Answered CommandFault) (c : Command) (before after : State) (now : ℕ)
    → IsGoverned r c before after now → after.opening.tenant ≡ before.opening.tenant
governed_tenant laws (Ok answered) c before after now governed =
    ap (λ (x : State). x.opening.tenant) governed.1 ∙ (laws.same_commanded before c now).number
governed_tenant laws (Err fault) c before after now governed = ap (λ (x : State). x.opening.tenant) governed.1

-- ---- what the list is told

-- where the next record of that state comes to stand, in the part of that number
abbrev pub place_at : ℕ → State → Place
place_at tenant s = record { tenant = tenant; period = s.opening.period; number = length s.records }

-- a record that was appended stands there
one_told : HistoryLaws → (s : State) (r : Record) (worker tenant : ℕ)
    → done_last worker tenant s.opening.period (s.records ++ r ∷ []) ≡ done worker (place_at tenant s) r ∷ []
one_told laws s r worker tenant =
    let behind : length (s.records ++ r ∷ []) - 1 ≡ length s.records = omega (arith, length-append s.records (r ∷ [])) in
    (λ i. done_by worker (record { tenant = tenant; period = s.opening.period; number = behind i }) (laws.last s.records r i))

pub told_did : HistoryLaws → (s : State) (made : Option Record) (n worker tenant : ℕ) → n ≡ entries_of made
    → steps_appended n worker tenant s.opening.period (recorded s made).records ≡ done_by worker (place_at tenant s) made
told_did laws s None n worker tenant e = rw e refl
told_did laws s (Some r) n worker tenant e = rw e (one_told laws s r worker tenant)

order_told : HistoryLaws → (s : State) (r : Result Changed CommandFault) (now worker tenant : ℕ)
    → steps_of_command (order_answer r) worker tenant (order_left s r now) ≡ done_by worker (place_at tenant s) (order_made r now)
order_told laws s (Ok change) now worker tenant = one_told laws s _ worker tenant
order_told laws s (Err fault) now worker tenant = refl

roll_told : HistoryLaws → (s : State) (o : Option CommandFault) (now worker tenant : ℕ)
    → steps_of_command (roll_answer s o now) worker tenant (roll_left s o now) ≡ done_by worker (place_at tenant s) (roll_made o now)
roll_told laws s None now worker tenant = one_told laws s (roll_record now) worker tenant
roll_told laws s (Some fault) now worker tenant = refl

command_told : HistoryLaws → (s : State) (c : Command) (now worker tenant : ℕ)
    → steps_of_command (command_answer s c now) worker tenant (commanded s c now) ≡ done_by worker (place_at tenant s) (command_made s c now)
command_told laws s (command.Order order) now worker tenant = order_told laws s (ordered s order) now worker tenant
command_told laws s command.Balances now worker tenant = refl
command_told laws s command.Roll now worker tenant = roll_told laws s (roll_refusal s) now worker tenant

pub governed_told : HistoryLaws → (r : Result Answered CommandFault) (c : Command) (before after : State) (now worker tenant : ℕ)
    → IsGoverned r c before after now
    → steps_of_command r worker tenant after ≡ done_by worker (place_at tenant before) (made_by r before c now)
governed_told laws (Ok answered) c before after now worker tenant governed =
    (λ k. steps_of_command (governed.0 k) worker tenant (governed.1 k)) ∙ command_told laws before c now worker tenant
governed_told laws (Err fault) c before after now worker tenant governed = refl

-- of a command that appended an entry there is a record

some_behind : (records : List Record) (r : Record) → 0 < length (records ++ r ∷ [])
some_behind records r = omega (arith, length-append records (r ∷ []))

order_appends : (s : State) (r : Result Changed CommandFault) (now : ℕ) → HasAppended (order_answer r) (order_left s r now)
order_appends s (Ok change) now = some_behind s.records _
order_appends s (Err fault) now = tt

roll_appends : (s : State) (o : Option CommandFault) (now : ℕ) → HasAppended (roll_answer s o now) (roll_left s o now)
roll_appends s None now = some_behind s.records _
roll_appends s (Some fault) now = tt

command_appends : (s : State) (c : Command) (now : ℕ) → HasAppended (command_answer s c now) (commanded s c now)
command_appends s (command.Order order) now = order_appends s (ordered s order) now
command_appends s command.Balances now = tt
command_appends s command.Roll now = roll_appends s (roll_refusal s) now

pub governed_appends : (r : Result Answered CommandFault) (c : Command) (before after : State) (now : ℕ)
    → IsGoverned r c before after now → HasAppended r after
governed_appends (Ok answered) c before after now governed =
    subst (λ (x : Result Answered CommandFault × State). HasAppended x.0 x.1)
    (λ k. (sym governed.0 k, sym governed.1 k)) (command_appends before c now)
governed_appends (Err fault) c before after now governed = tt

-- ---- the book's part of it

led_on : HistoryLaws → (openings : List Opening) (s : State) (steps : List Done) (worker : ℕ) (made : Option Record) → IsLedTo openings s steps
    → (after_made s made).opening.tenant ≡ s.opening.tenant → IfSome made (λ r. IsMade s r) → IfSome made (λ r. HasCause s r)
    → IsLedTo openings (after_made s made) (steps ++ done_by worker (next_place s) made)
led_on laws openings s steps worker None led same is caused = subst (λ x. IsLedTo openings s x) (sym (append-nil steps)) led
led_on laws openings s steps worker (Some r) led same is caused =
    record {
      first = led.first;
      opens = rw same led.opens;
      history = laws.goes_on led.first steps s (done worker (next_place s) r) led.history
          (record { made = is; period = refl; number = refl });
      causes = causes_on _ s steps (done worker (next_place s) r) led.history led.causes caused;
    }

-- a book after a call, whose part has the record that the call made
pub traced_on : HistoryLaws → (openings : List Opening) (s after : State) (part left : PartView) (worker : ℕ) (made : Option Record)
    → IsTraced openings s part → after ≡ after_made s made → after.opening.tenant ≡ s.opening.tenant → IfSome made (λ r. IsMade s r)
    → IfSome made (λ r. HasCause s r) → left ≡ grown part (done_by worker (place_at part.number s) made) → IsTraced openings after left
traced_on laws openings s after part left worker made traced e same is caused grew =
    record {
      number = ap (λ (p : PartView). p.number) grew ∙ (traced.number ∙ sym same);
      led = subst (λ (x : List Done). IsLedTo openings after x)
          (ap (λ (n : ℕ). part.steps ++ done_by worker (place_at n s) made) (sym traced.number) ∙ sym (ap (λ (p : PartView). p.steps) grew))
          (subst (λ (x : State). IsLedTo openings x (part.steps ++ done_by worker (next_place s) made)) (sym e)
          (led_on laws openings s part.steps worker made traced.led (ap (λ (x : State). x.opening.tenant) (sym e) ∙ same) is caused));
    }

-- the same, where the opening stays
told_kept : HistoryLaws → (s : State) (made : Option Record) (n worker tenant : ℕ) → n ≡ entries_of made
    → steps_appended n worker tenant (recorded s made).opening.period (recorded s made).records ≡ done_by worker (place_at tenant s) made
told_kept laws s None n worker tenant is = told_did laws s None n worker tenant is
told_kept laws s (Some r) n worker tenant is = told_did laws s (Some r) n worker tenant is

-- what the list is told of a call that made that record, if it made one
pub told_call : HistoryLaws → (s after : State) (made : Option Record) (n worker tenant : ℕ) → after ≡ recorded s made → n ≡ entries_of made
    → steps_appended n worker tenant after.opening.period after.records ≡ done_by worker (place_at tenant s) made
told_call laws s after made n worker tenant e is =
    ap (λ (x : State). steps_appended n worker tenant x.opening.period x.records) e ∙ told_kept laws s made n worker tenant is

-- a book after a call of a slot, or a tick
pub traced_call : MadeLaws → HistoryLaws → (openings : List Opening) (s after : State) (part left : PartView) (worker : ℕ) (made : Option Record) (n : ℕ)
    → IsTraced openings s part → Stays made → IfSome made (λ r. HasCause s r) → after ≡ recorded s made → IsReplay after → n ≡ entries_of made
    → left ≡ grown part (steps_appended n worker part.number after.opening.period after.records) → IsTraced openings after left
traced_call made_laws laws openings s after part left worker made n traced stays caused e replay is grew =
    traced_on laws openings s after part left worker made traced (e ∙ sym (stays s)) (ap (λ (x : State). x.opening.tenant) e)
    (made_of made_laws s made (subst IsReplay e replay)) caused
    (grew ∙ ap (λ (ds : List Done). grown part ds) (told_call laws s after made n worker part.number e is))

-- a book after a command
pub traced_command : MadeLaws → CallLaws → HistoryLaws → (openings : List Opening) (s after : State) (part left : PartView) (worker : ℕ) (r : Result Answered CommandFault) (c : Command) (now : ℕ)
    → IsTraced openings s part → IsGoverned r c s after now → IsSound after
    → left ≡ grown part (steps_of_command r worker part.number after) → IsTraced openings after left
traced_command made_laws call_laws laws openings s after part left worker r c now traced governed sound grew =
    traced_on laws openings s after part left worker (made_by r s c now) traced (governed_leaves r c s after now governed)
    (governed_tenant call_laws r c s after now governed) (governed_made made_laws r c s after now governed sound) (governed_cause r s c now)
    (grew ∙ ap (λ (ds : List Done). grown part ds) (governed_told laws r c s after now worker part.number governed))

-- the steps of a part after a call, and of a share
pub steps_told : (part left : PartView) (worker : ℕ) (s : State) (made : Option Record) (ds : List Done) → left ≡ grown part ds
    → ds ≡ done_by worker (place_at part.number s) made → part.number ≡ s.opening.tenant
    → left.steps ≡ part.steps ++ done_by worker (next_place s) made
steps_told part left worker s made ds grew told own =
    ap (λ (p : PartView). p.steps) grew
    ∙ ap (λ (es : List Done). part.steps ++ es) (told ∙ ap (λ (n : ℕ). done_by worker (place_at n s) made) own)

pub share_told : (share left : ShareView) (rise same : CallCounts) (number : ℕ) (s : State) (made : Option Record) (ds : List Done)
    → left ≡ share_raised rise number (with_steps ds share) → ds ≡ done_by share.worker (place_at number s) made
    → number ≡ s.opening.tenant → rise ≡ same → left ≡ share_counted same (next_place s) made share
share_told share left rise same number s made ds grew told own is =
    grew ∙ ((λ i. share_raised (is i) (own i) (with_steps (told i) share))
    ∙ ap (λ (n : ℕ). share_raised same s.opening.tenant (with_steps (done_by share.worker (place_at n s) made) share)) own)

-- a book in which nothing has happened, at its place among the openings
pub traced_first : HistoryLaws → (openings : List Opening) (o : Opening) (part : PartView) → part ≡ record { number = o.tenant; steps = [] }
    → slice_get openings o.tenant ≡ Some o → IsTraced openings (record { opening = o; records = [] }) part
traced_first laws openings o part e at =
    record {
      number = ap (λ (p : PartView). p.number) e;
      led = record { first = o; opens = at; history = rw e (laws.begins o); causes = rw e tt };
    }

-- ---- openings

pub opening_from : (f : ℕ × TenantTerms → Opening) (n : ℕ) (xs : List TenantTerms) (i : ℕ)
    → slice_get (map f (enumerate_from n xs)) i ≡ option_map (λ t. f (n + i, t)) (slice_get xs i)
opening_from f n [] i = refl
opening_from f n (x ∷ xs) zero = rw (add-zero n) refl
opening_from f n (x ∷ xs) (suc i) = opening_from f (n + 1) xs i ∙ ap (λ (m : ℕ). option_map (λ t. f (m, t)) (slice_get xs i)) (next_more n i)
  where
    next_more : (n i : ℕ) → (n + 1) + i ≡ n + suc i
    next_more n i = omega arith

pub opening_at : (setups : List TenantTerms) (start i : ℕ) (t : TenantTerms) → slice_get setups i ≡ Some t
    → slice_get (openings_of setups start) i ≡ Some (opening_of i t start)
opening_at setups start i t at =
    let zero_more : 0 + i ≡ i = omega arith in
    opening_from (λ p. opening_of p.0 p.1 start) 0 setups i
    ∙ (ap (λ (n : ℕ). option_map (λ x. opening_of n x start) (slice_get setups i)) zero_more
    ∙ ap (λ o. option_map (λ x. opening_of i x start) o) at)

pub openings_many : (setups : List TenantTerms) (start : ℕ) → length (openings_of setups start) ≡ length setups
openings_many setups start = length-map (enumerate_from 0 setups) _ ∙ length-enumerate_from 0 setups
