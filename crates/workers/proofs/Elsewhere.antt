-- A packet that went on, and is awaited no longer: another worker answered it.
use Rattle.std.proofs.Common.{◌≡◌, ◌==◌, ℕ, Bool, true, false, cond, eqb, Some, List, [], ◌∷◌, ◌++◌, refl, sym, ap, subst, ◌∙◌}
use Rattle.std.proofs.lemmas.Bool.{eqb-true, eq-eqb}
use Rattle.std.proofs.lemmas.List.Elements.{filter-append}
use Rattle.std.specs.Prelude.{Option, None, Result, Ok, Err, is_some, max}
use Rattle.ilp_addr.specs.Timestamp.{timestamp_of}
use Rattle.ilp_view.specs.Packet.{Prepare, with_amount_and_expiry}
use Rattle.ilp_view.specs.Reading.{prepare_at}
use Rattle.ilp_view.specs.declared.fault.ViewFault.{ViewFault}
use Rattle.tenant_core.specs.Answer.{answer_made, settled}
use Rattle.tenant_core.specs.Checks.{◌otherwise◌}
use Rattle.tenant_core.specs.Holds.{hold_begun, open_hold}
use Rattle.tenant_core.specs.Judge.{decide_record, is_full, record_left, verdict_for_sender}
use Rattle.tenant_core.specs.Key.{Key}
use Rattle.tenant_core.specs.Network.{peer_with_token}
use Rattle.tenant_core.specs.OpenHolds.{is_awaited}
use Rattle.tenant_core.specs.Present.{network_of}
use Rattle.tenant_core.specs.State.{State, clock_of}
use Rattle.tenant_core.specs.declared.hold.Hold.{Hold}
use Rattle.tenant_core.specs.declared.journal.AnswerKey.{AnswerKey}
use Rattle.tenant_core.specs.declared.journal.Record.{Record}
use Rattle.tenant_core.specs.declared.peer.Peer.{Peer}
use Rattle.tenant_core.specs.declared.verdict.Verdict.{Verdict}
use Rattle.tenant_core.specs.declared.verdict.Verdict.TheVariants.{Unknown, NoRoom, Refuse, Fulfil, Forward, Relay}
use Rattle.floor_core.specs.Work.{Job, Work, Called, answer_call, decide_call, frame_call, given_by, job_answered, job_decided, only, settled_call, verdict_call}
use Rattle.floor_core.specs.World.{answer_key, key_in}
use Rattle.floor_core.specs.declared.parts.Got.{Got}
use Rattle.floor_core.specs.declared.parts.Turn.TheVariants as turns
use Rattle.floor_core.specs.declared.step.PeerAnswer.{PeerAnswer}
use Rattle.one_list.specs.Holds.{HoldLaws, IsAnsweredByAnother, is_numbered}
use Rattle.one_list.specs.Steps.{done, done_by, next_place, of_tenant, of_worker}
use Rattle.one_list.specs.declared.step.Done.{Done}
use Rattle.books_shared.specs.Shares.{ShareView}
use Rattle.workers.specs.Carrying.{Circumstances, Growth, WasMissed, WentOn, from, upto}
use Rattle.workers.specs.Replies.{Sending}

-- ---- a decide

-- a packet went on under that hold: what it made begins the hold, which the slot awaits
pub record GoesOn (c : Called) (tenant hold : ℕ) : Type 0 where
  pub verdict : Record
  pub made : c.made ≡ Some verdict
  pub begins : is_numbered hold (hold_begun verdict.entry verdict.outcome) ≡ true
  pub frame : List ℕ
  pub waits : c.work.job ≡ Job.Waits tenant hold frame

by_verdict : (v : Verdict) (s : State) (t : ℕ) (token : List ℕ) (p : Prepare) (room : List ℕ) (peer : Peer) (key : Key) (now to hold : ℕ)
    → (verdict_call s t token p room (record_left (Some peer) key now v) v).turn ≡ turns.Send to hold → GoesOn (verdict_call s t token p room (record_left (Some peer) key now v) v) t hold
by_verdict (Forward number other amount expiry) s t token p room peer key now to hold is =
    let same : number ≡ hold = cc in
    record {
      verdict = decide_record peer.number key now (Forward number other amount expiry);
      made = refl;
      begins = eq-eqb number hold same;
      frame = with_amount_and_expiry p amount (timestamp_of expiry);
      waits = ap (λ n. Job.Waits t n (with_amount_and_expiry p amount (timestamp_of expiry))) same;
    }
by_verdict Unknown s t token p room peer key now to hold is = absurd cc
by_verdict NoRoom s t token p room peer key now to hold is = absurd cc
by_verdict (Refuse code amounts) s t token p room peer key now to hold is = absurd cc
by_verdict Fulfil s t token p room peer key now to hold is = absurd cc
by_verdict Relay s t token p room peer key now to hold is = absurd cc

by_sender : (o : Option Peer) (v : Peer → Verdict) (s : State) (t : ℕ) (token : List ℕ) (p : Prepare) (room : List ℕ) (key : Key) (now to hold : ℕ)
    → (verdict_call s t token p room (record_left o key now ((o otherwise Unknown) v)) ((o otherwise Unknown) v)).turn ≡ turns.Send to hold
    → GoesOn (verdict_call s t token p room (record_left o key now ((o otherwise Unknown) v)) ((o otherwise Unknown) v)) t hold
by_sender None v s t token p room key now to hold is = absurd cc
by_sender (Some peer) v s t token p room key now to hold is = by_verdict (v peer) s t token p room peer key now to hold is

by_frame : (r : Result Prepare ViewFault) (w : Work) (s : State) (t : ℕ) (token : List ℕ) (now to hold : ℕ) → (frame_call w s t token r now).turn ≡ turns.Send to hold
    → GoesOn (frame_call w s t token r now) t hold
by_frame (Ok p) w s t token now to hold is =
    by_sender (peer_with_token token (network_of s).peers) (λ peer. cond (is_full s) NoRoom (verdict_for_sender s peer (key_in p) (max (clock_of s) now))) s t token p w.room (key_in p) now to hold is
by_frame (Err fault) w s t token now to hold is = absurd cc

by_job : (job : Job) (w : Work) (s : State) (now to hold : ℕ) → (job_decided job w s now).turn ≡ turns.Send to hold → GoesOn (job_decided job w s now) s.opening.tenant hold
by_job Job.NoJob w s now to hold is = absurd cc
by_job (Job.Waits tenant number frame) w s now to hold is = absurd cc
by_job (Job.Carries tenant token frame) w s now to hold is = by (eqb s.opening.tenant tenant) refl is
  where
    called : Called
    called = frame_call w s tenant token (prepare_at frame) now

    by : (e : Bool) → eqb s.opening.tenant tenant ≡ e → (cond e called (only turns.Stray w)).turn ≡ turns.Send to hold → GoesOn (cond e called (only turns.Stray w)) s.opening.tenant hold
    by true at k = subst (λ (t : ℕ). GoesOn called t hold) (sym (eqb-true s.opening.tenant tenant at)) (by_frame (prepare_at frame) w s tenant token now to hold k)
    by false at k = absurd cc

pub goes_on : (w : Work) (s : State) (now to hold : ℕ) → (decide_call w s now).turn ≡ turns.Send to hold → GoesOn (decide_call w s now) s.opening.tenant hold
goes_on w s now to hold is = by_job w.job w s now to hold is

-- ---- an answer

-- a book answers the packet of the slot exactly where it awaits its hold
pub answer_turn : (w : Work) (s : State) (now : ℕ) (came : Got) (t hold : ℕ) (frame : List ℕ) → w.job ≡ Job.Waits t hold frame → s.opening.tenant ≡ t
    → (answer_call w s now came).turn ≡ cond (is_awaited s hold) turns.Reply turns.Stray
answer_turn w s now came t hold frame waits own =
    ap (λ (j : Job). (job_answered j w s now given).turn) waits
    ∙ by_own (eqb s.opening.tenant t) (eq-eqb s.opening.tenant t own)
  where
    given : PeerAnswer
    given = given_by w.room came

    key : AnswerKey
    key = answer_key given

    made : Option Record
    made = answer_made s hold now key

    by_hold : (o : Option Hold) → (settled_call w s given made (settled o (max (clock_of s) now) key)).turn ≡ cond (is_some o) turns.Reply turns.Stray
    by_hold None = refl
    by_hold (Some h) = refl

    by_own : (e : Bool) → e ≡ true
        → (cond e (settled_call w s given made (settled (open_hold s hold) (max (clock_of s) now) key)) (only turns.Stray w)).turn ≡ cond (is_awaited s hold) turns.Reply turns.Stray
    by_own true at = by_hold (open_hold s hold)
    by_own false at = absurd cc

-- a book that gives no answer does not await the hold
not_awaited : (w : Work) (s : State) (now : ℕ) (came : Got) (t hold : ℕ) (frame : List ℕ) → w.job ≡ Job.Waits t hold frame → s.opening.tenant ≡ t
    → (answer_call w s now came).turn ≡ turns.Stray → is_awaited s hold ≡ false
not_awaited w s now came t hold frame waits own turned = by (is_awaited s hold) (sym (answer_turn w s now came t hold frame waits own) ∙ turned)
  where
    by : (awaited : Bool) → cond awaited turns.Reply turns.Stray ≡ turns.Stray → awaited ≡ false
    by false is = refl
    by true is = absurd cc

-- ---- a packet that was lost

pub elsewhere : {under : Circumstances} (laws : HoldLaws) (g : Growth) (between : ShareView) (before answered : Work) (came : Got) (So : Sending → Type 0)
    (went : WentOn under (upto between g) before came answered So) (missed : WasMissed under (from between g) answered came)
    → IsAnsweredByAnother went.forwarded.step went.forwarded.hold missed.found.steps
elsewhere laws g between before answered came So went missed =
    let f = went.forwarded in
    let s : State = f.decided.found.book in
    let e : Done = f.step in
    let on = goes_on before s f.decided.found.now f.peer f.hold f.decided.told in
    let is : e ≡ done g.before.worker (next_place s) on.verdict = let both : done_by g.before.worker (next_place s) (Some on.verdict) ≡ e ∷ [] = ap (done_by g.before.worker (next_place s)) (sym on.made) ∙ f.made in cc in
    let worker : e.worker ≡ g.before.worker = ap (λ (x : Done). x.worker) is in
    let tenant : e.tenant ≡ g.owner = ap (λ (x : Done). x.tenant) is ∙ f.decided.own in
    let steps : between.steps ≡ g.before.steps ++ e ∷ [] = ap (λ (x : ShareView). x.steps) f.decided.grew ∙ ap (λ l. g.before.steps ++ l) f.made in
    let whose : between.worker ≡ e.worker = ap (λ (x : ShareView). x.worker) f.decided.grew ∙ sym worker in
    let job = ap (λ (w : Work). w.job) went.sent.left ∙ (ap (λ (w : Work). w.job) f.decided.left ∙ on.waits) in
    let none = not_awaited answered missed.found.book missed.found.now came s.opening.tenant f.hold on.frame job (missed.own ∙ sym f.decided.own) missed.turn in
    let kept : of_tenant g.owner (e ∷ []) ≡ e ∷ [] = ap (λ b. cond b (e ∷ []) []) (eq-eqb e.tenant g.owner tenant) in
    let mine : of_worker e.worker missed.found.steps ≡ of_tenant g.owner g.before.steps ++ e ∷ [] =
    ap (λ n. of_worker n missed.found.steps) (sym whose)
    ∙ (missed.mine
    ∙ (ap (of_tenant g.owner) steps
    ∙ (filter-append (λ (x : Done). x.tenant == g.owner) g.before.steps (e ∷ []) ∙ ap (λ l. of_tenant g.owner g.before.steps ++ l) kept))) in
    laws.by_another missed.found.led.first missed.found.steps (of_tenant g.owner g.before.steps) e missed.found.book f.hold missed.found.led.history mine f.begins none
