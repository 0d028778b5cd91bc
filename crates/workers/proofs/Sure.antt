-- A packet that a worker sent on is awaited until that worker answers it, where workers answer only what they sent on.
use Rattle.std.proofs.Common.{◌≡◌, ◌==◌, ℕ, Bool, cond, List, [], ◌∷◌, ◌++◌, refl, sym, ap, subst, ◌∙◌}
use Rattle.std.proofs.lemmas.Bool.{eq-eqb}
use Rattle.std.proofs.lemmas.List.Elements.{filter-append}
use Rattle.std.specs.Prelude.{Some}
use Rattle.tenant_core.specs.State.{State}
use Rattle.tenant_core.specs.declared.opening.Opening.{Opening}
use Rattle.floor_core.specs.Work.{Job, Work, IsWaiting, answer_call, decide_call, tenant_in}
use Rattle.floor_core.specs.declared.parts.Got.{Got}
use Rattle.floor_core.specs.declared.parts.Turn.TheVariants as turns
use Rattle.one_list.specs.Holds.{AreOwnAnswers, HoldLaws, OwnAnswerLaws}
use Rattle.one_list.specs.Steps.{done, done_by, next_place, of_tenant, of_worker}
use Rattle.one_list.specs.declared.step.Done.{Done}
use Rattle.books_shared.specs.Shares.{ShareView}
use Rattle.books_shared.specs.Traced.{IsLedTo}
use Rattle.books_shared.specs.Turns.{IsSentBy}
use Rattle.workers.specs.Carrying.{Circumstances, HasSentOn, IsOwnCall, WasCalled, growth}
use Rattle.workers.specs.declared.keeping.JournalPlace.{JournalPlace}
use Rattle.workers.proofs.Elsewhere.{answer_turn, goes_on}

-- the worker's steps of the tenant are the tenant's by the worker, the last of which sent the packet on
mine : {share : ShareView} {tenant hold : ℕ} (sent : HasSentOn share tenant hold) (steps : List Done) (number : ℕ) → number ≡ tenant
    → of_worker share.worker steps ≡ of_tenant number share.steps → of_worker sent.step.worker steps ≡ sent.before ++ sent.step ∷ []
mine {share} sent steps number own shared =
    ap (λ w. of_worker w steps) sent.by_it ∙ (shared ∙ (ap (λ n. of_tenant n share.steps) own ∙ sent.last))

-- so the packet was sent on by the worker
pub sent_by : HoldLaws → (job : Job) (share : ShareView) (tenant number : ℕ) (openings : List Opening) (s : State) (steps : List Done) → IsOwnCall share tenant job → number ≡ tenant
    → of_worker share.worker steps ≡ of_tenant number share.steps → IsLedTo openings s steps → IsSentBy share.worker job steps
sent_by laws Job.NoJob share tenant number openings s steps sent own shared led = tt
sent_by laws (Job.Carries t token frame) share tenant number openings s steps sent own shared led = tt
sent_by laws (Job.Waits t hold frame) share tenant number openings s steps sent own shared led =
    laws.held led.first steps sent.before sent.step s hold led.history (mine sent steps number own shared) sent.begins ∙ ap Some sent.by_it

-- the tenant's book settles the packet of the slot
pub settles : OwnAnswerLaws → (w : Work) (share : ShareView) (tenant : ℕ) (openings : List Opening) (s : State) (steps : List Done) (now : ℕ) (came : Got)
    → IsWaiting w.job → tenant_in w.job ≡ Some tenant → IsOwnCall share tenant w.job → s.opening.tenant ≡ tenant → of_worker share.worker steps ≡ of_tenant s.opening.tenant share.steps
    → IsLedTo openings s steps → AreOwnAnswers steps → (answer_call w s now came).turn ≡ turns.Reply
settles laws w share tenant openings s steps now came waits of sent own shared led answers = by w.job refl waits of sent
  where
    by : (j : Job) → w.job ≡ j → IsWaiting j → tenant_in j ≡ Some tenant → IsOwnCall share tenant j → (answer_call w s now came).turn ≡ turns.Reply
    by Job.NoJob is waits of sent = absurd waits
    by (Job.Carries t token frame) is waits of sent = absurd waits
    by (Job.Waits t hold frame) is waits of sent =
        let same : t ≡ tenant = cc in
        answer_turn w s now came t hold frame is (own ∙ sym same)
        ∙ ap (λ (b : Bool). cond b turns.Reply turns.Stray)
        (laws.awaited led.first steps sent.before sent.step s hold led.history answers (mine sent steps s.opening.tenant own shared) sent.begins)

-- a packet that was sent on is the last that the worker did for the tenant
pub is_own_call : {under : Circumstances} (t peer hold : ℕ) (before waiting : Work) (after : ShareView) (roomy : ShareView) (job : Job) (place : JournalPlace) → WasCalled under (growth t roomy after) (decide_call before) (turns.Send peer hold) waiting place
    → job ≡ waiting.job → IsOwnCall after t job
is_own_call t peer hold before waiting after roomy job place called same =
    let s : State = called.found.book in
    let on = goes_on before s called.found.now peer hold called.told in
    let e : Done = done roomy.worker (next_place s) on.verdict in
    let made : done_by roomy.worker (next_place s) (decide_call before s called.found.now).made ≡ e ∷ [] = ap (done_by roomy.worker (next_place s)) on.made in
    let steps : after.steps ≡ roomy.steps ++ e ∷ [] = ap (λ (x : ShareView). x.steps) called.grew ∙ ap (λ l. roomy.steps ++ l) made in
    let tenant : e.tenant ≡ t = called.own in
    let kept : of_tenant t (e ∷ []) ≡ e ∷ [] = ap (λ b. cond b (e ∷ []) []) (eq-eqb e.tenant t tenant) in
    let waits : job ≡ Job.Waits s.opening.tenant hold on.frame = same ∙ (ap (λ (w : Work). w.job) called.left ∙ on.waits) in
    let sent : HasSentOn after t hold = record {
      before = of_tenant t roomy.steps;
      step = e;
      last = ap (of_tenant t) steps ∙ (filter-append (λ (x : Done). x.tenant == t) roomy.steps (e ∷ []) ∙ ap (λ l. of_tenant t roomy.steps ++ l) kept);
      by_it = sym (ap (λ (x : ShareView). x.worker) called.grew);
      begins = on.begins;
    } in
    subst (λ (j : Job). IsOwnCall after t j) (sym waits) sent
