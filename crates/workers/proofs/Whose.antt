-- What a decide and an answer came to, by the turn of each.
use Rattle.std.proofs.Common.{◌≡◌, ℕ, Bool, true, false, cond, eqb, Some, refl, sym, ap, subst, ◌∙◌}
use Rattle.std.proofs.lemmas.Bool.{eqb-false}
use Rattle.std.specs.Prelude.{List, Option, Result, Ok, Err, is_ok}
use Rattle.ilp_view.specs.Packet.{Prepare}
use Rattle.ilp_view.specs.Reading.{prepare_at}
use Rattle.ilp_view.specs.declared.fault.ViewFault.{ViewFault}
use Rattle.tenant_core.specs.Answer.{answer_made, answer_to}
use Rattle.tenant_core.specs.Judge.{decide_made, judge}
use Rattle.tenant_core.specs.State.{State}
use Rattle.tenant_core.specs.declared.faults.HoldFault.{HoldFault}
use Rattle.tenant_core.specs.declared.journal.AnswerKey.{AnswerKey}
use Rattle.tenant_core.specs.declared.journal.Record.{Record}
use Rattle.tenant_core.specs.declared.verdict.Verdict.{Verdict}
use Rattle.tenant_core.specs.declared.verdict.Verdict.TheVariants.{Unknown, NoRoom, Refuse, Fulfil, Forward, Relay}
use Rattle.floor_core.specs.Work.{Job, Work, Called, IsReadable, IsWaiting, decide_call, frame_call, given_by, job_answered, job_decided, only, settled_call, tenant_in, verdict_call}
use Rattle.floor_core.specs.World.{answer_key, key_in}
use Rattle.floor_core.specs.declared.parts.Got.{Got}
use Rattle.floor_core.specs.declared.parts.Turn.{Turn}
use Rattle.floor_core.specs.declared.parts.Turn.TheVariants as turns
use Rattle.books_shared.specs.Rises.{rise_of}
use Rattle.books_shared.specs.Turns.{IsLoaded}
use Rattle.workers.specs.declared.keeping.JournalPlace.{JournalPlace}
use Rattle.workers.specs.Carrying.{Circumstances, Growth, HasGrown, IsAnswered, IsDecided, IsReleased, IsSame, WasCalled, WasMissed, answer_with}
use Rattle.workers.proofs.Growing.{grew_nothing}

-- ---- a decide

-- a decide that was answered with that turn has decided
abbrev Decides : (under : Circumstances) → Growth → (w left : Work) → JournalPlace → Turn → Type 0
Decides under g w left place told = WasCalled under g (decide_call w) told left place → IsDecided under told g w left place

by_verdict : {under : Circumstances} (v : Verdict) (s : State) (t : ℕ) (token : List ℕ) (p : Prepare) (room : List ℕ) (made : Option Record) (g : Growth) (w left : Work) (place : JournalPlace)
    → Decides under g w left place (verdict_call s t token p room made v).turn
by_verdict {under} Unknown s t token p room made g w left place = λ h. h
by_verdict {under} NoRoom s t token p room made g w left place = λ h. h
by_verdict {under} (Refuse code amounts) s t token p room made g w left place = λ h. h
by_verdict {under} Fulfil s t token p room made g w left place = λ h. h
by_verdict {under} (Forward hold peer amount expiry) s t token p room made g w left place = λ h. h
by_verdict {under} Relay s t token p room made g w left place = λ h. h

by_frame : {under : Circumstances} (r : Result Prepare ViewFault) (s : State) (t : ℕ) (token : List ℕ) (now : ℕ) (g : Growth) (w left : Work) (place : JournalPlace) → is_ok r ≡ true
    → Decides under g w left place (frame_call w s t token r now).turn
by_frame {under} (Ok p) s t token now g w left place good =
    by_verdict (judge s token (key_in p) now) s t token p w.room (decide_made s token (key_in p) now) g w left place
by_frame {under} (Err fault) s t token now g w left place good = absurd cc

by_job : {under : Circumstances} (job : Job) (s : State) (now : ℕ) (g : Growth) (w left : Work) (place : JournalPlace) → s.opening.tenant ≡ g.owner → IsLoaded job → IsReadable job
    → tenant_in job ≡ Some g.owner → Decides under g w left place (job_decided job w s now).turn
by_job {under} Job.NoJob s now g w left place own loaded readable of = absurd loaded
by_job {under} (Job.Waits tenant hold frame) s now g w left place own loaded readable of = absurd loaded
by_job {under} (Job.Carries tenant token frame) s now g w left place own loaded readable of = by (eqb s.opening.tenant tenant) refl
  where
    same : s.opening.tenant ≡ tenant
    same = cc

    by : (e : Bool) → eqb s.opening.tenant tenant ≡ e
        → Decides under g w left place (cond e (frame_call w s tenant token (prepare_at frame) now) (only turns.Stray w)).turn
    by true is = by_frame (prepare_at frame) s tenant token now g w left place readable
    by false is = absurd (eqb-false s.opening.tenant tenant is same)

-- what a decide came to
pub is_decided : {under : Circumstances} (told : Turn) (g : Growth) (w left : Work) (place : JournalPlace) → IsLoaded w.job → IsReadable w.job → tenant_in w.job ≡ Some g.owner
    → WasCalled under g (decide_call w) told left place → IsDecided under told g w left place
is_decided {under} told g w left place loaded readable of h =
    subst (λ (u : Turn). Decides under g w left place u) h.told (by_job w.job h.found.book h.found.now g w left place h.own loaded readable of) h

-- ---- an answer

-- an answer to a hold of the tenant's book: where there is no such hold, nothing is counted
by_result : {under : Circumstances} (r : Result Verdict HoldFault) (made : Option Record) (told : Turn) (g : Growth) (w left : Work) (place : JournalPlace) (came : Got)
    (h : WasCalled under g (answer_with w came) told left place)
    → answer_with w came h.found.book h.found.now ≡ settled_call w h.found.book (given_by w.room came) made r → IsAnswered under told g came w left place
by_result {under} (Ok v) made told g w left place came h call =
    let turned : told ≡ turns.Reply = sym h.told ∙ ap (λ (c : Called). c.turn) call in
    subst (λ (u : Turn). WasCalled under g (answer_with w came) u left place → IsAnswered under u g came w left place) (sym turned) (λ k. k) h
by_result {under} (Err fault) made told g w left place came h call =
    let turned : told ≡ turns.Stray = sym h.told ∙ ap (λ (c : Called). c.turn) call in
    subst (λ (u : Turn). IsAnswered under u g came w left place) (sym turned) (
      record {
        found = h.found;
        own = h.own;
        mine = h.mine;
        turn = h.told ∙ turned;
        none = grew_nothing h.found g (subst (λ (c : Called). HasGrown h.found (rise_of c) c.made g) call h.grew);
      },
      h.left ∙ ap (λ (c : Called). c.work) call,
    )

by_waiting : {under : Circumstances} (job : Job) (told : Turn) (g : Growth) (w left : Work) (place : JournalPlace) (came : Got) → w.job ≡ job → IsWaiting job → tenant_in job ≡ Some g.owner
    → WasCalled under g (answer_with w came) told left place → IsAnswered under told g came w left place
by_waiting {under} Job.NoJob told g w left place came is waits of h = absurd waits
by_waiting {under} (Job.Carries tenant token frame) told g w left place came is waits of h = absurd waits
by_waiting {under} (Job.Waits tenant hold frame) told g w left place came is waits of h =
    by (eqb s.opening.tenant tenant) refl (ap (λ (j : Job). job_answered j w s now (given_by w.room came)) is)
  where
    s : State
    s = h.found.book

    now : ℕ
    now = h.found.now

    key : AnswerKey
    key = answer_key (given_by w.room came)

    same : s.opening.tenant ≡ tenant
    same = h.own ∙ sym (let it : tenant ≡ g.owner = cc in it)

    settled : Called
    settled = settled_call w s (given_by w.room came) (answer_made s hold now key) (answer_to s hold now key)

    by : (e : Bool) → eqb s.opening.tenant tenant ≡ e → answer_with w came s now ≡ cond e settled (only turns.Stray w) → IsAnswered under told g came w left place
    by true at call = by_result (answer_to s hold now key) (answer_made s hold now key) told g w left place came h call
    by false at call = absurd (eqb-false s.opening.tenant tenant at same)

-- what an answer came to
pub is_answered : {under : Circumstances} (told : Turn) (g : Growth) (w left : Work) (place : JournalPlace) (came : Got) → IsWaiting w.job → tenant_in w.job ≡ Some g.owner
    → WasCalled under g (answer_with w came) told left place → IsAnswered under told g came w left place
is_answered told g w left place came waits of h = by_waiting w.job told g w left place came refl waits of h

-- what was awaited no longer
pub unanswered : {under : Circumstances} (told : Turn) (g : Growth) (came : Got) (before after : Work) (place : JournalPlace) → (told ≡ turns.Reply → ⊥) → IsAnswered under told g came before after place
    → WasMissed under g before came × (after ≡ before)
unanswered {under} turns.Idle g came before after place other h = h
unanswered {under} turns.Stray g came before after place other h = h
unanswered {under} turns.Stranger g came before after place other h = h
unanswered {under} turns.Reply g came before after place other h = absurd (other refl)
unanswered {under} (turns.Send peer hold) g came before after place other h = h

-- a decide that came to that turn
pub decided_so : (under : Circumstances) (told given : Turn) (g : Growth) (w left : Work) (place : JournalPlace) → told ≡ given → IsDecided under told g w left place → IsDecided under given g w left place
decided_so under told given g w left place is h = subst (λ (u : Turn). IsDecided under u g w left place) is h

-- an answer that came to that turn
pub answered_so : (under : Circumstances) (told given : Turn) (g : Growth) (came : Got) (w left : Work) (place : JournalPlace) → told ≡ given → IsAnswered under told g came w left place → IsAnswered under given g came w left place
answered_so under told given g came w left place is h = subst (λ (u : Turn). IsAnswered under u g came w left place) is h

-- a call with the book, whatever its turn
pub called_by : {under : Circumstances} (told : Turn) (g : Growth) (w left : Work) (place : JournalPlace) → IsDecided under told g w left place → WasCalled under g (decide_call w) told left place
called_by {under} turns.Idle g w left place h = absurd h
called_by {under} turns.Stray g w left place h = absurd h
called_by {under} turns.Stranger g w left place h = h
called_by {under} turns.Reply g w left place h = h
called_by {under} (turns.Send peer hold) g w left place h = h

-- a packet that was not to be sent on is held by nobody
pub not_held : (under : Circumstances) (told : Turn) (g : Growth) (w : Work) → ((peer hold : ℕ) → told ≡ turns.Send peer hold → ⊥) → IsSame g → IsReleased under told g w w
not_held under turns.Idle g w other same = (refl, same)
not_held under turns.Stray g w other same = (refl, same)
not_held under turns.Stranger g w other same = (refl, same)
not_held under turns.Reply g w other same = (refl, same)
not_held under (turns.Send peer hold) g w other same = absurd (other peer hold refl)
