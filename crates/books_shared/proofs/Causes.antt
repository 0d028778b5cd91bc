-- Each record that a call made has a cause: the packet, the answer, the moment or the command of the call.
use Rattle.std.proofs.Common.{◌≡◌, ◌≤◌, ℕ, Bool, true, false, List, [], ◌∷◌, ◌++◌, length, take, ltb, refl, sym, ap, subst, arith}
use Rattle.std.specs.Prelude.{◌==◌, Option, Some, None, IfSome, Result, Ok, Err, if◌then◌else◌}
use Rattle.std.proofs.lemmas.Bool.{ltb-false, le-ltb}
use Rattle.std.proofs.lemmas.List.{length-take}
use Rattle.std.proofs.Math.Nat.{min-le_left}
use Rattle.common_types.specs.Token.{is_token}
use Rattle.oer_core.specs.Length.{AreBytes}
use Rattle.ilp_view.specs.Packet.{Prepare, max_frame}
use Rattle.ilp_view.specs.Reading.{prepare_at}
use Rattle.ilp_view.specs.declared.fault.ViewFault.{ViewFault}
use Rattle.tenant_core.specs.Answer.{answer_made, answer_to, tick_made}
use Rattle.tenant_core.specs.Governed.{command_made, made_by}
use Rattle.tenant_core.specs.Judge.{decide_made, judge}
use Rattle.tenant_core.specs.State.{State}
use Rattle.tenant_core.specs.declared.command.Answered.{Answered}
use Rattle.tenant_core.specs.declared.command.Command.{Command}
use Rattle.tenant_core.specs.declared.faults.CommandFault.{CommandFault}
use Rattle.tenant_core.specs.declared.faults.HoldFault.{HoldFault}
use Rattle.tenant_core.specs.declared.journal.Record.{Record}
use Rattle.tenant_core.specs.declared.verdict.Verdict.{Verdict}
use Rattle.tenant_core.specs.declared.verdict.Verdict.TheVariants.{Unknown, NoRoom, Refuse, Fulfil, Forward, Relay}
use Rattle.floor_core.specs.Causes.{BringsBytes, Cause, HasCause, made_from}
use Rattle.floor_core.specs.Work.{Called, CameWithToken, IsJobOfBytes, IsWork, Job, Work, answer_call, decide_call, frame_call, given_by, job_answered, job_decided, settled_call, verdict_call}
use Rattle.floor_core.specs.World.{answer_key, heard, key_in}
use Rattle.floor_core.specs.declared.parts.Got.{Got}
use Rattle.floor_core.specs.declared.parts.Got.TheVariants as got
use Rattle.floor_core.specs.declared.step.PeerAnswer.{PeerAnswer}
use Rattle.one_list.specs.History.{LeadTo, after_record}
use Rattle.one_list.specs.declared.step.Done.{Done}
use Rattle.books_shared.specs.Traced.{HaveCauses}

abbrev pub IsCaused : State → Option Record → Type 0
IsCaused s made = IfSome made (λ r. HasCause s r)

by_cause : (s : State) (made : Option Record) (cause : Cause) → BringsBytes cause → made_from s cause ≡ made → IsCaused s made
by_cause s None cause brings e = tt
by_cause s (Some r) cause brings e = (cause, brings, e)

-- ---- a decide

packet_cause : (s : State) (token frame : List ℕ) (p : Prepare) (now : ℕ) → is_token token ≡ true → AreBytes frame → prepare_at frame ≡ Ok p
    → IsCaused s (decide_made s token (key_in p) now)
packet_cause s token frame p now named are reads =
    by_cause s (decide_made s token (key_in p) now) (Cause.Packet token frame now) are (rw (named, reads) refl)

verdict_cause : (s : State) (t : ℕ) (token : List ℕ) (p : Prepare) (room : List ℕ) (made : Option Record) (v : Verdict)
    → IsCaused s made → IsCaused s (verdict_call s t token p room made v).made
verdict_cause s t token p room made Unknown h = h
verdict_cause s t token p room made NoRoom h = h
verdict_cause s t token p room made (Refuse code amounts) h = h
verdict_cause s t token p room made Fulfil h = h
verdict_cause s t token p room made (Forward hold peer amount expiry) h = h
verdict_cause s t token p room made Relay h = h

frame_cause : (w : Work) (s : State) (t : ℕ) (token frame : List ℕ) (r : Result Prepare ViewFault) (now : ℕ) → is_token token ≡ true → AreBytes frame → prepare_at frame ≡ r
    → IsCaused s (frame_call w s t token r now).made
frame_cause w s t token frame (Ok p) now named are reads =
    verdict_cause s t token p w.room (decide_made s token (key_in p) now) (judge s token (key_in p) now) (packet_cause s token frame p now named are reads)
frame_cause w s t token frame (Err fault) now named are reads = tt

own_cause : (s : State) (b : Bool) (one other : Called) → IsCaused s one.made → IsCaused s other.made → IsCaused s (if b then one else other).made
own_cause s true one other h k = h
own_cause s false one other h k = k

decided_cause : (j : Job) (w : Work) (s : State) (now : ℕ) → CameWithToken j → IsJobOfBytes j → IsCaused s (job_decided j w s now).made
decided_cause Job.NoJob w s now named are = tt
decided_cause (Job.Carries t token frame) w s now named are =
    own_cause s (s.opening.tenant == t) _ _ (frame_cause w s t token frame (prepare_at frame) now named are refl) tt
decided_cause (Job.Waits t hold frame) w s now named are = tt

pub decide_cause : (w : Work) (s : State) (now : ℕ) → IsWork w → IsCaused s (decide_call w s now).made
decide_cause w s now is = decided_cause w.job w s now is.named is.octets

-- ---- an answer

heard_given : (room : List ℕ) (g : Got) → heard (given_by room g) ≡ given_by room g
heard_given room got.Fault = refl
heard_given room (got.Filled n) = by (ltb max_frame n) refl
  where
    by : (b : Bool) → ltb max_frame n ≡ b → heard (given_by room (got.Filled n)) ≡ given_by room (got.Filled n)
    by true e = rw e refl
    by false e =
        let short : length (take n room) ≤ n = subst (λ k. k ≤ n) (sym (length-take n room)) (min-le_left n (length room)) in
        let within = ltb-false max_frame n e in
        rw e (rw (le-ltb max_frame (length (take n room)) (omega arith)) refl)

settled_cause : (w : Work) (s : State) (g : PeerAnswer) (made : Option Record) (r : Result Verdict HoldFault) → IsCaused s made → IsCaused s (settled_call w s g made r).made
settled_cause w s g made (Ok v) h = h
settled_cause w s g made (Err fault) h = tt

answered_cause : (j : Job) (w : Work) (s : State) (now : ℕ) (g : PeerAnswer) → heard g ≡ g → IsCaused s (job_answered j w s now g).made
answered_cause Job.NoJob w s now g same = tt
answered_cause (Job.Carries t token frame) w s now g same = tt
answered_cause (Job.Waits t hold frame) w s now g same =
    own_cause s (s.opening.tenant == t) _ _
    (settled_cause w s g (answer_made s hold now (answer_key g)) (answer_to s hold now (answer_key g))
    (by_cause s (answer_made s hold now (answer_key g)) (Cause.Return hold now g) tt (ap (λ (x : PeerAnswer). answer_made s hold now (answer_key x)) same))) tt

pub answer_cause : (w : Work) (s : State) (now : ℕ) (g : Got) → IsCaused s (answer_call w s now g).made
answer_cause w s now g = answered_cause w.job w s now (given_by w.room g) (heard_given w.room g)

-- ---- a tick, and a command

pub tick_cause : (s : State) (now : ℕ) → IsCaused s (tick_made s now)
tick_cause s now = by_cause s (tick_made s now) (Cause.Moment now) tt refl

pub governed_cause : (r : Result Answered CommandFault) (s : State) (c : Command) (now : ℕ) → IsCaused s (made_by r s c now)
governed_cause (Ok answered) s c now = by_cause s (command_made s c now) (Cause.Order now c) tt refl
governed_cause (Err fault) s c now = tt

-- ---- many steps

-- a step more
pub causes_on : (from s : State) (steps : List Done) (e : Done) → LeadTo from steps s → HaveCauses from steps → HasCause s e.made → HaveCauses from (steps ++ e ∷ [])
causes_on from s [] e led causes cause = (subst (λ z. HasCause z e.made) (sym led) cause, tt)
causes_on from s (x ∷ xs) e led causes cause = (causes.0, causes_on (after_record from x.made) s xs e led.1 causes.1 cause)
