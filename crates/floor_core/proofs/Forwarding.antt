-- Each frame that steps send on is the one that its worker took in last, with another amount and another expiry.
use Rattle.std.proofs.Common.{◌≡◌, ◌≢◌, ◌<◌, ◌≤◌, ℕ, List, [], ◌∷◌, ◌++◌, length, get_or, take, drop, Bool, true, false, Option, Some, None, refl, inl, inr, sym, ap, subst, ◌∙◌, arith}
use Rattle.std.specs.Prelude.{Result, Ok, Err, IfOk, All, if◌then◌else◌}
use Rattle.std.specs.Int.{w64, to_be_bytes}
use Rattle.std.proofs.lemmas.Bool.{ne_eqb}
use Rattle.std.proofs.lemmas.Bool.Decides.{eqb_tells}
use Rattle.std.proofs.lemmas.List.{take-append-drop}
use Rattle.std.proofs.lemmas.List.Elements.{All-cons, All-head, All-nil, All-tail, All-take}
use Rattle.oer_core.specs.Length.{AreBytes}
use Rattle.ilp_addr.specs.Timestamp.{calendar_text, text_of_day, timestamp_of}
use Rattle.ilp_view.specs.Packet.{Prepare, IsPrepare, IsForwardOf, before_amount, behind_expiry}
use Rattle.ilp_view.specs.Reading.{prepare_at}
use Rattle.ilp_view.specs.declared.fault.ViewFault.{ViewFault}
use Rattle.common_types.specs.Token.{is_token}
use Rattle.tenant_core.specs.Answer.{answer_made, answer_to, ticked}
use Rattle.tenant_core.specs.Calls.{CallLaws}
use Rattle.tenant_core.specs.Governed.{commanded}
use Rattle.tenant_core.specs.Judge.{decide_made, judge}
use Rattle.tenant_core.specs.State.{State}
use Rattle.tenant_core.specs.declared.faults.HoldFault.{HoldFault}
use Rattle.tenant_core.specs.declared.verdict.Verdict.{Verdict}
use Rattle.tenant_core.specs.declared.verdict.Verdict.TheVariants.{Unknown, NoRoom, Refuse, Fulfil, Forward, Relay}
use Rattle.floor_core.specs.FloorView.{FloorState, Fits, IsSoundFloor, hand_by, no_seat, stage_of_frame, world_of}
use Rattle.floor_core.specs.Forwards.{AreForwards, AreTaken, HasBytes, HasTakenFrame, SendsForward, frames_after, frames_on}
use Rattle.floor_core.specs.Outputs.{shown}
use Rattle.floor_core.specs.Work.{Job, IsJobOfBytes, job_frame}
use Rattle.floor_core.specs.World.{Effect, FitsIn, Hand, Stage, Tenant, World, AreOutputs, answer_key, arrival, arrived, bytes_given, call_answered, call_decided, heard, key_in, no_effect, number_of, on_call, packet_or_fault, put, settled_reply, told}
use Rattle.floor_core.specs.Worlds.{world_after, replies, reply}
use Rattle.floor_core.specs.declared.step.PeerAnswer.{PeerAnswer}
use Rattle.floor_core.specs.declared.step.Malformed.{Malformed}
use Rattle.floor_core.specs.declared.step.Malformed.TheVariants as malformed
use Rattle.floor_core.specs.declared.step.Output.{Output}
use Rattle.floor_core.specs.declared.step.Output.TheVariants.{Busy, Idle, Reply}
use Rattle.floor_core.specs.declared.step.Step.{Step}
use Rattle.floor_core.specs.declared.step.Step.TheVariants.{Load, Decide, Answer, Tick, Govern}
use Rattle.floor_core.specs.declared.step.StepOutput.{StepOutput}
use Rattle.floor_core.proofs.Calls.{put-back, put-other, put-same}
use Rattle.floor_core.proofs.Effects.{answer_effect, arrival_effect, came, decide_effect, said, stage_after}
use Rattle.floor_core.proofs.Simulation.{carried_call}
use Rattle.floor_core.proofs.Views.{are_replies, one_list, ran}

-- what is read of bytes is a Prepare
abbrev Reads : Type 0
Reads = (frame : List ℕ) (p : Prepare) → AreBytes frame → prepare_at frame ≡ Ok p → IsPrepare frame p

-- other bytes in the places of the amount and the expiry make a forward of it
abbrev Forwards : Type 0
Forwards = (frame : List ℕ) (p : Prepare) (amount expiry : List ℕ) → IsPrepare frame p → length amount ≡ 8 → length expiry ≡ 17
    → IsForwardOf frame (before_amount p ++ (amount ++ (expiry ++ behind_expiry p)))

text_length : (moment : ℕ) → length (timestamp_of moment) ≡ 17
unfolding timestamp_of text_of_day calendar_text
text_length moment = refl

-- ---- what workers took in

-- a tenant keeps its number, gets more calls, and of those before none more that may be decided
record Grows (s x : Tenant) : Type 0 where
  number : number_of x ≡ number_of s
  more : s.next_call ≤ x.next_call
  calls : (call : ℕ) (token : List ℕ) (p : Prepare) → call < s.next_call → x.calls call ≡ Some (Stage.Ready token p)
      → s.calls call ≡ Some (Stage.Ready token p)

-- the world with that tenant
abbrev with_tenant : World → ℕ → Tenant → (ℕ → Hand) → World
with_tenant w t x hands = record { tenants = put w.tenants t x; hands = hands }

still : (bound : ℕ) (w : World) (t : ℕ) (x : Tenant) (hands : ℕ → Hand) (frame : List ℕ) (u call : ℕ) → Grows (w.tenants t) x
    → HasTakenFrame bound w frame u call → HasTakenFrame bound (with_tenant w t x hands) frame u call
still bound w t x hands frame u call grows h = elim (eqb_tells u t) [
  | inl a ↦
      let b : call < (w.tenants t).next_call = subst (λ k. call < (w.tenants k).next_call) a.1 h.loaded in
      let m = grows.more in
      record {
        there = h.there;
        loaded = rw a.0 (omega arith);
        packet = λ token p e. h.packet token p (subst (λ k. (w.tenants k).calls call ≡ Some (Stage.Ready token p)) (sym a.1) (grows.calls call token p b (rw a.0 at e)));
      }
  | inr a ↦ record { there = h.there; loaded = rw a.0 h.loaded; packet = λ token p e. h.packet token p (rw a.0 at e) }
]

numbers : (bound : ℕ) (w : World) (t : ℕ) (x : Tenant) → Grows (w.tenants t) x → ((u : ℕ) → u < bound → number_of (w.tenants u) ≡ u)
    → (u : ℕ) → u < bound → number_of (put w.tenants t x u) ≡ u
numbers bound w t x grows n u lt = elim (eqb_tells u t) [
  | inl a ↦ rw a.0 (grows.number ∙ (ap (λ k. number_of (w.tenants k)) (sym a.1) ∙ n u lt))
  | inr a ↦ rw a.0 (n u lt)
]

-- a step of a tenant by a worker
by_worker : (bound : ℕ) (w : World) (t v : ℕ) (x : Tenant) (z : Hand) (frames more : ℕ → List ℕ) → AreTaken bound w frames → Grows (w.tenants t) x
    → ((u : ℕ) → u ≢ v → more u ≡ frames u)
    → ((a c : ℕ) → z ≡ Hand.Has a c → HasTakenFrame bound (with_tenant w t x (put w.hands v z)) (more v) a c)
    → AreTaken bound (with_tenant w t x (put w.hands v z)) more
by_worker bound w t v x z frames more i grows same own = record {
  numbered = numbers bound w t x grows i.numbered;
  each = λ u a c e. elim (eqb_tells u v) [
    | inl q ↦ subst (λ k. HasTakenFrame bound (with_tenant w t x (put w.hands v z)) (more k) a c) (sym q.1) (own a c (rw q.0 at e))
    | inr q ↦ subst (λ (f : List ℕ). HasTakenFrame bound (with_tenant w t x (put w.hands v z)) f a c) (sym (same u q.1))
        (still bound w t x (put w.hands v z) (frames u) a c grows (i.each u a c (rw q.0 at e)))
  ];
}

-- a step of a tenant by nobody
by_nobody : (bound : ℕ) (w : World) (t : ℕ) (x : Tenant) (frames : ℕ → List ℕ) → AreTaken bound w frames → Grows (w.tenants t) x
    → AreTaken bound (with_tenant w t x w.hands) frames
by_nobody bound w t x frames i grows = record {
  numbered = numbers bound w t x grows i.numbered;
  each = λ u a c e. still bound w t x w.hands (frames u) a c grows (i.each u a c e);
}

-- ---- a step

-- what is to be shown of a step
record Next (bound : ℕ) (w : World) (frames : ℕ → List ℕ) (s : Step) : Type 0 where
  sends : SendsForward frames s (reply w s)
  taken : AreTaken bound (world_after w s) (frames_after frames s (reply w s))

-- where its output and the world after it are known
as_known : (bound : ℕ) (w : World) (frames : ℕ → List ℕ) (s : Step) (o : Output) (m : World) → reply w s ≡ o → world_after w s ≡ m
    → SendsForward frames s o → AreTaken bound m (frames_after frames s o) → Next bound w frames s
as_known bound w frames s o m out left sends taken = record {
  sends = subst (λ (x : Output). SendsForward frames s x) (sym out) sends;
  taken = subst (λ (x : Output). AreTaken bound (world_after w s) (frames_after frames s x)) (sym out)
      (subst (λ (y : World). AreTaken bound y (frames_after frames s o)) (sym left) taken);
}

-- a worker that keeps what it has in hand
same_world : (w : World) (v : ℕ) (h : Hand) → w.hands v ≡ h → (let m : World = record { tenants = w.tenants; hands = put w.hands v h } in m) ≡ w
same_world w v h e =
    let back : put w.hands v h ≡ w.hands = ap (put w.hands v) (sym e) ∙ put-back w.hands v in
    λ j. record { tenants = w.tenants; hands = back j }

-- and a tenant that keeps all
same_tenant : (w : World) (t v : ℕ) (h : Hand) → w.hands v ≡ h → with_tenant w t (w.tenants t) (put w.hands v h) ≡ w
same_tenant w t v h e =
    let back = put-back w.tenants t in
    (λ j. record { tenants = back j; hands = put w.hands v h }) ∙ same_world w v h e

not_has : (a c : ℕ) → Hand.Free ≡ Hand.Has a c → ⊥
not_has a c e = cc

has_call : (t k a c : ℕ) → Hand.Has t k ≡ Hand.Has a c → (t ≡ a) × (k ≡ c)
has_call t k a c e = (cc, cc)

some_ready : (token other : List ℕ) (p q : Prepare) → (let o : Option Stage = Some (Stage.Ready token p) in o) ≡ Some (Stage.Ready other q) → p ≡ q
some_ready token other p q e = cc

-- ---- a load

read_of : (b : Bool) (r : Result Prepare ViewFault) (p : Prepare) → (if b then packet_or_fault r else Err malformed.Token) ≡ Ok p → r ≡ Ok p
read_of true (Ok q) p e = let same : q ≡ p = cc in ap (λ (x : Prepare). Ok x) same
read_of true (Err f) p e = absurd cc
read_of false r p e = absurd cc

loaded_grows : (s : Tenant) (token : List ℕ) (p : Prepare) → Grows s (arrived s token (Ok p)).after
loaded_grows s token p = record {
  number = refl;
  more = omega arith;
  calls = λ call other q lt e. rw (ne_eqb call s.next_call (λ same. absurd (omega arith))) at e;
}

grows_not : (s : Tenant) → Grows s s
grows_not s = record { number = refl; more = omega arith; calls = λ call token p lt e. e }

load_good : Reads → (bound : ℕ) (w : World) (frames : ℕ → List ℕ) (v t : ℕ) (token bytes : List ℕ) (p : Prepare) → AreTaken bound w frames → t < bound → AreBytes bytes
    → w.hands v ≡ Hand.Free → arrival token bytes ≡ Ok p → Next bound w frames (Load v t token bytes)
load_good reads bound w frames v t token bytes p i lt are free arrives =
    let s = w.tenants t in
    let k = s.next_call in
    let x = (arrived s token (Ok p)).after in
    let z = Hand.Has (number_of s) k in
    let m = with_tenant w t x (put w.hands v z) in
    let effect = arrival_effect s token bytes (Ok p) arrives in
    let here : m.tenants t ≡ x = put-same w.tenants t x in
    let is : IsPrepare bytes p = reads bytes p are (read_of (is_token token) (prepare_at bytes) p arrives) in
    let own : HasTakenFrame bound m (put frames v bytes v) t k = record {
      there = lt;
      loaded = subst (λ (y : Tenant). k < y.next_call) (sym here) (omega arith);
      packet = λ other q e.
          subst (λ (f : List ℕ). IsPrepare f q) (sym (put-same frames v bytes))
          (subst (λ (y : Prepare). IsPrepare bytes y)
          (some_ready token other p q (sym (ap (λ (y : Tenant). y.calls k) here ∙ put-same s.calls k _) ∙ e)) is);
    } in
    as_known bound w frames (Load v t token bytes) (arrived s token (Ok p)).output m (rw free (ap (λ (y : Effect). y.output) effect)) (rw free (came w v t Hand.Free _ _ effect)) tt
    (by_worker bound w t v x z frames (put frames v bytes) i (loaded_grows s token p) (λ u ne. put-other frames v bytes u ne)
    (λ a c e.
    let same = has_call (number_of s) k a c e in
    subst (λ n. HasTakenFrame bound m (put frames v bytes v) n c) (sym (i.numbered t lt) ∙ same.0)
    (subst (λ n. HasTakenFrame bound m (put frames v bytes v) t n) same.1 own)))

load_bad : (bound : ℕ) (w : World) (frames : ℕ → List ℕ) (v t : ℕ) (token bytes : List ℕ) (wrong : Malformed) → AreTaken bound w frames
    → w.hands v ≡ Hand.Free → arrival token bytes ≡ Err wrong → Next bound w frames (Load v t token bytes)
load_bad bound w frames v t token bytes wrong i free arrives =
    let s = w.tenants t in
    let effect = arrival_effect s token bytes (Err wrong) arrives in
    as_known bound w frames (Load v t token bytes) (arrived s token (Err wrong)).output w (rw free (ap (λ (y : Effect). y.output) effect))
    (rw free (came w v t Hand.Free _ _ effect ∙ same_tenant w t v Hand.Free free)) tt i

load_free : Reads → (bound : ℕ) (w : World) (frames : ℕ → List ℕ) (v t : ℕ) (token bytes : List ℕ) → AreTaken bound w frames → t < bound → AreBytes bytes
    → w.hands v ≡ Hand.Free → (a : Result Prepare Malformed) → arrival token bytes ≡ a → Next bound w frames (Load v t token bytes)
load_free reads bound w frames v t token bytes i lt are free (Ok p) arrives = load_good reads bound w frames v t token bytes p i lt are free arrives
load_free reads bound w frames v t token bytes i lt are free (Err wrong) arrives = load_bad bound w frames v t token bytes wrong i free arrives

load_next : Reads → (bound : ℕ) (w : World) (frames : ℕ → List ℕ) (v t : ℕ) (token bytes : List ℕ) → AreTaken bound w frames → t < bound → AreBytes bytes
    → (h : Hand) → w.hands v ≡ h → Next bound w frames (Load v t token bytes)
load_next reads bound w frames v t token bytes i lt are Hand.Free e = load_free reads bound w frames v t token bytes i lt are e (arrival token bytes) refl
load_next reads bound w frames v t token bytes i lt are (Hand.Has u call) e =
    as_known bound w frames (Load v t token bytes) Busy w (rw e refl) (rw e (same_world w v (Hand.Has u call) e)) tt i
load_next reads bound w frames v t token bytes i lt are (Hand.Awaits u call) e =
    as_known bound w frames (Load v t token bytes) Busy w (rw e refl) (rw e (same_world w v (Hand.Awaits u call) e)) tt i

-- ---- a decide

not_loaded : (frames : ℕ → List ℕ) (v now : ℕ) (s : Tenant) (token : List ℕ) (p : Prepare) (verdict : Verdict) → frames_after frames (Decide v now) (said s token p verdict) ≡ frames
not_loaded frames v now s token p Unknown = refl
not_loaded frames v now s token p NoRoom = refl
not_loaded frames v now s token p (Refuse code amounts) = refl
not_loaded frames v now s token p Fulfil = refl
not_loaded frames v now s token p (Forward hold peer amount expiry) = refl
not_loaded frames v now s token p Relay = refl

has_none : (t call : ℕ) (s : Tenant) (token : List ℕ) (p : Prepare) (verdict : Verdict) (a c : ℕ) → told (Hand.Has t call) (said s token p verdict) ≡ Hand.Has a c → ⊥
has_none t call s token p Unknown a c e = cc
has_none t call s token p NoRoom a c e = cc
has_none t call s token p (Refuse code amounts) a c e = cc
has_none t call s token p Fulfil a c e = cc
has_none t call s token p (Forward hold peer amount expiry) a c e = cc
has_none t call s token p Relay a c e = cc

not_ready : (verdict : Verdict) (token : List ℕ) (p : Prepare) → stage_after verdict ≡ Some (Stage.Ready token p) → ⊥
not_ready Unknown token p e = cc
not_ready NoRoom token p e = cc
not_ready (Refuse code amounts) token p e = cc
not_ready Fulfil token p e = cc
not_ready (Forward hold peer amount expiry) token p e = cc
not_ready Relay token p e = cc

sends_forward : Forwards → (frames : ℕ → List ℕ) (v now : ℕ) (s : Tenant) (token : List ℕ) (p : Prepare) (verdict : Verdict) → IsPrepare (frames v) p
    → SendsForward frames (Decide v now) (said s token p verdict)
sends_forward forwards frames v now s token p Unknown is = tt
sends_forward forwards frames v now s token p NoRoom is = tt
sends_forward forwards frames v now s token p (Refuse code amounts) is = tt
sends_forward forwards frames v now s token p Fulfil is = tt
sends_forward forwards frames v now s token p (Forward hold peer amount expiry) is =
    forwards (frames v) p (to_be_bytes w64 amount) (timestamp_of expiry) is refl (text_length expiry)
sends_forward forwards frames v now s token p Relay is = tt

-- a call that ends, or goes on
ended_grows : (s : Tenant) (book : State) (call : ℕ) (stage : Option Stage) → book.opening.tenant ≡ number_of s
    → ((token : List ℕ) (p : Prepare) → stage ≡ Some (Stage.Ready token p) → ⊥)
    → Grows s (record { book = book; next_call = s.next_call; calls = put s.calls call stage })
ended_grows s book call stage number never = record {
  number = number;
  more = omega arith;
  calls = λ c token p lt e. elim (eqb_tells c call) [ inl a ↦ absurd (never token p (rw a.0 at e)) | inr a ↦ rw a.0 at e ];
}

decide_ready : Forwards → CallLaws → (bound : ℕ) (w : World) (frames : ℕ → List ℕ) (v now t call : ℕ) (token : List ℕ) (p : Prepare) → AreTaken bound w frames
    → w.hands v ≡ Hand.Has t call → (w.tenants t).calls call ≡ Some (Stage.Ready token p) → Next bound w frames (Decide v now)
decide_ready forwards laws bound w frames v now t call token p i hand stage =
    let s = w.tenants t in
    let verdict = judge s.book token (key_in p) now in
    let effect = decide_effect s call token p now (s.calls call) stage in
    let x = (on_call s call (stage_after verdict) (said s token p verdict) (decide_made s.book token (key_in p) now)).after in
    let z = told (Hand.Has t call) (said s token p verdict) in
    let is = (i.each v t call hand).packet token p stage in
    as_known bound w frames (Decide v now) (said s token p verdict) (with_tenant w t x (put w.hands v z))
    (rw hand (ap (λ (y : Effect). y.output) effect)) (rw hand (came w v t (Hand.Has t call) _ _ effect))
    (sends_forward forwards frames v now s token p verdict is)
    (subst (λ (f : ℕ → List ℕ). AreTaken bound (with_tenant w t x (put w.hands v z)) f) (sym (not_loaded frames v now s token p verdict))
    (by_worker bound w t v x z frames frames i
    (ended_grows s x.book call (stage_after verdict) (laws.same_decided s.book token (key_in p) now).number (not_ready verdict))
    (λ u ne. refl) (λ a c e. absurd (has_none t call s token p verdict a c e))))

-- nothing comes of the step
nothing_comes : (bound : ℕ) (w : World) (frames : ℕ → List ℕ) (v t : ℕ) (s : Step) (h : Hand) → AreTaken bound w frames → w.hands v ≡ h
    → reply w s ≡ Idle → world_after w s ≡ with_tenant w t (w.tenants t) (put w.hands v h)
    → SendsForward frames s Idle → frames_after frames s Idle ≡ frames → Next bound w frames s
nothing_comes bound w frames v t s h i hand out left sends same =
    as_known bound w frames s Idle w out (left ∙ same_tenant w t v h hand) sends (subst (λ (f : ℕ → List ℕ). AreTaken bound w f) (sym same) i)

decide_by : Forwards → CallLaws → (bound : ℕ) (w : World) (frames : ℕ → List ℕ) (v now t call : ℕ) → AreTaken bound w frames
    → w.hands v ≡ Hand.Has t call → (stage : Option Stage) → (w.tenants t).calls call ≡ stage → Next bound w frames (Decide v now)
decide_by forwards laws bound w frames v now t call i hand None e =
    let effect = ap (λ (o : Option Stage). call_decided (w.tenants t) call o now) e in
    nothing_comes bound w frames v t (Decide v now) (Hand.Has t call) i hand (rw hand (ap (λ (y : Effect). y.output) effect))
    (rw hand (came w v t (Hand.Has t call) _ _ effect)) tt refl
decide_by forwards laws bound w frames v now t call i hand (Some (Stage.Ready token p)) e = decide_ready forwards laws bound w frames v now t call token p i hand e
decide_by forwards laws bound w frames v now t call i hand (Some (Stage.Sent hold)) e =
    let effect = ap (λ (o : Option Stage). call_decided (w.tenants t) call o now) e in
    nothing_comes bound w frames v t (Decide v now) (Hand.Has t call) i hand (rw hand (ap (λ (y : Effect). y.output) effect))
    (rw hand (came w v t (Hand.Has t call) _ _ effect)) tt refl

decide_next : Forwards → CallLaws → (bound : ℕ) (w : World) (frames : ℕ → List ℕ) (v now : ℕ) → AreTaken bound w frames → (h : Hand) → w.hands v ≡ h
    → Next bound w frames (Decide v now)
decide_next forwards laws bound w frames v now i Hand.Free e = as_known bound w frames (Decide v now) Idle w (rw e refl) (rw e (same_world w v Hand.Free e)) tt i
decide_next forwards laws bound w frames v now i (Hand.Has t call) e = decide_by forwards laws bound w frames v now t call i e ((w.tenants t).calls call) refl
decide_next forwards laws bound w frames v now i (Hand.Awaits t call) e =
    as_known bound w frames (Decide v now) Idle w (rw e refl) (rw e (same_world w v (Hand.Awaits t call) e)) tt i

-- ---- an answer

none_ready : (token : List ℕ) (p : Prepare) → (let o : Option Stage = None in o) ≡ Some (Stage.Ready token p) → ⊥
none_ready token p e = cc

answer_settled : CallLaws → (bound : ℕ) (w : World) (frames : ℕ → List ℕ) (v now : ℕ) (given : PeerAnswer) (t call hold : ℕ) → AreTaken bound w frames
    → w.hands v ≡ Hand.Awaits t call → (w.tenants t).calls call ≡ Some (Stage.Sent hold)
    → (r : Result Verdict HoldFault) → answer_to (w.tenants t).book hold now (answer_key (heard given)) ≡ r → Next bound w frames (Answer v now given)
answer_settled laws bound w frames v now given t call hold i hand stage (Ok verdict) r =
    let s = w.tenants t in
    let key = answer_key (heard given) in
    let effect = answer_effect s call hold now (heard given) verdict (s.calls call) stage r in
    let x = on_call s call None (Reply (number_of s) (settled_reply s.book.opening.address (bytes_given (heard given)) verdict)) (answer_made s.book hold now key) in
    as_known bound w frames (Answer v now given) x.output (with_tenant w t x.after (put w.hands v Hand.Free))
    (rw hand (ap (λ (y : Effect). y.output) effect)) (rw hand (came w v t (Hand.Awaits t call) _ _ effect)) tt
    (by_worker bound w t v x.after Hand.Free frames frames i
    (ended_grows s x.after.book call None (laws.same_answered s.book hold now key).number none_ready)
    (λ u ne. refl) (λ a c e. absurd (not_has a c e)))
answer_settled laws bound w frames v now given t call hold i hand stage (Err fault) r =
    let s = w.tenants t in
    let effect : call_answered s call (s.calls call) now (heard given) ≡ no_effect s = rw (stage, call_answered) (rw r refl) in
    nothing_comes bound w frames v t (Answer v now given) (Hand.Awaits t call) i hand (rw hand (ap (λ (y : Effect). y.output) effect))
    (rw hand (came w v t (Hand.Awaits t call) _ _ effect)) tt refl

answer_by : CallLaws → (bound : ℕ) (w : World) (frames : ℕ → List ℕ) (v now : ℕ) (given : PeerAnswer) (t call : ℕ) → AreTaken bound w frames
    → w.hands v ≡ Hand.Awaits t call → (stage : Option Stage) → (w.tenants t).calls call ≡ stage → Next bound w frames (Answer v now given)
answer_by laws bound w frames v now given t call i hand None e =
    let effect = ap (λ (o : Option Stage). call_answered (w.tenants t) call o now (heard given)) e in
    nothing_comes bound w frames v t (Answer v now given) (Hand.Awaits t call) i hand (rw hand (ap (λ (y : Effect). y.output) effect))
    (rw hand (came w v t (Hand.Awaits t call) _ _ effect)) tt refl
answer_by laws bound w frames v now given t call i hand (Some (Stage.Ready token p)) e =
    let effect = ap (λ (o : Option Stage). call_answered (w.tenants t) call o now (heard given)) e in
    nothing_comes bound w frames v t (Answer v now given) (Hand.Awaits t call) i hand (rw hand (ap (λ (y : Effect). y.output) effect))
    (rw hand (came w v t (Hand.Awaits t call) _ _ effect)) tt refl
answer_by laws bound w frames v now given t call i hand (Some (Stage.Sent hold)) e =
    answer_settled laws bound w frames v now given t call hold i hand e (answer_to (w.tenants t).book hold now (answer_key (heard given))) refl

answer_next : CallLaws → (bound : ℕ) (w : World) (frames : ℕ → List ℕ) (v now : ℕ) (given : PeerAnswer) → AreTaken bound w frames → (h : Hand) → w.hands v ≡ h
    → Next bound w frames (Answer v now given)
answer_next laws bound w frames v now given i Hand.Free e = as_known bound w frames (Answer v now given) Idle w (rw e refl) (rw e (same_world w v Hand.Free e)) tt i
answer_next laws bound w frames v now given i (Hand.Has t call) e =
    as_known bound w frames (Answer v now given) Idle w (rw e refl) (rw e (same_world w v (Hand.Has t call) e)) tt i
answer_next laws bound w frames v now given i (Hand.Awaits t call) e = answer_by laws bound w frames v now given t call i e ((w.tenants t).calls call) refl

-- ---- every step

book_grows : (s : Tenant) (book : State) → book.opening.tenant ≡ number_of s → Grows s (record s { book = book })
book_grows s book number = record { number = number; more = omega arith; calls = λ call token p lt e. e }

next : Reads → Forwards → CallLaws → (workers bound : ℕ) (w : World) (frames : ℕ → List ℕ) (s : Step) → AreTaken bound w frames → FitsIn workers bound s → HasBytes s
    → Next bound w frames s
next reads forwards laws workers bound w frames (Load v t token bytes) i fits are = load_next reads bound w frames v t token bytes i fits.1 are (w.hands v) refl
next reads forwards laws workers bound w frames (Decide v now) i fits are = decide_next forwards laws bound w frames v now i (w.hands v) refl
next reads forwards laws workers bound w frames (Answer v now given) i fits are = answer_next laws bound w frames v now given i (w.hands v) refl
next reads forwards laws workers bound w frames (Tick t now) i fits are =
    record { sends = tt; taken = by_nobody bound w t _ frames i (book_grows (w.tenants t) (ticked (w.tenants t).book now) (laws.same_ticked (w.tenants t).book now).number) }
next reads forwards laws workers bound w frames (Govern t now command) i fits are =
    record { sends = tt; taken = by_nobody bound w t _ frames i (book_grows (w.tenants t) (commanded (w.tenants t).book command now) (laws.same_commanded (w.tenants t).book command now).number) }

all_next : Reads → Forwards → CallLaws → (workers bound : ℕ) (w : World) (frames : ℕ → List ℕ) (steps : List Step) → AreTaken bound w frames
    → All (FitsIn workers bound) steps → All HasBytes steps → AreForwards frames steps (replies w steps)
all_next reads forwards laws workers bound w frames [] i fits are = tt
all_next reads forwards laws workers bound w frames (s ∷ ss) i fits are =
    let n = next reads forwards laws workers bound w frames s i (All-head (FitsIn workers bound) s ss fits) (All-head HasBytes s ss are) in
    (n.sends, all_next reads forwards laws workers bound (world_after w s) (frames_after frames s (reply w s)) ss n.taken (All-tail (FitsIn workers bound) s ss fits) (All-tail HasBytes s ss are))

pub are_forwards : Reads → Forwards → CallLaws → (world : World) (frames : ℕ → List ℕ) (workers tenants : ℕ) (steps : List Step) (outputs : List Output)
    → AreTaken tenants world frames → All (FitsIn workers tenants) steps → All HasBytes steps → AreOutputs world steps outputs → AreForwards frames steps outputs
are_forwards reads forwards laws world frames workers tenants steps outputs taken fits bytes are =
    subst (λ (xs : List Output). AreForwards frames steps xs) (sym (one_list world steps outputs (replies world steps) are (are_replies world steps)))
    (all_next reads forwards laws workers tenants world frames steps taken fits bytes)

-- ---- the frames of a floor

read_at_stage : (token other : List ℕ) (r : Result Prepare ViewFault) (p : Prepare) → stage_of_frame token r ≡ Some (Stage.Ready other p) → r ≡ Ok p
read_at_stage token other (Ok q) p e = ap (λ (x : Prepare). Ok x) (some_ready token other q p e)
read_at_stage token other (Err fault) p e = absurd cc

taken_as : Reads → (f : FloorState) (v t : ℕ) (token frame : List ℕ) → (get_or f.seats v no_seat).slot.job ≡ Job.Carries t token frame → AreBytes frame → IsSoundFloor f
    → HasTakenFrame (length f.books) (world_of f) frame t (get_or f.seats v no_seat).call
taken_as reads f v t token frame e are i =
    let c = carried_call f v t (Job.Carries t token frame) e refl i in
    let below = i.below v (t, (get_or f.seats v no_seat).call) c.0 in
    record {
      there = below.0;
      loaded = below.1;
      packet = λ other p q. reads frame p are (read_at_stage token other (prepare_at frame) p (sym c.1 ∙ q));
    }

taken_by : Reads → (f : FloorState) (v t call : ℕ) (job : Job) → (get_or f.seats v no_seat).slot.job ≡ job → hand_by job (get_or f.seats v no_seat).call ≡ Hand.Has t call → IsJobOfBytes job → IsSoundFloor f
    → HasTakenFrame (length f.books) (world_of f) (job_frame job) t call
taken_by reads f v t call Job.NoJob e h are i = absurd cc
taken_by reads f v t call (Job.Carries u token frame) e h are i =
    let same = has_call u (get_or f.seats v no_seat).call t call h in
    subst (λ k. HasTakenFrame (length f.books) (world_of f) frame t k) same.1
    (subst (λ k. HasTakenFrame (length f.books) (world_of f) frame k (get_or f.seats v no_seat).call) same.0 (taken_as reads f v u token frame e are i))
taken_by reads f v t call (Job.Waits u hold frame) e h are i = absurd cc

-- they are what its workers took in
pub taken_on : Reads → (f : FloorState) → IsSoundFloor f → AreTaken (length f.books) (world_of f) (frames_on f)
taken_on reads f i = record {
  numbered = i.placed;
  each = λ v t call h. taken_by reads f v t call (get_or f.seats v no_seat).slot.job refl h (i.octets v) i;
}

-- what floors promise of the frames that go on
abbrev pub SendsOn : Type 0
SendsOn = (world : World) (frames : ℕ → List ℕ) (workers tenants : ℕ) (steps : List Step) (outputs : List Output)
    → AreTaken tenants world frames → All (FitsIn workers tenants) steps → All HasBytes steps
    → AreOutputs world steps outputs → AreForwards frames steps outputs

-- so it is of one step, if it is not refused memory
pub step_sends : {E : Type 0} → SendsOn → (f g : FloorState) (step : Step) (r : Result StepOutput E) → AreTaken (length f.books) (world_of f) (frames_on f) → Fits f step → HasBytes step
    → IfOk r (λ told. shown g.seats told ≡ reply (world_of f) step) → IfOk r (λ told. SendsForward (frames_on f) step (shown g.seats told))
step_sends law f g step (Ok told) taken fits bytes is =
    subst (λ (x : Output). SendsForward (frames_on f) step x) (sym is)
    (law (world_of f) (frames_on f) (length f.seats) (length f.books) (step ∷ []) (reply (world_of f) step ∷ []) taken
    (All-cons (Fits f) step [] fits (All-nil (Fits f))) (All-cons HasBytes step [] bytes (All-nil HasBytes)) (are_replies (world_of f) (step ∷ []))).0
step_sends law f g step (Err e) taken fits bytes is = tt

-- steps behind those that have outputs send nothing on
front_sends : (frames : ℕ → List ℕ) (ss more : List Step) (xs : List Output) → length xs ≡ length ss → AreForwards frames ss xs → AreForwards frames (ss ++ more) xs
front_sends frames [] [] xs n h = tt
front_sends frames [] (m ∷ more) [] n h = tt
front_sends frames [] (m ∷ more) (x ∷ xs) n h = absurd (omega arith)
front_sends frames (s ∷ ss) more [] n h = tt
front_sends frames (s ∷ ss) more (x ∷ xs) n h = (h.0, front_sends (frames_after frames s x) ss more xs (omega arith) h.1)

-- and of the steps that a loop has done
pub so_far_sends : SendsOn → (f : FloorState) (steps : List Step) (i : ℕ) (outputs : List Output) → AreTaken (length f.books) (world_of f) (frames_on f) → All (Fits f) steps
    → All HasBytes (take i steps) → outputs ≡ replies (world_of f) (take i steps) → AreForwards (frames_on f) steps outputs
so_far_sends law f steps i outputs taken fits bytes told =
    let are = ran (world_of f) (take i steps) outputs told in
    subst (λ (ss : List Step). AreForwards (frames_on f) ss outputs) (take-append-drop i steps)
    (front_sends (frames_on f) (take i steps) (drop i steps) outputs are.each_step
    (law (world_of f) (frames_on f) (length f.seats) (length f.books) (take i steps) outputs taken (All-take (Fits f) i steps fits) bytes are))
