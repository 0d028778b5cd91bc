-- Records that something made in the books of many tenants are those of a list of steps.
use Rattle.std.proofs.Common.{◌≡◌, ◌≢◌, ◌<◌, ◌≤◌, ◌+◌, ℕ, List, [], ◌∷◌, ◌++◌, length, Bool, true, false, Option, Some, None, refl, inl, inr, ◌⊎◌, sym, ap, subst, ◌∙◌, arith}
use mathlib.Core.Logic.{dite}
use native.Mathlib.Decide.{dec_lt}
use Rattle.std.specs.Prelude.{◌&&◌, ◌||◌, ◌==◌, not, Result, Ok, Err, is_ok, All, slice_get}
use Rattle.std.proofs.lemmas.Bool.{eq-eqb, eqb-true}
use Rattle.std.proofs.lemmas.Bool.Decides.{eqb_tells}
use Rattle.std.proofs.lemmas.List.{append_assoc}
use Rattle.std.proofs.lemmas.List.Elements.{All-append, All-cons, All-head, All-nil, All-tail, All-weaker}
use Rattle.oer_core.specs.Length.{AreBytes}
use Rattle.ilp_view.specs.Packet.{Prepare}
use Rattle.tenant_core.specs.Answer.{answer_to, answer_made, answered}
use Rattle.tenant_core.specs.Calls.{CallLaws}
use Rattle.tenant_core.specs.Holds as of_holds
use Rattle.tenant_core.specs.Holds.{open_hold}
use Rattle.tenant_core.specs.Judge.{judge, decided, decide_made}
use Rattle.tenant_core.specs.OpenHolds.{OpenHoldLaws, is_awaited, begins}
use Rattle.tenant_core.specs.State.{State, opened}
use Rattle.tenant_core.specs.declared.command.Command.{Command}
use Rattle.tenant_core.specs.declared.faults.HoldFault.{HoldFault}
use Rattle.tenant_core.specs.declared.hold.Hold.{Hold}
use Rattle.tenant_core.specs.declared.journal.AnswerKey.{AnswerKey}
use Rattle.tenant_core.specs.declared.journal.Record.{Record}
use Rattle.tenant_core.specs.declared.opening.Opening.{Opening}
use Rattle.tenant_core.specs.declared.verdict.Verdict.{Verdict}
use Rattle.tenant_core.specs.declared.verdict.Verdict.TheVariants.{Unknown, NoRoom, Refuse, Fulfil, Forward, Relay}
use Rattle.floor_core.specs.Causes.{Cause, Entered, AreCaused, AreRun, ArePlaced, BringsBytes, all_made, book_opened, entered, left_from, made_from, made_in, packet_made, world_opened}
use Rattle.floor_core.specs.Forwards.{AreForwards, AreTaken, HasBytes, no_frames}
use Rattle.floor_core.specs.World.{AreOutputs, Effect, FitsIn, Stage, Tenant, Hand, World, put, arrival, arrived, key_in, answer_key, heard, told, owner}
use Rattle.floor_core.specs.Worlds.{world_after, after_all, replies}
use Rattle.floor_core.specs.declared.step.PeerAnswer.{PeerAnswer}
use Rattle.floor_core.specs.declared.step.Malformed.{Malformed}
use Rattle.floor_core.specs.declared.step.Output.{Output}
use Rattle.floor_core.specs.declared.step.Step.{Step}
use Rattle.floor_core.specs.declared.step.Step.TheVariants.{Load, Decide, Answer, Tick, Govern}
use Rattle.floor_core.proofs.Calls.{put-same, put-other}
use Rattle.floor_core.proofs.Effects.{answer_effect, arrival_effect, came, decide_effect, said, stage_after}
use Rattle.floor_core.proofs.Views.{after_all-append, are_replies, is_after}

-- ---- hands

abbrev is_free : Hand → Bool
is_free Hand.Free = true
is_free _ = false

abbrev call_in : Hand → ℕ
call_in (Hand.Awaits t call) = call
call_in _ = 0

abbrev tenant_in : Hand → ℕ
tenant_in (Hand.Awaits t call) = t
tenant_in _ = 0

abbrev hold_in : Option Stage → ℕ
hold_in (Some (Stage.Sent hold)) = hold
hold_in _ = 0

not_true : false ≡ true → ⊥
not_true e = cc

-- ---- a world in which the holds that are awaited are some workers'

-- the hold of a tenant awaits its answer in the hand of a worker
record IsAwaitedIn (w : World) (t hold : ℕ) : Type 0 where
  worker : ℕ
  call : ℕ
  hand : w.hands worker ≡ Hand.Awaits t call
  stage : (w.tenants t).calls call ≡ Some (Stage.Sent hold)
  below : call < (w.tenants t).next_call

-- each tenant below the bound stands at its number, workers from the next one on are free, and each awaited hold is in a hand
record IsGoing (bound next : ℕ) (w : World) : Type 0 where
  numbered : (t : ℕ) → t < bound → (w.tenants t).book.opening.tenant ≡ t
  free : (v : ℕ) → next ≤ v → w.hands v ≡ Hand.Free
  awaited : (t hold : ℕ) → is_awaited (w.tenants t).book hold ≡ true → IsAwaitedIn w t hold

-- one world comes from another where one tenant and one worker's hand change
record Moves (w m : World) (t v : ℕ) (x : Tenant) (z : Hand) : Type 0 where
  own : m.tenants t ≡ x
  others : (u : ℕ) → u ≢ t → m.tenants u ≡ w.tenants u
  hand : m.hands v ≡ z
  hands : (k : ℕ) → k ≢ v → m.hands k ≡ w.hands k

twice : (w m l : World) (t v : ℕ) (x y : Tenant) (z a : Hand) → Moves w m t v x z → Moves m l t v y a → Moves w l t v y a
twice w m l t v x y z a one other =
    record {
      own = other.own;
      others = λ u ne. other.others u ne ∙ one.others u ne;
      hand = other.hand;
      hands = λ k ne. other.hands k ne ∙ one.hands k ne;
    }

-- the books after it
books_moved : (w m : World) (t v : ℕ) (x : Tenant) (z : Hand) (s : State) → Moves w m t v x z → x.book ≡ s
    → (u : ℕ) → (m.tenants u).book ≡ put (λ k. (w.tenants k).book) t s u
books_moved w m t v x z s moves e u =
    elim (eqb_tells u t) [
      | inl a ↦ rw a.0 (ap (λ k. (m.tenants k).book) a.1 ∙ (ap (λ (y : Tenant). y.book) moves.own ∙ e))
      | inr a ↦ rw a.0 (ap (λ (y : Tenant). y.book) (moves.others u a.1))
    ]

-- the world goes on where the tenant's own awaited holds are in hands
goes_on : (bound next later : ℕ) (w m : World) (t v : ℕ) (x : Tenant) (z : Hand) → IsGoing bound next w → Moves w m t v x z
    → x.book.opening.tenant ≡ t → ((u call : ℕ) → u ≢ t → w.hands v ≢ Hand.Awaits u call)
    → ((k : ℕ) → later ≤ k → m.hands k ≡ Hand.Free)
    → ((hold : ℕ) → is_awaited x.book hold ≡ true → IsAwaitedIn m t hold) → IsGoing bound later m
goes_on bound next later w m t v x z g moves number apart free own =
    record {
      numbered = λ u lt. elim (eqb_tells u t) [
        | inl a ↦ ap (λ k. (m.tenants k).book.opening.tenant) a.1 ∙ (ap (λ (y : Tenant). y.book.opening.tenant) moves.own ∙ (number ∙ sym a.1))
        | inr a ↦ ap (λ (y : Tenant). y.book.opening.tenant) (moves.others u a.1) ∙ g.numbered u lt
      ];
      free = free;
      awaited = λ u hold is. elim (eqb_tells u t) [
        | inl a ↦ subst (λ k. IsAwaitedIn m k hold) (sym a.1)
            (own hold (ap (λ (y : Tenant). is_awaited y.book hold) (sym moves.own) ∙ (ap (λ k. is_awaited (m.tenants k).book hold) (sym a.1) ∙ is)))
        | inr a ↦
            let there = g.awaited u hold (ap (λ (y : Tenant). is_awaited y.book hold) (sym (moves.others u a.1)) ∙ is) in
            let ne : there.worker ≢ v = λ e. apart u there.call a.1 (ap w.hands (sym e) ∙ there.hand) in
            record {
              worker = there.worker;
              call = there.call;
              hand = moves.hands there.worker ne ∙ there.hand;
              stage = ap (λ (y : Tenant). y.calls there.call) (moves.others u a.1) ∙ there.stage;
              below = subst (λ (y : Tenant). there.call < y.next_call) (sym (moves.others u a.1)) there.below;
            }
      ];
    }

-- steps make that record in a tenant's book, and leave it so: of tenants below the bound, and of workers before the later one
record Goes (bound next : ℕ) (w : World) (t : ℕ) (r : Record) (s : State) : Type 0 where
  steps : List Step
  made : all_made w steps ≡ record { tenant = t; made = r } ∷ []
  later : ℕ
  grows : next ≤ later
  fit : All (FitsIn later bound) steps
  bytes : All HasBytes steps
  going : IsGoing bound later (after_all w steps)
  books : (u : ℕ) → ((after_all w steps).tenants u).book ≡ put (λ k. (w.tenants k).book) t s u

-- one step
one : (P : Step → Type 0) (s : Step) → P s → All P (s ∷ [])
one P s h = All-cons P s [] h (All-nil P)

entered_of : (t : ℕ) (made : Option Record) (r : Record) → made ≡ Some r → entered t made ++ [] ≡ record { tenant = t; made = r } ∷ []
entered_of t made r e = rw e refl

-- ---- a moment, and a command: the hands stay

-- the step changes the book of the tenant alone
stays : (w : World) (t v : ℕ) (x : Tenant) → w.hands v ≡ Hand.Free → Moves w (record { tenants = put w.tenants t x; hands = w.hands }) t v x Hand.Free
stays w t v x free =
    record {
      own = put-same w.tenants t x;
      others = λ u ne. put-other w.tenants t x u ne;
      hand = free;
      hands = λ k ne. refl;
    }

-- and leaves the holds that await their answers
still : (w : World) (t : ℕ) (s : State) (hold : ℕ) → IsAwaitedIn w t hold
    → IsAwaitedIn (record { tenants = put w.tenants t (record (w.tenants t) { book = s }); hands = w.hands }) t hold
still w t s hold there =
    let x : Tenant = record (w.tenants t) { book = s } in
    record {
      worker = there.worker;
      call = there.call;
      hand = there.hand;
      stage = ap (λ (y : Tenant). y.calls there.call) (put-same w.tenants t x) ∙ there.stage;
      below = subst (λ (y : Tenant). there.call < y.next_call) (sym (put-same w.tenants t x)) there.below;
    }

not_awaits : (h : Hand) (u call : ℕ) → h ≡ Hand.Free → h ≢ Hand.Awaits u call
not_awaits h u call free e = not_true (ap is_free (sym e ∙ free))

going_still : (bound next : ℕ) (w : World) (t : ℕ) (s : State) → IsGoing bound next w → s.opening.tenant ≡ t
    → ((hold : ℕ) → is_awaited s hold ≡ is_awaited (w.tenants t).book hold)
    → IsGoing bound next (record { tenants = put w.tenants t (record (w.tenants t) { book = s }); hands = w.hands })
going_still bound next w t s g number same =
    let x : Tenant = record (w.tenants t) { book = s } in
    let free : w.hands next ≡ Hand.Free = g.free next (omega arith) in
    goes_on bound next next w (record { tenants = put w.tenants t x; hands = w.hands }) t next x Hand.Free g
    (stays w t next x free) number (λ u call ne. not_awaits (w.hands next) u call free) g.free
    (λ hold is. still w t s hold (g.awaited t hold (sym (same hold) ∙ is)))

books_still : (w : World) (t next : ℕ) (s : State) → w.hands next ≡ Hand.Free → (u : ℕ)
    → (put w.tenants t (record (w.tenants t) { book = s }) u).book ≡ put (λ k. (w.tenants k).book) t s u
books_still w t next s free =
    books_moved w (record { tenants = put w.tenants t (record (w.tenants t) { book = s }); hands = w.hands }) t next
    (record (w.tenants t) { book = s }) Hand.Free s (stays w t next (record (w.tenants t) { book = s }) free) refl

moment_goes : OpenHoldLaws → CallLaws → (bound next : ℕ) (w : World) (t now : ℕ) (r : Record) → t < bound → IsGoing bound next w
    → made_from (w.tenants t).book (Cause.Moment now) ≡ Some r → Goes bound next w t r (left_from (w.tenants t).book (Cause.Moment now))
moment_goes holds calls bound next w t now r lt g e =
    let s = left_from (w.tenants t).book (Cause.Moment now) in
    record {
      steps = Tick t now ∷ [];
      made = entered_of t _ r e;
      later = next;
      grows = omega arith;
      fit = one (FitsIn next bound) (Tick t now) lt;
      bytes = one HasBytes (Tick t now) tt;
      going = going_still bound next w t s g ((calls.same_ticked (w.tenants t).book now).number ∙ g.numbered t lt) (λ hold. holds.ticked (w.tenants t).book now hold);
      books = books_still w t next s (g.free next (omega arith));
    }

order_goes : OpenHoldLaws → CallLaws → (bound next : ℕ) (w : World) (t now : ℕ) (command : Command) (r : Record) → t < bound → IsGoing bound next w
    → made_from (w.tenants t).book (Cause.Order now command) ≡ Some r → Goes bound next w t r (left_from (w.tenants t).book (Cause.Order now command))
order_goes holds calls bound next w t now command r lt g e =
    let s = left_from (w.tenants t).book (Cause.Order now command) in
    record {
      steps = Govern t now command ∷ [];
      made = entered_of t _ r e;
      later = next;
      grows = omega arith;
      fit = one (FitsIn next bound) (Govern t now command) lt;
      bytes = one HasBytes (Govern t now command) tt;
      going = going_still bound next w t s g ((calls.same_commanded (w.tenants t).book command now).number ∙ g.numbered t lt) (λ hold. holds.commanded (w.tenants t).book command now hold);
      books = books_still w t next s (g.free next (omega arith));
    }

-- ---- what came back: it settles a hold that a worker has in hand

-- the answer is awaited where it makes a record
awaited_made : (s : State) (hold now : ℕ) (key : AnswerKey) (o : Option Hold) (r : Record) → open_hold s hold ≡ o → answer_made s hold now key ≡ Some r
    → is_awaited s hold ≡ true
awaited_made s hold now key None r e made = absurd (not_made (rw e at made))
  where
    not_made : None ≡ Some r → ⊥
    not_made e = cc
awaited_made s hold now key (Some h) r e made = rw e refl

-- the tenant after the answer
abbrev answered_tenant : World → (t hold call now : ℕ) → PeerAnswer → Tenant
answered_tenant w t hold call now given =
    record {
      book = answered (w.tenants t).book hold now (answer_key (heard given));
      next_call = (w.tenants t).next_call;
      calls = put (w.tenants t).calls call None;
    }

-- the world after it
abbrev answered_world : World → (t hold call worker now : ℕ) → PeerAnswer → World
answered_world w t hold call worker now given =
    record { tenants = put w.tenants t (answered_tenant w t hold call now given); hands = put w.hands worker Hand.Free }

ok_of : (r : Result Verdict HoldFault) → is_ok r ≡ true → (v : Verdict) × (r ≡ Ok v)
ok_of (Ok v) e = (v, refl)
ok_of (Err fault) e = absurd (not_true e)

answer_after_step : (w : World) (t hold call worker now : ℕ) (given : PeerAnswer) (v : Verdict) → w.hands worker ≡ Hand.Awaits t call
    → (w.tenants t).calls call ≡ Some (Stage.Sent hold) → answer_to (w.tenants t).book hold now (answer_key (heard given)) ≡ Ok v
    → world_after w (Answer worker now given) ≡ answered_world w t hold call worker now given
answer_after_step w t hold call worker now given v hand stage settled =
    rw hand (came w worker t (Hand.Awaits t call) _ _ (answer_effect (w.tenants t) call hold now (heard given) v ((w.tenants t).calls call) stage settled))

answer_made_step : (w : World) (t hold call worker now : ℕ) (given : PeerAnswer) (v : Verdict) → w.hands worker ≡ Hand.Awaits t call
    → (w.tenants t).calls call ≡ Some (Stage.Sent hold) → answer_to (w.tenants t).book hold now (answer_key (heard given)) ≡ Ok v
    → made_in w (owner w.hands (Answer worker now given)) ≡ entered t (answer_made (w.tenants t).book hold now (answer_key (heard given)))
answer_made_step w t hold call worker now given v hand stage settled =
    rw hand (ap (λ (x : Effect). entered t x.made) (answer_effect (w.tenants t) call hold now (heard given) v ((w.tenants t).calls call) stage settled))

split : (a b : Bool) → (a && not b) ≡ true → (a ≡ true) × (b ≡ false)
split true true e = absurd (not_true e)
split true false e = (refl, refl)
split false b e = absurd (not_true e)

-- the other holds of the tenant are where they were
others_await : OpenHoldLaws → (bound next : ℕ) (w : World) (t hold now : ℕ) (given : PeerAnswer) (here : IsAwaitedIn w t hold) → IsGoing bound next w → (other : ℕ)
    → is_awaited (answered (w.tenants t).book hold now (answer_key (heard given))) other ≡ true
    → IsAwaitedIn (answered_world w t hold here.call here.worker now given) t other
others_await holds bound next w t hold now given here g other is =
    let parts = split (is_awaited (w.tenants t).book other) (other == hold) (sym (holds.answered (w.tenants t).book hold now (answer_key (heard given)) other) ∙ is) in
    let there = g.awaited t other parts.0 in
    let x = answered_tenant w t hold here.call now given in
    let ne_hold : other ≢ hold = λ e. not_true (sym parts.1 ∙ eq-eqb other hold e) in
    let ne_call : there.call ≢ here.call = λ e. ne_hold (ap hold_in (sym there.stage ∙ (ap (w.tenants t).calls e ∙ here.stage))) in
    let ne_worker : there.worker ≢ here.worker = λ e. ne_call (ap call_in (sym there.hand ∙ (ap w.hands e ∙ here.hand))) in
    record {
      worker = there.worker;
      call = there.call;
      hand = put-other w.hands here.worker Hand.Free there.worker ne_worker ∙ there.hand;
      stage = ap (λ (y : Tenant). y.calls there.call) (put-same w.tenants t x) ∙ (put-other (w.tenants t).calls here.call None there.call ne_call ∙ there.stage);
      below = subst (λ (y : Tenant). there.call < y.next_call) (sym (put-same w.tenants t x)) there.below;
    }

free_put : (hands : ℕ → Hand) (v k : ℕ) → hands k ≡ Hand.Free → put hands v Hand.Free k ≡ Hand.Free
free_put hands v k e = elim (eqb_tells k v) [ inl a ↦ rw a.0 refl | inr a ↦ rw a.0 e ]

return_moves : (w : World) (t hold call worker now : ℕ) (given : PeerAnswer)
    → Moves w (answered_world w t hold call worker now given) t worker (answered_tenant w t hold call now given) Hand.Free
return_moves w t hold call worker now given =
    record {
      own = put-same w.tenants t _;
      others = λ u ne. put-other w.tenants t _ u ne;
      hand = put-same w.hands worker Hand.Free;
      hands = λ k ne. put-other w.hands worker Hand.Free k ne;
    }

-- a worker with a call in hand is before the next one
at_work : (bound next : ℕ) (w : World) (t call worker : ℕ) → IsGoing bound next w → w.hands worker ≡ Hand.Awaits t call → worker < next
at_work bound next w t call worker g hand = dite (dec_lt worker next) (λ lt. lt)
    (λ not_below. absurd (not_awaits (w.hands worker) t call (g.free worker (omega arith)) hand))

return_goes : OpenHoldLaws → CallLaws → (bound next : ℕ) (w : World) (t hold now : ℕ) (given : PeerAnswer) (r : Record) → t < bound → IsGoing bound next w
    → made_from (w.tenants t).book (Cause.Return hold now given) ≡ Some r
    → Goes bound next w t r (left_from (w.tenants t).book (Cause.Return hold now given))
return_goes holds calls bound next w t hold now given r lt g e =
    let book = (w.tenants t).book in
    let key = answer_key (heard given) in
    let awaits : is_awaited book hold ≡ true = awaited_made book hold now key (open_hold book hold) r refl e in
    let here = g.awaited t hold awaits in
    let ok = ok_of (answer_to book hold now key) (calls.settled book hold now key ∙ awaits) in
    let m = answered_world w t hold here.call here.worker now given in
    let is : world_after w (Answer here.worker now given) ≡ m = answer_after_step w t hold here.call here.worker now given ok.0 here.hand here.stage ok.1 in
    let moves = return_moves w t hold here.call here.worker now given in
    let going : IsGoing bound next m =
    goes_on bound next next w m t here.worker (answered_tenant w t hold here.call now given) Hand.Free g moves
    ((calls.same_answered book hold now key).number ∙ g.numbered t lt)
    (λ u call ne e. ne (ap tenant_in (sym e ∙ here.hand)))
    (λ k le. free_put w.hands here.worker k (g.free k le))
    (others_await holds bound next w t hold now given here g) in
    record {
      steps = Answer here.worker now given ∷ [];
      made = ap (λ (es : List Entered). es ++ []) (answer_made_step w t hold here.call here.worker now given ok.0 here.hand here.stage ok.1) ∙ entered_of t _ r e;
      later = next;
      grows = omega arith;
      fit = one (FitsIn next bound) (Answer here.worker now given) (at_work bound next w t here.call here.worker g here.hand);
      bytes = one HasBytes (Answer here.worker now given) tt;
      going = subst (λ (y : World). IsGoing bound next y) (sym is) going;
      books = λ u. ap (λ (y : World). (y.tenants u).book) is
          ∙ books_moved w m t here.worker (answered_tenant w t hold here.call now given) Hand.Free (answered book hold now key) moves refl u;
    }

-- ---- a packet: a worker with nothing in hand takes it in, and the tenant decides it

-- the tenant, with the packet taken in
abbrev loaded_tenant : World → ℕ → List ℕ → Prepare → Tenant
loaded_tenant w t token p =
    record {
      book = (w.tenants t).book;
      next_call = (w.tenants t).next_call + 1;
      calls = put (w.tenants t).calls (w.tenants t).next_call (Some (Stage.Ready token p));
    }

abbrev loaded_world : World → (t worker : ℕ) → List ℕ → Prepare → World
loaded_world w t worker token p =
    record {
      tenants = put w.tenants t (loaded_tenant w t token p);
      hands = put w.hands worker (Hand.Has t (w.tenants t).next_call);
    }

load_after_step : (w : World) (t worker : ℕ) (token frame : List ℕ) (p : Prepare) → w.hands worker ≡ Hand.Free → (w.tenants t).book.opening.tenant ≡ t
    → arrival token frame ≡ Ok p → world_after w (Load worker t token frame) ≡ loaded_world w t worker token p
load_after_step w t worker token frame p free number arrives =
    rw free (came w worker t Hand.Free _ _ (arrival_effect (w.tenants t) token frame (Ok p) arrives)
    ∙ (λ j. record { tenants = put w.tenants t (loaded_tenant w t token p); hands = put w.hands worker (Hand.Has (number j) (w.tenants t).next_call) }))

-- an arrival makes no record
none_made : (s : Tenant) (token : List ℕ) (a : Result Prepare Malformed) → (arrived s token a).made ≡ None
none_made s token (Ok p) = refl
none_made s token (Err wrong) = refl

load_made_step : (w : World) (t worker : ℕ) (token frame : List ℕ) → w.hands worker ≡ Hand.Free → made_in w (owner w.hands (Load worker t token frame)) ≡ []
load_made_step w t worker token frame free =
    rw free (ap (λ (m : Option Record). entered t m) (none_made (w.tenants t) token (arrival token frame)))

-- the tenant, with the packet decided
abbrev decided_tenant : World → ℕ → List ℕ → Prepare → ℕ → Tenant
decided_tenant w t token p now =
    record {
      book = decided (w.tenants t).book token (key_in p) now;
      next_call = (w.tenants t).next_call + 1;
      calls = put (put (w.tenants t).calls (w.tenants t).next_call (Some (Stage.Ready token p))) (w.tenants t).next_call
          (stage_after (judge (w.tenants t).book token (key_in p) now));
    }

-- what the worker has in hand then
abbrev hand_left : ℕ → ℕ → Verdict → Hand
hand_left t call (Forward hold peer amount expiry) = Hand.Awaits t call
hand_left t call _ = Hand.Free

told_left : (s : Tenant) (token : List ℕ) (p : Prepare) (t call : ℕ) (v : Verdict) → told (Hand.Has t call) (said s token p v) ≡ hand_left t call v
told_left s token p t call Unknown = refl
told_left s token p t call NoRoom = refl
told_left s token p t call (Refuse code amounts) = refl
told_left s token p t call Fulfil = refl
told_left s token p t call (Forward hold peer amount expiry) = refl
told_left s token p t call Relay = refl

-- the step of the decide, in a world in which the worker has that call
decide_moves : (l : World) (t worker call now : ℕ) (token : List ℕ) (p : Prepare) → l.hands worker ≡ Hand.Has t call
    → (l.tenants t).calls call ≡ Some (Stage.Ready token p)
    → Moves l (world_after l (Decide worker now)) t worker
    (record {
      book = decided (l.tenants t).book token (key_in p) now;
      next_call = (l.tenants t).next_call;
      calls = put (l.tenants t).calls call (stage_after (judge (l.tenants t).book token (key_in p) now));
    }) (hand_left t call (judge (l.tenants t).book token (key_in p) now))
decide_moves l t worker call now token p hand stage =
    let effect = decide_effect (l.tenants t) call token p now ((l.tenants t).calls call) stage in
    record {
      own = rw hand (put-same l.tenants t _ ∙ ap (λ (x : Effect). x.after) effect);
      others = λ u ne. rw hand (put-other l.tenants t _ u ne);
      hand = put-same l.hands worker _ ∙ rw hand (ap (λ (x : Effect). told (Hand.Has t call) x.output) effect ∙ told_left (l.tenants t) token p t call (judge (l.tenants t).book token (key_in p) now));
      hands = λ k ne. rw hand (put-other l.hands worker _ k ne);
    }

decide_made_step : (l : World) (t worker call now : ℕ) (token : List ℕ) (p : Prepare) → l.hands worker ≡ Hand.Has t call
    → (l.tenants t).calls call ≡ Some (Stage.Ready token p)
    → made_in l (owner l.hands (Decide worker now)) ≡ entered t (decide_made (l.tenants t).book token (key_in p) now)
decide_made_step l t worker call now token p hand stage =
    rw hand (ap (λ (x : Effect). entered t x.made) (decide_effect (l.tenants t) call token p now ((l.tenants t).calls call) stage))

-- the verdict begins that hold where the hand awaits it
begun_in : (t call hold : ℕ) (v : Verdict) → begins hold v ≡ true → (hand_left t call v ≡ Hand.Awaits t call) × (stage_after v ≡ Some (Stage.Sent hold))
begun_in t call hold Unknown e = absurd (not_true e)
begun_in t call hold NoRoom e = absurd (not_true e)
begun_in t call hold (Refuse code amounts) e = absurd (not_true e)
begun_in t call hold Fulfil e = absurd (not_true e)
begun_in t call hold (Forward n peer amount expiry) e = (refl, ap (λ k. Some (Stage.Sent k)) (eqb-true n hold e))
begun_in t call hold Relay e = absurd (not_true e)

either : (a b : Bool) → (a || b) ≡ true → (a ≡ true) ⊎ (b ≡ true)
either true b e = inl refl
either false b e = inr e

left_free : (t call u other : ℕ) (v : Verdict) → u ≢ t → hand_left t call v ≢ Hand.Awaits u other
left_free t call u other Unknown ne e = not_true (ap is_free (sym e))
left_free t call u other NoRoom ne e = not_true (ap is_free (sym e))
left_free t call u other (Refuse code amounts) ne e = not_true (ap is_free (sym e))
left_free t call u other Fulfil ne e = not_true (ap is_free (sym e))
left_free t call u other (Forward hold peer amount expiry) ne e = ne (ap tenant_in (sym e))
left_free t call u other Relay ne e = not_true (ap is_free (sym e))

-- both steps as one move
packet_moves : (w : World) (t worker now : ℕ) (token frame : List ℕ) (p : Prepare) → w.hands worker ≡ Hand.Free → (w.tenants t).book.opening.tenant ≡ t
    → arrival token frame ≡ Ok p
    → Moves w (world_after (world_after w (Load worker t token frame)) (Decide worker now)) t worker (decided_tenant w t token p now)
    (hand_left t (w.tenants t).next_call (judge (w.tenants t).book token (key_in p) now))
packet_moves w t worker now token frame p free number arrives =
    let l = loaded_world w t worker token p in
    let x = loaded_tenant w t token p in
    let own : l.tenants t ≡ x = put-same w.tenants t x in
    let hand : l.hands worker ≡ Hand.Has t (w.tenants t).next_call = put-same w.hands worker _ in
    let stage : (l.tenants t).calls (w.tenants t).next_call ≡ Some (Stage.Ready token p)
    = ap (λ (y : Tenant). y.calls (w.tenants t).next_call) own ∙ put-same (w.tenants t).calls (w.tenants t).next_call _ in
    let first : Moves w l t worker x (Hand.Has t (w.tenants t).next_call) =
    record {
      own = own;
      others = λ u ne. put-other w.tenants t x u ne;
      hand = hand;
      hands = λ k ne. put-other w.hands worker _ k ne;
    } in
    let second = decide_moves l t worker (w.tenants t).next_call now token p hand stage in
    let both = twice w l (world_after l (Decide worker now)) t worker x _ _ _ first second in
    subst (λ (y : World). Moves w (world_after y (Decide worker now)) t worker (decided_tenant w t token p now)
    (hand_left t (w.tenants t).next_call (judge (w.tenants t).book token (key_in p) now)))
    (sym (load_after_step w t worker token frame p free number arrives))
    (subst (λ (y : Tenant). Moves w (world_after l (Decide worker now)) t worker
    (record {
      book = decided y.book token (key_in p) now;
      next_call = y.next_call;
      calls = put y.calls (w.tenants t).next_call (stage_after (judge y.book token (key_in p) now));
    }) (hand_left t (w.tenants t).next_call (judge y.book token (key_in p) now))) own both)

packet_made_steps : (w : World) (t worker now : ℕ) (token frame : List ℕ) (p : Prepare) → w.hands worker ≡ Hand.Free → (w.tenants t).book.opening.tenant ≡ t
    → arrival token frame ≡ Ok p
    → all_made w (Load worker t token frame ∷ Decide worker now ∷ []) ≡ entered t (decide_made (w.tenants t).book token (key_in p) now) ++ []
packet_made_steps w t worker now token frame p free number arrives =
    let l = loaded_world w t worker token p in
    let own : l.tenants t ≡ loaded_tenant w t token p = put-same w.tenants t _ in
    let hand : l.hands worker ≡ Hand.Has t (w.tenants t).next_call = put-same w.hands worker _ in
    let stage : (l.tenants t).calls (w.tenants t).next_call ≡ Some (Stage.Ready token p)
    = ap (λ (y : Tenant). y.calls (w.tenants t).next_call) own ∙ put-same (w.tenants t).calls (w.tenants t).next_call _ in
    ap (λ (es : List Entered). es ++ all_made (world_after w (Load worker t token frame)) (Decide worker now ∷ [])) (load_made_step w t worker token frame free)
    ∙ (ap (λ (y : World). all_made y (Decide worker now ∷ [])) (load_after_step w t worker token frame p free number arrives)
    ∙ (ap (λ (es : List Entered). es ++ []) (decide_made_step l t worker (w.tenants t).next_call now token p hand stage)
    ∙ ap (λ (y : Tenant). entered t (decide_made y.book token (key_in p) now) ++ []) own))

-- the holds of the tenant that await their answers: those before, and the one that the packet begins
packet_awaits : OpenHoldLaws → (bound next : ℕ) (w m : World) (t now : ℕ) (token : List ℕ) (p : Prepare) → IsGoing bound next w
    → Moves w m t next (decided_tenant w t token p now) (hand_left t (w.tenants t).next_call (judge (w.tenants t).book token (key_in p) now)) → (hold : ℕ)
    → is_awaited (decided (w.tenants t).book token (key_in p) now) hold ≡ true → IsAwaitedIn m t hold
packet_awaits holds bound next w m t now token p g moves hold is =
    let call = (w.tenants t).next_call in
    let ready : ℕ → Option Stage = put (w.tenants t).calls call (Some (Stage.Ready token p)) in
    let more : call < (m.tenants t).next_call = subst (λ (y : Tenant). call < y.next_call) (sym moves.own) (omega arith) in
    elim (either (is_awaited (w.tenants t).book hold) (begins hold (judge (w.tenants t).book token (key_in p) now))
    (sym (holds.decided (w.tenants t).book token (key_in p) now hold) ∙ is)) [
      | inl before ↦
          let there = g.awaited t hold before in
          let ne_worker : there.worker ≢ next = λ e. not_awaits (w.hands next) t there.call (g.free next (omega arith)) (ap w.hands (sym e) ∙ there.hand) in
          let ne_call : there.call ≢ call = λ e. let below = there.below in absurd (omega arith) in
          record {
            worker = there.worker;
            call = there.call;
            hand = moves.hands there.worker ne_worker ∙ there.hand;
            stage = ap (λ (y : Tenant). y.calls there.call) moves.own
                ∙ (put-other ready call _ there.call ne_call ∙ (put-other (w.tenants t).calls call (Some (Stage.Ready token p)) there.call ne_call ∙ there.stage));
            below = let below = there.below in omega arith;
          }
      | inr new ↦
          let begun = begun_in t call hold (judge (w.tenants t).book token (key_in p) now) new in
          record {
            worker = next;
            call = call;
            hand = moves.hand ∙ begun.0;
            stage = ap (λ (y : Tenant). y.calls call) moves.own ∙ (put-same ready call _ ∙ begun.1);
            below = more;
          }
    ]

read_packet : (s : State) (token : List ℕ) (a : Result Prepare Malformed) (now : ℕ) (r : Record) → packet_made s token a now ≡ Some r
    → (p : Prepare) × (a ≡ Ok p) × (decide_made s token (key_in p) now ≡ Some r)
read_packet s token (Ok p) now r e = (p, refl, e)
read_packet s token (Err wrong) now r e = absurd (none e)
  where
    none : None ≡ Some r → ⊥
    none e = cc

-- what a packet leaves
packet_left : (s : State) (token frame : List ℕ) (p : Prepare) (now : ℕ) → arrival token frame ≡ Ok p
    → decided s token (key_in p) now ≡ left_from s (Cause.Packet token frame now)
packet_left s token frame p now arrives = rw arrives refl

packet_goes : OpenHoldLaws → CallLaws → (bound next : ℕ) (w : World) (t now : ℕ) (token frame : List ℕ) (r : Record) → t < bound → AreBytes frame → IsGoing bound next w
    → made_from (w.tenants t).book (Cause.Packet token frame now) ≡ Some r
    → Goes bound next w t r (left_from (w.tenants t).book (Cause.Packet token frame now))
packet_goes holds calls bound next w t now token frame r lt are g e =
    let book = (w.tenants t).book in
    let read = read_packet book token (arrival token frame) now r e in
    let p = read.0 in
    let free : w.hands next ≡ Hand.Free = g.free next (omega arith) in
    let number = g.numbered t lt in
    let m = world_after (world_after w (Load next t token frame)) (Decide next now) in
    let moves : Moves w m t next (decided_tenant w t token p now) (hand_left t (w.tenants t).next_call (judge book token (key_in p) now))
    = packet_moves w t next now token frame p free number read.1 in
    record {
      steps = Load next t token frame ∷ Decide next now ∷ [];
      made = packet_made_steps w t next now token frame p free number read.1 ∙ entered_of t _ r read.2;
      later = next + 1;
      grows = omega arith;
      fit = All-cons (FitsIn (next + 1) bound) (Load next t token frame) (Decide next now ∷ []) (omega arith, lt) (one (FitsIn (next + 1) bound) (Decide next now) (omega arith));
      bytes = All-cons HasBytes (Load next t token frame) (Decide next now ∷ []) are (one HasBytes (Decide next now) tt);
      going = goes_on bound next (next + 1) w m t next (decided_tenant w t token p now) _ g moves
          ((calls.same_decided book token (key_in p) now).number ∙ number)
          (λ u call ne. not_awaits (w.hands next) u call free)
          (λ k le. moves.hands k (λ is. absurd (omega arith)) ∙ g.free k (omega arith))
          (packet_awaits holds bound next w m t now token p g moves);
      books = λ u. books_moved w m t next (decided_tenant w t token p now) _ (left_from book (Cause.Packet token frame now)) moves
          (packet_left book token frame p now read.1) u;
    }

-- ---- each record, and all of them

one_goes : OpenHoldLaws → CallLaws → (bound next : ℕ) (w : World) (t : ℕ) (cause : Cause) (r : Record) → t < bound → BringsBytes cause → IsGoing bound next w
    → made_from (w.tenants t).book cause ≡ Some r → Goes bound next w t r (left_from (w.tenants t).book cause)
one_goes holds calls bound next w t (Cause.Packet token frame now) r lt are g e = packet_goes holds calls bound next w t now token frame r lt are g e
one_goes holds calls bound next w t (Cause.Return hold now given) r lt are g e = return_goes holds calls bound next w t hold now given r lt g e
one_goes holds calls bound next w t (Cause.Moment now) r lt are g e = moment_goes holds calls bound next w t now r lt g e
one_goes holds calls bound next w t (Cause.Order now command) r lt are g e = order_goes holds calls bound next w t now command r lt g e

-- what fits fewer workers fits more
fits_more : (few many tenants : ℕ) → few ≤ many → (s : Step) → FitsIn few tenants s → FitsIn many tenants s
fits_more few many tenants le (Load worker tenant token bytes) h = (let a = h.0 in omega arith, h.1)
fits_more few many tenants le (Decide worker now) h = omega arith
fits_more few many tenants le (Answer worker now given) h = omega arith
fits_more few many tenants le (Tick tenant now) h = h
fits_more few many tenants le (Govern tenant now command) h = h

all_made-append : (w : World) (ss more : List Step) → all_made w (ss ++ more) ≡ all_made w ss ++ all_made (after_all w ss) more
all_made-append w [] more = refl
all_made-append w (s ∷ ss) more =
    ap (λ (es : List Entered). made_in w (owner w.hands s) ++ es) (all_made-append (world_after w s) ss more)
    ∙ sym (append_assoc (made_in w (owner w.hands s)) (all_made (world_after w s) ss) (all_made (after_all (world_after w s) ss) more))

-- steps from that world on make these records, and leave those books: of tenants below the bound, and workers of whom the next
-- ones are free
record GoOn (bound next : ℕ) (w : World) (entries : List Entered) (left : ℕ → State) : Type 0 where
  workers : ℕ
  enough : next ≤ workers
  steps : List Step
  fit : All (FitsIn workers bound) steps
  bytes : All HasBytes steps
  made : all_made w steps ≡ entries
  books : (t : ℕ) → ((after_all w steps).tenants t).book ≡ left t

all_go : OpenHoldLaws → CallLaws → (bound next : ℕ) (w : World) (entries : List Entered) (books left : ℕ → State) → IsGoing bound next w
    → ((t : ℕ) → (w.tenants t).book ≡ books t) → All (λ e. e.tenant < bound) entries → AreCaused books entries left → GoOn bound next w entries left
all_go holds calls bound next w [] books left g are below caused =
    record {
      workers = next;
      enough = omega arith;
      steps = [];
      fit = All-nil (FitsIn next bound);
      bytes = All-nil HasBytes;
      made = refl;
      books = λ t. are t ∙ caused t;
    }
all_go holds calls bound next w (e ∷ es) books left g are below (cause, brings, made, rest) =
    let t = e.tenant in
    let here : made_from (w.tenants t).book cause ≡ Some e.made = ap (λ (s : State). made_from s cause) (are t) ∙ made in
    let first = one_goes holds calls bound next w t cause e.made (All-head (λ x. x.tenant < bound) e es below) brings g here in
    let m = after_all w first.steps in
    let next_books : (u : ℕ) → (m.tenants u).book ≡ put books t (left_from (books t) cause) u =
    λ u. first.books u ∙ same_put u (are t) in
    let more = all_go holds calls bound first.later m es (put books t (left_from (books t) cause)) left first.going next_books (All-tail (λ x. x.tenant < bound) e es below) rest in
    let grows = first.grows in
    let enough = more.enough in
    record {
      workers = more.workers;
      enough = omega arith;
      steps = first.steps ++ more.steps;
      fit = All-append (FitsIn more.workers bound) first.steps more.steps
          (All-weaker (FitsIn first.later bound) (FitsIn more.workers bound) (fits_more first.later more.workers bound enough) first.steps first.fit) more.fit;
      bytes = All-append HasBytes first.steps more.steps first.bytes more.bytes;
      made = all_made-append w first.steps more.steps ∙ (ap (λ (xs : List Entered). xs ++ all_made m more.steps) first.made ∙ ap (λ (xs : List Entered). e ∷ xs) more.made);
      books = λ u. ap (λ (y : World). (y.tenants u).book) (after_all-append w first.steps more.steps) ∙ more.books u;
    }
  where
    same_put : (u : ℕ) → (w.tenants e.tenant).book ≡ books e.tenant
        → put (λ k. (w.tenants k).book) e.tenant (left_from (w.tenants e.tenant).book cause) u ≡ put books e.tenant (left_from (books e.tenant) cause) u
    same_put u is = elim (eqb_tells u e.tenant) [
      | inl a ↦ rw a.0 (ap (λ (s : State). left_from s cause) is)
      | inr a ↦ rw a.0 (are u)
    ]

-- ---- from openings on

none_awaited : (o : Opening) (hold : ℕ) → is_awaited (opened o) hold ≡ false
unfolding of_holds.holds_of
none_awaited o hold = refl

none_at : (o : Option Opening) (hold : ℕ) → is_awaited (book_opened o) hold ≡ false
unfolding of_holds.holds_of
none_at None hold = refl
none_at (Some o) hold = none_awaited o hold

begins_going : (openings : List Opening) → ArePlaced openings → IsGoing (length openings) 0 (world_opened openings)
begins_going openings placed =
    record {
      numbered = placed;
      free = λ v le. refl;
      awaited = λ t hold is. absurd (not_true (sym (none_at (slice_get openings t) hold) ∙ is));
    }

-- no worker has a frame, and the tenants stand at their numbers
begins_taken : (openings : List Opening) → ArePlaced openings → AreTaken (length openings) (world_opened openings) no_frames
begins_taken openings placed = record { numbered = placed; each = λ worker t call e. absurd cc }

-- each frame that goes on is a forward of the one that came
abbrev pub ForwardLaw : Type 0
ForwardLaw = (world : World) (frames : ℕ → List ℕ) (workers tenants : ℕ) (steps : List Step) (outputs : List Output)
    → AreTaken tenants world frames → All (FitsIn workers tenants) steps → All HasBytes steps → AreOutputs world steps outputs
    → AreForwards frames steps outputs

pub caused_are_run : OpenHoldLaws → CallLaws → ForwardLaw → (openings : List Opening) (entries : List Entered) (left : ℕ → State) → ArePlaced openings
    → All (λ e. e.tenant < length openings) entries → AreCaused (λ t. book_opened (slice_get openings t)) entries left → AreRun openings entries left
caused_are_run holds calls forwards openings entries left placed below caused =
    let w = world_opened openings in
    let go = all_go holds calls (length openings) 0 w entries (λ t. book_opened (slice_get openings t)) left
    (begins_going openings placed) (λ t. refl) below caused in
    record {
      workers = go.workers;
      steps = go.steps;
      fit = go.fit;
      bytes = go.bytes;
      made = go.made;
      outputs = replies w go.steps;
      last = after_all w go.steps;
      alone = are_replies w go.steps;
      ends = is_after w go.steps;
      books = go.books;
      forwards = forwards w no_frames go.workers (length openings) go.steps (replies w go.steps) (begins_taken openings placed) go.fit go.bytes (are_replies w go.steps);
    }
