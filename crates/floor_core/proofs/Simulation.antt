-- Each step of a floor is the step of the world that it shows.
use Rattle.std.proofs.Common.{◌≡◌, ◌<◌, ◌+◌, ℕ, List, [], length, get_or, set, Bool, true, false, eqb, ltb, Option, Some, None, refl, inl, inr, ◌⊎◌, sym, ap, subst, ◌∙◌, arith, get_or-set_same, get_or-set_other}
use Rattle.std.specs.Prelude.{Result, Ok, Err, is_ok}
use Rattle.std.proofs.Math.ListN.{length-set}
use Rattle.std.proofs.Math.Seq.{take-append_seam}
use Rattle.std.proofs.lemmas.List.{set-get_or}
use Rattle.std.proofs.lemmas.Bool.{eq-eqb}
use Rattle.std.proofs.lemmas.Bool.Decides.{eqb_tells}
use Rattle.common_types.specs.Token.{is_token}
use Rattle.oer_core.specs.Length.{AreBytes}
use Rattle.ilp_view.specs.declared.fault.ViewFault.{ViewFault}
use Rattle.ilp_view.specs.Packet.{Prepare, max_frame}
use Rattle.ilp_view.specs.Reading.{prepare_at}
use Rattle.tenant_core.specs.Answer.{answer_to, answered, ticked}
use Rattle.tenant_core.specs.Calls.{CallLaws}
use Rattle.tenant_core.specs.Governed.{commanded}
use Rattle.tenant_core.specs.Judge.{judge, decided, decide_made}
use Rattle.tenant_core.specs.State.{State}
use Rattle.tenant_core.specs.declared.journal.Record.{Record}
use Rattle.tenant_core.specs.declared.command.Command.{Command}
use Rattle.tenant_core.specs.declared.faults.HoldFault.{HoldFault}
use Rattle.tenant_core.specs.declared.verdict.Verdict.{Verdict}
use Rattle.tenant_core.specs.declared.verdict.Verdict.TheVariants.{Unknown, NoRoom, Refuse, Fulfil, Forward, Relay}
use Rattle.floor_core.specs.FloorView.{FloorState, hand_by, hands_of, carried_by, stage_in, stage_of_frame, calls_of, no_seat, tenant_of, carried_at, world_of, IsSoundFloor, Fits}
use Rattle.floor_core.specs.Forwards.{HasBytes}
use Rattle.floor_core.specs.Kept.{CallsMatchHolds}
use Rattle.floor_core.specs.Moves.{put_both, output_of, moved, turn_output, given_got, slot_filled}
use Rattle.floor_core.specs.Work.{Job, Work, IsJobOfBytes, IsReadable, verdict_call, given_by, settled_call}
use Rattle.floor_core.specs.World.{Effect, Stage, malformed_by, Tenant, Hand, World, bytes_given, put, heard, answer_key, key_in, settled_reply, told, no_book}
use Rattle.floor_core.specs.Worlds.{reply, world_after}
use Rattle.floor_core.specs.declared.floor.Seat.{Seat}
use Rattle.floor_core.specs.declared.step.PeerAnswer.{PeerAnswer}
use Rattle.floor_core.specs.declared.step.Malformed.TheVariants as malformed
use Rattle.floor_core.specs.declared.step.Output.TheVariants as output
use Rattle.floor_core.specs.declared.step.PeerAnswer.TheVariants as given
use Rattle.floor_core.specs.declared.step.Step.{Step}
use Rattle.floor_core.specs.declared.step.Step.TheVariants.{Load, Decide, Answer, Tick, Govern}
use Rattle.floor_core.proofs.Calls.{Apart, put-back, lookup}
use Rattle.floor_core.proofs.Changed.{Changes, Counts, world_changed, sound_changed, placed_set}
use Rattle.floor_core.proofs.Effects.{answer_effect, arrival_effect, decide_effect, said, stage_after}

-- what is to be shown of a step
pub record Simulates (f : FloorState) (step : Step) : Type 0 where
  pub output : output_of f step ≡ reply (world_of f) step
  pub world : world_of (moved f step) ≡ world_after (world_of f) step
  pub sound : IsSoundFloor (moved f step)

-- ---- what does not change

-- a seat put back is no change
same_seats : (seats : List Seat) (w : ℕ) → set seats w (record { slot = (get_or seats w no_seat).slot; call = (get_or seats w no_seat).call }) ≡ seats
same_seats seats w = set-get_or seats w no_seat

same_books : (books : List State) (t : ℕ) → set books t (get_or books t no_book) ≡ books
same_books books t = set-get_or books t no_book

same_state : (f : FloorState) (w t : ℕ) → put_both f w t (get_or f.seats w no_seat).slot (get_or f.books t no_book) ≡ f
same_state f w t =
    let p = same_seats f.seats w in
    let q = same_books f.books t in
    λ i. record { seats = p i; books = q i; next_calls = f.next_calls }

-- a worker that is told nothing new keeps what it has
same_hand : (ts : ℕ → Tenant) (hs : ℕ → Hand) (w : ℕ) (a b : Hand) → a ≡ b → (let x : World = record { tenants = ts; hands = put hs w a } in x) ≡ record { tenants = ts; hands = put hs w b }
same_hand ts hs w a b e = λ j. record { tenants = ts; hands = put hs w (e j) }

no_news : (f : FloorState) (w : ℕ) (z : Hand) → hands_of f.seats w ≡ z → world_of f ≡ record { tenants = tenant_of f; hands = put (hands_of f.seats) w z }
no_news f w z e = let back = put-back (hands_of f.seats) w in (λ j. record { tenants = tenant_of f; hands = sym back j }) ∙ same_hand (tenant_of f) (hands_of f.seats) w (hands_of f.seats w) z e

-- ---- a call that goes on, or ends

-- the call that a busy worker carries
pub carried_call : (f : FloorState) (w t : ℕ) (job : Job) → (get_or f.seats w no_seat).slot.job ≡ job → carried_by job (get_or f.seats w no_seat).call ≡ Some (t, (get_or f.seats w no_seat).call) → IsSoundFloor f
    → (carried_at f.seats w ≡ Some (t, (get_or f.seats w no_seat).call)) × (calls_of t f.seats (get_or f.seats w no_seat).call ≡ stage_in job)
carried_call f w t job e b i =
    let here : carried_at f.seats w ≡ Some (t, (get_or f.seats w no_seat).call) = rw e b in
    let apart : Apart f.seats = record { same = i.apart } in
    (here, lookup f.seats w (t, (get_or f.seats w no_seat).call) apart here ∙ ap stage_in e)

-- the slot after: its call goes on, or ends
pub record Goes (t k : ℕ) (job : Job) (stage : Option Stage) : Type 0 where
  pub stage_is : stage_in job ≡ stage
  pub ends : (job ≡ Job.NoJob) ⊎ (carried_by job k ≡ Some (t, k))
  pub readable : IsReadable job
  pub octets : IsJobOfBytes job

-- the change of a seat that carried call k of tenant t, and of its book
changes : (f : FloorState) (w t : ℕ) (old : Job) (new : Work) (stage : Option Stage) → w < length f.seats → IsSoundFloor f → (get_or f.seats w no_seat).slot.job ≡ old
    → carried_by old (get_or f.seats w no_seat).call ≡ Some (t, (get_or f.seats w no_seat).call) → Goes t (get_or f.seats w no_seat).call new.job stage
    → Changes f w t (get_or f.seats w no_seat).call (record { slot = new; call = (get_or f.seats w no_seat).call })
changes f w t old new stage lt i e b g =
    let c = carried_call f w t old e b i in
    record {
      worker = lt;
      tenant = (i.below w (t, (get_or f.seats w no_seat).call) c.0).0;
      apart = record { same = i.apart };
      others = λ v ne h. ne (i.apart v w (t, (get_or f.seats w no_seat).call) h c.0);
      old = inr c.0;
      new = g.ends;
      readable = g.readable;
      octets = g.octets;
    }

counts : (f : FloorState) (w t : ℕ) (old : Job) → IsSoundFloor f → (get_or f.seats w no_seat).slot.job ≡ old → carried_by old (get_or f.seats w no_seat).call ≡ Some (t, (get_or f.seats w no_seat).call)
    → Counts f t (get_or f.seats w no_seat).call f.next_calls
counts f w t old i e b =
    let c = carried_call f w t old e b i in
    record { as_many = refl; others = λ m ne. refl; more = omega arith; above = (i.below w (t, (get_or f.seats w no_seat).call) c.0).1 }

pub record Settles (f : FloorState) (w t : ℕ) (new : Work) (l : State) (stage : Option Stage) : Type 0 where
  pub world : world_of (put_both f w t new l)
      ≡ record { tenants = put (tenant_of f) t (record { book = l; next_call = get_or f.next_calls t 0; calls = put (calls_of t f.seats) (get_or f.seats w no_seat).call stage }); hands = put (hands_of f.seats) w (hand_by new.job (get_or f.seats w no_seat).call) }
  pub sound : IsSoundFloor (put_both f w t new l)

settles : (f : FloorState) (w t : ℕ) (old : Job) (new : Work) (l : State) (stage : Option Stage) → w < length f.seats → IsSoundFloor f → (get_or f.seats w no_seat).slot.job ≡ old
    → carried_by old (get_or f.seats w no_seat).call ≡ Some (t, (get_or f.seats w no_seat).call) → Goes t (get_or f.seats w no_seat).call new.job stage → l.opening.tenant ≡ t → Settles f w t new l stage
settles f w t old new l stage lt i e b g placed =
    let ch = changes f w t old new stage lt i e b g in
    let co = counts f w t old i e b in
    record {
      world = world_changed f w t (get_or f.seats w no_seat).call (record { slot = new; call = (get_or f.seats w no_seat).call }) l f.next_calls ch co ∙
          (let s = g.stage_is in
          λ j. record { tenants = put (tenant_of f) t (record { book = l; next_call = get_or f.next_calls t 0; calls = put (calls_of t f.seats) (get_or f.seats w no_seat).call (s j) }); hands = put (hands_of f.seats) w (hand_by new.job (get_or f.seats w no_seat).call) });
      sound = sound_changed f w t (get_or f.seats w no_seat).call (record { slot = new; call = (get_or f.seats w no_seat).call }) l f.next_calls i ch co placed;
    }

-- the world after what came of a step to a tenant
came : (f : FloorState) (w t : ℕ) (hand : Hand) (x y : Effect) → x ≡ y
    → (let m : World = record { tenants = put (tenant_of f) t x.after; hands = put (hands_of f.seats) w (told hand x.output) } in m)
    ≡ record { tenants = put (tenant_of f) t y.after; hands = put (hands_of f.seats) w (told hand y.output) }
came f w t hand x y e = λ j. record { tenants = put (tenant_of f) t (e j).after; hands = put (hands_of f.seats) w (told hand (e j).output) }

-- ---- a decide

told_by : (s : Tenant) (t k : ℕ) (token : List ℕ) (p : Prepare) (room : List ℕ) (made : Option Record) (v : Verdict) → hand_by (verdict_call s.book t token p room made v).work.job k ≡ told (Hand.Has t k) (said s token p v)
told_by s t k token p room made Unknown = refl
told_by s t k token p room made NoRoom = refl
told_by s t k token p room made (Refuse code amounts) = refl
told_by s t k token p room made Fulfil = refl
told_by s t k token p room made (Forward hold peer amount expiry) = refl
told_by s t k token p room made Relay = refl

goes_by_verdict : (s : State) (t k : ℕ) (token : List ℕ) (p : Prepare) (room : List ℕ) (made : Option Record) (v : Verdict) → Goes t k (verdict_call s t token p room made v).work.job (stage_after v)
goes_by_verdict s t k token p room made Unknown = record { stage_is = refl; ends = inl refl; readable = tt; octets = tt }
goes_by_verdict s t k token p room made NoRoom = record { stage_is = refl; ends = inl refl; readable = tt; octets = tt }
goes_by_verdict s t k token p room made (Refuse code amounts) = record { stage_is = refl; ends = inl refl; readable = tt; octets = tt }
goes_by_verdict s t k token p room made Fulfil = record { stage_is = refl; ends = inl refl; readable = tt; octets = tt }
goes_by_verdict s t k token p room made (Forward hold peer amount expiry) = record { stage_is = refl; ends = inr refl; readable = tt; octets = tt }
goes_by_verdict s t k token p room made Relay = record { stage_is = refl; ends = inl refl; readable = tt; octets = tt }

made_by : (s : State) (t : ℕ) (token : List ℕ) (p : Prepare) (room : List ℕ) (made : Option Record) (v : Verdict) → (verdict_call s t token p room made v).made ≡ made
made_by s t token p room made Unknown = refl
made_by s t token p room made NoRoom = refl
made_by s t token p room made (Refuse code amounts) = refl
made_by s t token p room made Fulfil = refl
made_by s t token p room made (Forward hold peer amount expiry) = refl
made_by s t token p room made Relay = refl

said_by : (s : Tenant) (t : ℕ) (token : List ℕ) (p : Prepare) (room : List ℕ) (made : Option Record) (v : Verdict) → s.book.opening.tenant ≡ t
    → turn_output t s.book (verdict_call s.book t token p room made v).work (verdict_call s.book t token p room made v).turn ≡ said s token p v
said_by s t token p room made Unknown e = rw e refl
said_by s t token p room made NoRoom e = rw e refl
said_by s t token p room made (Refuse code amounts) e = rw e refl
said_by s t token p room made Fulfil e = rw e refl
said_by s t token p room made (Forward hold peer amount expiry) e = rw e refl
said_by s t token p room made Relay e = rw e refl

decides_packet : CallLaws → (f : FloorState) (w now t : ℕ) (token frame : List ℕ) (p : Prepare) → w < length f.seats → IsSoundFloor f → (get_or f.seats w no_seat).slot.job ≡ Job.Carries t token frame
    → prepare_at frame ≡ Ok p → Simulates f (Decide w now)
decides_packet laws f w now t token frame p lt i e r =
    let c = carried_call f w t (Job.Carries t token frame) e refl i in
    let stage : calls_of t f.seats (get_or f.seats w no_seat).call ≡ Some (Stage.Ready token p) = c.1 ∙ ap (stage_of_frame token) r in
    let there : t < length f.books = (i.below w (t, (get_or f.seats w no_seat).call) c.0).0 in
    let book = get_or f.books t no_book in
    let k = (get_or f.seats w no_seat).call in
    let room = (get_or f.seats w no_seat).slot.room in
    let here : book.opening.tenant ≡ t = i.placed t there in
    let q : eqb book.opening.tenant t ≡ true = eq-eqb book.opening.tenant t here in
    let v = judge book token (key_in p) now in
    let l = decided book token (key_in p) now in
    let made = decide_made book token (key_in p) now in
    let s = settles f w t (Job.Carries t token frame) (verdict_call book t token p room made v).work l (stage_after v) lt i e refl (goes_by_verdict book t k token p room made v) ((laws.same_decided book token (key_in p) now).number ∙ here) in
    let m = made_by book t token p room made v in
    let own = tenant_of f t in
    let effect = decide_effect own k token p now (calls_of t f.seats k) stage in
    record {
      output = rw (e, e, q, r) (said_by own t token p room made v here ∙ sym (ap (λ (x : Effect). x.output) effect));
      world = rw (e, e, q, r, m) (s.world ∙ same_hand _ _ w _ _ (told_by own t k token p room made v) ∙ sym (came f w t (Hand.Has t k) _ _ effect));
      sound = rw (e, e, q, r, m) s.sound;
    }

decides_ready : CallLaws → (f : FloorState) (w now t : ℕ) (token frame : List ℕ) → w < length f.seats → IsSoundFloor f → (get_or f.seats w no_seat).slot.job ≡ Job.Carries t token frame
    → (r : Result Prepare ViewFault) → prepare_at frame ≡ r → is_ok r ≡ true → Simulates f (Decide w now)
decides_ready laws f w now t token frame lt i e (Ok p) r good = decides_packet laws f w now t token frame p lt i e r
decides_ready laws f w now t token frame lt i e (Err fault) r good = absurd cc

decides_idle : (f : FloorState) (w now : ℕ) → IsSoundFloor f → (get_or f.seats w no_seat).slot.job ≡ Job.NoJob → Simulates f (Decide w now)
decides_idle f w now i e = record { output = rw e refl; world = rw e (no_news f w Hand.Free (rw e refl)); sound = rw e i }

decides_sent : (f : FloorState) (w now t hold : ℕ) (frame : List ℕ) → IsSoundFloor f → (get_or f.seats w no_seat).slot.job ≡ Job.Waits t hold frame → Simulates f (Decide w now)
decides_sent f w now t hold frame i e =
    let s = same_state f w t in
    record {
      output = rw (e, e) refl;
      world = rw (e, e) (ap world_of s ∙ no_news f w (Hand.Awaits t (get_or f.seats w no_seat).call) (rw e refl));
      sound = rw (e, e) (rw s i);
    }

-- ---- an answer

-- what a slot takes in leaves its call
filled_job : (w : Work) (g : PeerAnswer) → (slot_filled w g).job ≡ w.job
filled_job w (given.Bytes bytes) = refl
filled_job w given.Fault = refl

-- and is what came back
heard_by : (w : Work) (g : PeerAnswer) → given_by (slot_filled w g).room (given_got g) ≡ heard g
heard_by w given.Fault = refl
heard_by w (given.Bytes bytes) = by (ltb max_frame (length bytes)) refl
  where
    by : (b : Bool) → ltb max_frame (length bytes) ≡ b → given_by (slot_filled w (given.Bytes bytes)).room (given_got (given.Bytes bytes)) ≡ heard (given.Bytes bytes)
    by true e = rw e refl
    by false e = rw (e, e) (ap (λ (xs : List ℕ). given.Bytes xs) (take-append_seam bytes _))

answers_idle : (f : FloorState) (w now : ℕ) (g : PeerAnswer) → IsSoundFloor f → (get_or f.seats w no_seat).slot.job ≡ Job.NoJob → Simulates f (Answer w now g)
answers_idle f w now g i e = record { output = rw e refl; world = rw e (no_news f w Hand.Free (rw e refl)); sound = rw e i }

answers_ready : (f : FloorState) (w now : ℕ) (g : PeerAnswer) (t : ℕ) (token frame : List ℕ) → IsSoundFloor f → (get_or f.seats w no_seat).slot.job ≡ Job.Carries t token frame → Simulates f (Answer w now g)
answers_ready f w now g t token frame i e =
    record { output = rw e refl; world = rw e (no_news f w (Hand.Has t (get_or f.seats w no_seat).call) (rw e refl)); sound = rw e i }

answers_settled : CallLaws → (f : FloorState) (w now : ℕ) (g : PeerAnswer) (t hold : ℕ) (frame : List ℕ) (v : Verdict) → w < length f.seats → IsSoundFloor f → (get_or f.seats w no_seat).slot.job ≡ Job.Waits t hold frame
    → answer_to (get_or f.books t no_book) hold now (answer_key (heard g)) ≡ Ok v → Simulates f (Answer w now g)
answers_settled laws f w now g t hold frame v lt i e r =
    let c = carried_call f w t (Job.Waits t hold frame) e refl i in
    let there : t < length f.books = (i.below w (t, (get_or f.seats w no_seat).call) c.0).0 in
    let book = get_or f.books t no_book in
    let slot = slot_filled (get_or f.seats w no_seat).slot g in
    let here : book.opening.tenant ≡ t = i.placed t there in
    let q : eqb book.opening.tenant t ≡ true = eq-eqb book.opening.tenant t here in
    let j : slot.job ≡ Job.Waits t hold frame = filled_job (get_or f.seats w no_seat).slot g ∙ e in
    let h : given_by slot.room (given_got g) ≡ heard g = heard_by (get_or f.seats w no_seat).slot g in
    let l = answered book hold now (answer_key (heard g)) in
    let s = settles f w t (Job.Waits t hold frame) (settled_call slot book (heard g) None (Ok v)).work l None lt i e refl (record { stage_is = refl; ends = inl refl; readable = tt; octets = tt }) ((laws.same_answered book hold now (answer_key (heard g))).number ∙ here) in
    let k = (get_or f.seats w no_seat).call in
    let effect = answer_effect (tenant_of f t) k hold now (heard g) v (calls_of t f.seats k) c.1 r in
    let text = settled_reply book.opening.address (bytes_given (heard g)) v in
    record {
      output = rw (e, j, h, q, r) (ap (λ n. output.Reply n text) (sym here) ∙ sym (ap (λ (x : Effect). x.output) effect));
      world = rw (e, j, h, q, r) (s.world ∙ sym (came f w t (Hand.Awaits t k) _ _ effect));
      sound = rw (e, j, h, q, r) s.sound;
    }

answers_sent : CallLaws → (f : FloorState) (w now : ℕ) (g : PeerAnswer) (t hold : ℕ) (frame : List ℕ) → w < length f.seats → IsSoundFloor f → (get_or f.seats w no_seat).slot.job ≡ Job.Waits t hold frame
    → (r : Result Verdict HoldFault) → answer_to (get_or f.books t no_book) hold now (answer_key (heard g)) ≡ r → is_ok r ≡ true → Simulates f (Answer w now g)
answers_sent laws f w now g t hold frame lt i e (Ok v) r good = answers_settled laws f w now g t hold frame v lt i e r
answers_sent laws f w now g t hold frame lt i e (Err fault) r good = absurd cc

-- ---- by what the worker carries

decide_by : CallLaws → (f : FloorState) (w now : ℕ) → w < length f.seats → IsSoundFloor f → (job : Job) → (get_or f.seats w no_seat).slot.job ≡ job → Simulates f (Decide w now)
decide_by laws f w now lt i Job.NoJob e = decides_idle f w now i e
decide_by laws f w now lt i (Job.Carries t token frame) e =
    decides_ready laws f w now t token frame lt i e (prepare_at frame) refl (subst IsReadable e (i.readable w))
decide_by laws f w now lt i (Job.Waits t hold frame) e = decides_sent f w now t hold frame i e

answer_by : CallLaws → (f : FloorState) (w now : ℕ) (g : PeerAnswer) → w < length f.seats → IsSoundFloor f → ((t : ℕ) → CallsMatchHolds (tenant_of f t)) → (job : Job) → (get_or f.seats w no_seat).slot.job ≡ job
    → Simulates f (Answer w now g)
answer_by laws f w now g lt i kept Job.NoJob e = answers_idle f w now g i e
answer_by laws f w now g lt i kept (Job.Carries t token frame) e = answers_ready f w now g t token frame i e
answer_by laws f w now g lt i kept (Job.Waits t hold frame) e =
    let c = carried_call f w t (Job.Waits t hold frame) e refl i in
    let awaited = (kept t).waits (get_or f.seats w no_seat).call hold c.1 in
    let key = answer_key (heard g) in
    answers_sent laws f w now g t hold frame lt i e (answer_to (get_or f.books t no_book) hold now key) refl (laws.settled (get_or f.books t no_book) hold now key ∙ awaited)

-- ---- a load

-- a slot that takes nothing is as it was
same_load : (f : FloorState) (w : ℕ) → record f { seats = set f.seats w (record { slot = (get_or f.seats w no_seat).slot; call = (get_or f.seats w no_seat).call }) } ≡ f
same_load f w = let p = same_seats f.seats w in λ j. record { seats = p j; books = f.books; next_calls = f.next_calls }

loads_carries : (f : FloorState) (w t : ℕ) (token bytes : List ℕ) (u : ℕ) (k frame : List ℕ) → IsSoundFloor f → (get_or f.seats w no_seat).slot.job ≡ Job.Carries u k frame → Simulates f (Load w t token bytes)
loads_carries f w t token bytes u k frame i e =
    let s = same_load f w in
    record {
      output = rw e refl;
      world = rw e (ap world_of s ∙ no_news f w (Hand.Has u (get_or f.seats w no_seat).call) (rw e refl));
      sound = rw e (rw s i);
    }

loads_waits : (f : FloorState) (w t : ℕ) (token bytes : List ℕ) (u hold : ℕ) (frame : List ℕ) → IsSoundFloor f → (get_or f.seats w no_seat).slot.job ≡ Job.Waits u hold frame → Simulates f (Load w t token bytes)
loads_waits f w t token bytes u hold frame i e =
    let s = same_load f w in
    record {
      output = rw e refl;
      world = rw e (ap world_of s ∙ no_news f w (Hand.Awaits u (get_or f.seats w no_seat).call) (rw e refl));
      sound = rw e (rw s i);
    }

-- the tenant put back is no change
no_news_of : (f : FloorState) (w t : ℕ) → hands_of f.seats w ≡ Hand.Free → world_of f ≡ record { tenants = put (tenant_of f) t (tenant_of f t); hands = put (hands_of f.seats) w Hand.Free }
no_news_of f w t e = no_news f w Hand.Free e ∙ (let back = put-back (tenant_of f) t in λ j. record { tenants = sym back j; hands = put (hands_of f.seats) w Hand.Free })

loads_no_token : (f : FloorState) (w t : ℕ) (token bytes : List ℕ) → t < length f.books → IsSoundFloor f → (get_or f.seats w no_seat).slot.job ≡ Job.NoJob → is_token token ≡ false → Simulates f (Load w t token bytes)
loads_no_token f w t token bytes there i e b =
    let s = same_load f w in
    let here = i.placed t there in
    let effect = arrival_effect (tenant_of f t) token bytes (Err malformed.Token) (rw b refl) in
    record {
      output = rw (e, b) (ap (λ n. output.Bad n malformed.Token) (sym here) ∙ sym (ap (λ (x : Effect). x.output) effect));
      world = rw (e, b) (ap world_of s ∙ no_news_of f w t (rw e refl) ∙ sym (came f w t Hand.Free _ _ effect));
      sound = rw (e, b) (rw s i);
    }

loads_bad : (f : FloorState) (w t : ℕ) (token bytes : List ℕ) (fault : ViewFault) → t < length f.books → IsSoundFloor f → (get_or f.seats w no_seat).slot.job ≡ Job.NoJob → is_token token ≡ true
    → prepare_at bytes ≡ Err fault → Simulates f (Load w t token bytes)
loads_bad f w t token bytes fault there i e b r =
    let s = same_load f w in
    let here = i.placed t there in
    let effect = arrival_effect (tenant_of f t) token bytes (Err (malformed_by fault)) (rw (b, r) refl) in
    record {
      output = rw (e, b, r) (ap (λ n. output.Bad n (malformed_by fault)) (sym here) ∙ sym (ap (λ (x : Effect). x.output) effect));
      world = rw (e, b, r) (ap world_of s ∙ no_news_of f w t (rw e refl) ∙ sym (came f w t Hand.Free _ _ effect));
      sound = rw (e, b, r) (rw s i);
    }

-- the seat after a good load
abbrev loaded_seat : FloorState → ℕ → ℕ → List ℕ → List ℕ → Seat
loaded_seat f w t token bytes = record { slot = record { job = Job.Carries t token bytes; target = None; expiry = None; reply = []; room = (get_or f.seats w no_seat).slot.room }; call = get_or f.next_calls t 0 }

fresh : (f : FloorState) (w t : ℕ) (token bytes : List ℕ) → w < length f.seats → t < length f.books → IsSoundFloor f → (get_or f.seats w no_seat).slot.job ≡ Job.NoJob → is_ok (prepare_at bytes) ≡ true → AreBytes bytes
    → Changes f w t (get_or f.next_calls t 0) (loaded_seat f w t token bytes)
fresh f w t token bytes lt there i e good are =
    record {
      worker = lt;
      tenant = there;
      apart = record { same = i.apart };
      others = λ v ne h. let b : get_or f.next_calls t 0 < get_or f.next_calls t 0 = (i.below v (t, get_or f.next_calls t 0) h).1 in omega arith;
      old = inl (rw e refl);
      new = inr refl;
      readable = good;
      octets = are;
    }

counted : (f : FloorState) (t : ℕ) → t < length f.books → IsSoundFloor f → Counts f t (get_or f.next_calls t 0) (set f.next_calls t (get_or f.next_calls t 0 + 1))
counted f t there i =
    let n : t < length f.next_calls = let a = i.as_many in omega arith in
    let e : get_or (set f.next_calls t (get_or f.next_calls t 0 + 1)) t 0 ≡ get_or f.next_calls t 0 + 1 = get_or-set_same f.next_calls t (get_or f.next_calls t 0 + 1) 0 n in
    record {
      as_many = length-set f.next_calls t (get_or f.next_calls t 0 + 1);
      others = λ m ne. get_or-set_other f.next_calls t m (get_or f.next_calls t 0 + 1) 0 ne;
      more = omega arith;
      above = omega arith;
    }

loads_good : (f : FloorState) (w t : ℕ) (token bytes : List ℕ) (p : Prepare) → w < length f.seats → t < length f.books → IsSoundFloor f → (get_or f.seats w no_seat).slot.job ≡ Job.NoJob → is_token token ≡ true
    → AreBytes bytes → prepare_at bytes ≡ Ok p → Simulates f (Load w t token bytes)
loads_good f w t token bytes p lt there i e b are r =
    let here = i.placed t there in
    let n : t < length f.next_calls = let a = i.as_many in omega arith in
    let k = get_or f.next_calls t 0 in
    let nexts = set f.next_calls t (k + 1) in
    let next : get_or nexts t 0 ≡ k + 1 = get_or-set_same f.next_calls t (k + 1) 0 n in
    let ch = fresh f w t token bytes lt there i e (ap is_ok r) are in
    let co = counted f t there i in
    let s : Seat = loaded_seat f w t token bytes in
    let same = same_books f.books t in
    let wc = world_changed f w t k s (get_or f.books t no_book) nexts ch co in
    let so = sound_changed f w t k s (get_or f.books t no_book) nexts i ch co here in
    let effect = arrival_effect (tenant_of f t) token bytes (Ok p) (rw (b, r) refl) in
    record {
      output = rw (e, b, r) (ap (λ n. output.Loaded n k) (sym here) ∙ sym (ap (λ (x : Effect). x.output) effect));
      world = rw (e, b, r) (
          ap (λ (z : List State). world_of (record { seats = set f.seats w s; books = z; next_calls = nexts })) (sym same)
          ∙ wc
          ∙ (λ j. record { tenants = put (tenant_of f) t (record { book = get_or f.books t no_book; next_call = next j; calls = put (calls_of t f.seats) k (stage_of_frame token (r j)) }); hands = put (hands_of f.seats) w (Hand.Has t k) })
          ∙ same_hand _ (hands_of f.seats) w _ _ (ap (λ x. Hand.Has x k) (sym here))
          ∙ sym (came f w t Hand.Free _ _ effect));
      sound = rw (e, b, r) (subst (λ (z : List State). IsSoundFloor (record { seats = set f.seats w s; books = z; next_calls = nexts })) same so);
    }

load_token : (f : FloorState) (w t : ℕ) (token bytes : List ℕ) → w < length f.seats → t < length f.books → IsSoundFloor f → (get_or f.seats w no_seat).slot.job ≡ Job.NoJob → is_token token ≡ true
    → AreBytes bytes → (r : Result Prepare ViewFault) → prepare_at bytes ≡ r → Simulates f (Load w t token bytes)
load_token f w t token bytes lt there i e b are (Ok p) r = loads_good f w t token bytes p lt there i e b are r
load_token f w t token bytes lt there i e b are (Err fault) r = loads_bad f w t token bytes fault there i e b r

load_free : (f : FloorState) (w t : ℕ) (token bytes : List ℕ) → w < length f.seats → t < length f.books → IsSoundFloor f → (get_or f.seats w no_seat).slot.job ≡ Job.NoJob
    → AreBytes bytes → (b : Bool) → is_token token ≡ b → Simulates f (Load w t token bytes)
load_free f w t token bytes lt there i e are true b = load_token f w t token bytes lt there i e b are (prepare_at bytes) refl
load_free f w t token bytes lt there i e are false b = loads_no_token f w t token bytes there i e b

load_by : (f : FloorState) (w t : ℕ) (token bytes : List ℕ) → w < length f.seats → t < length f.books → IsSoundFloor f → AreBytes bytes → (job : Job) → (get_or f.seats w no_seat).slot.job ≡ job → Simulates f (Load w t token bytes)
load_by f w t token bytes lt there i are Job.NoJob e = load_free f w t token bytes lt there i e are (is_token token) refl
load_by f w t token bytes lt there i are (Job.Carries u k frame) e = loads_carries f w t token bytes u k frame i e
load_by f w t token bytes lt there i are (Job.Waits u hold frame) e = loads_waits f w t token bytes u hold frame i e

-- ---- a tick, and a command

book_tenants : (f : FloorState) (t : ℕ) (l : State) → t < length f.books → (m : ℕ)
    → tenant_of (record { seats = f.seats; books = set f.books t l; next_calls = f.next_calls }) m ≡ put (tenant_of f) t (record { book = l; next_call = get_or f.next_calls t 0; calls = calls_of t f.seats }) m
book_tenants f t l there m =
    elim (eqb_tells m t) [
      | inl a ↦ rw a.0 (rw a.1 (let p = get_or-set_same f.books t l no_book there in λ j. record { book = p j; next_call = get_or f.next_calls t 0; calls = calls_of t f.seats }))
      | inr a ↦ rw a.0 (let p = get_or-set_other f.books t m l no_book a.1 in λ j. record { book = p j; next_call = get_or f.next_calls m 0; calls = calls_of m f.seats })
    ]

book_sound : (f : FloorState) (t : ℕ) (l : State) → t < length f.books → IsSoundFloor f → l.opening.tenant ≡ t → IsSoundFloor (record { seats = f.seats; books = set f.books t l; next_calls = f.next_calls })
book_sound f t l there i e =
    let le = length-set f.books t l in
    record {
      as_many = i.as_many ∙ sym le;
      placed = placed_set f.books t l there i.placed e;
      apart = i.apart;
      below = λ v c p. let b = i.below v c p in (rw le b.0, b.1);
      readable = i.readable;
      octets = i.octets;
    }

tick_by : CallLaws → (f : FloorState) (t now : ℕ) → t < length f.books → IsSoundFloor f → Simulates f (Tick t now)
tick_by laws f t now there i =
    let here = i.placed t there in
    let l = ticked (get_or f.books t no_book) now in
    record {
      output = rw here refl;
      world = λ j. record { tenants = λ m. book_tenants f t l there m j; hands = hands_of f.seats };
      sound = book_sound f t l there i ((laws.same_ticked (get_or f.books t no_book) now).number ∙ here);
    }

govern_by : CallLaws → (f : FloorState) (t now : ℕ) (command : Command) → t < length f.books → IsSoundFloor f → Simulates f (Govern t now command)
govern_by laws f t now command there i =
    let here = i.placed t there in
    let l = commanded (get_or f.books t no_book) command now in
    record {
      output = rw here refl;
      world = λ j. record { tenants = λ m. book_tenants f t l there m j; hands = hands_of f.seats };
      sound = book_sound f t l there i ((laws.same_commanded (get_or f.books t no_book) command now).number ∙ here);
    }

-- each step of a floor is the step of its world
pub simulates : CallLaws → (f : FloorState) (step : Step) → IsSoundFloor f → ((t : ℕ) → CallsMatchHolds (tenant_of f t)) → Fits f step → HasBytes step → Simulates f step
simulates laws f (Load w t token bytes) i kept h are = load_by f w t token bytes h.0 h.1 i are (get_or f.seats w no_seat).slot.job refl
simulates laws f (Decide w now) i kept h are = decide_by laws f w now h i (get_or f.seats w no_seat).slot.job refl
simulates laws f (Answer w now g) i kept h are = answer_by laws f w now g h i kept (get_or f.seats w no_seat).slot.job refl
simulates laws f (Tick t now) i kept h are = tick_by laws f t now h i
simulates laws f (Govern t now command) i kept h are = govern_by laws f t now command h i
