-- Each event leaves a tenant's calls and holds in step, and an answer meets its hold.
use Rattle.std.proofs.Common.{◌≡◌, ◌≢◌, ◌+◌, ℕ, List, Bool, true, false, eqb, Option, Some, None, refl, inl, inr, ◌⊎◌, sym, ap, subst, ◌∙◌}
use Rattle.std.specs.Prelude.{◌||◌, ◌&&◌, not, Result, Ok, Err}
use Rattle.std.proofs.lemmas.Bool.{eq-eqb, ne_eqb}
use Rattle.std.proofs.lemmas.Bool.Decides.{eqb_tells}
use Rattle.ilp_view.specs.Packet.{Prepare}
use Rattle.tenant_core.specs.Answer.{answer_to, answer_made, ticked}
use Rattle.tenant_core.specs.Governed.{commanded}
use Rattle.tenant_core.specs.Judge.{judge, decided}
use Rattle.tenant_core.specs.OpenHolds.{is_awaited, begins, OpenHoldLaws}
use Rattle.tenant_core.specs.Sound.{IsSound}
use Rattle.tenant_core.specs.State.{State, recorded}
use Rattle.tenant_core.specs.declared.faults.HoldFault.{HoldFault}
use Rattle.tenant_core.specs.declared.journal.Record.{Record}
use Rattle.tenant_core.specs.declared.verdict.Verdict.{Verdict}
use Rattle.tenant_core.specs.declared.verdict.Verdict.TheVariants.{Unknown, NoRoom, Refuse, Fulfil, Forward, Relay}
use Rattle.floor_core.specs.Kept.{CallsMatchHolds}
use Rattle.floor_core.specs.World.{Effect, Stage, Tenant, Event, put, after_alone, arrived, call_answered, call_decided, call_settled, key_in, answer_key, heard, arrival}
use Rattle.floor_core.specs.declared.step.PeerAnswer.{PeerAnswer}
use Rattle.floor_core.specs.declared.step.Malformed.{Malformed}
use Rattle.floor_core.proofs.Effects.{decide_effect, stage_after}

-- a tenant of these parts
abbrev pub of_parts : State → ℕ → (ℕ → Option Stage) → Tenant
of_parts book next_call calls = record { book = book; next_call = next_call; calls = calls }

-- what stands at a place of put
put_at : (f : ℕ → Option Stage) (k : ℕ) (v : Option Stage) (n : ℕ) (z : Option Stage) → put f k v n ≡ z → ((n ≡ k) × (v ≡ z)) ⊎ ((n ≢ k) × (f n ≡ z))
put_at f k v n z h = elim (eqb_tells n k) [ inl a ↦ inl (a.1, rw a.0 at h) | inr a ↦ inr (a.1, rw a.0 at h) ]

unsent_none : (o : Option Stage) → o ≡ None → (h : ℕ) → o ≢ Some (Stage.Sent h)
unsent_none o n h e = cc

unsent_ready : (token : List ℕ) (p : Prepare) (h : ℕ) → (let o : Option Stage = Some (Stage.Ready token p) in o) ≢ Some (Stage.Sent h)
unsent_ready token p h e = cc

-- a call that is not sent takes the place of any other
unsent : (s : Tenant) (book : State) (next k : ℕ) (v : Option Stage) → ((h : ℕ) → v ≢ Some (Stage.Sent h))
    → ((h : ℕ) → is_awaited s.book h ≡ true → is_awaited book h ≡ true) → CallsMatchHolds s → CallsMatchHolds (of_parts book next (put s.calls k v))
unsent s book next k v ne more i = record {
  waits = λ n h p. elim (put_at s.calls k v n (Some (Stage.Sent h)) p) [
    | inl a ↦ absurd (ne h a.1)
    | inr a ↦ more h (i.waits n h a.1)
  ];
  apart = λ n m h p q. elim (put_at s.calls k v n (Some (Stage.Sent h)) p) [
    | inl a ↦ absurd (ne h a.1)
    | inr a ↦ elim (put_at s.calls k v m (Some (Stage.Sent h)) q) [ inl b ↦ absurd (ne h b.1) | inr b ↦ i.apart n m h a.1 b.1 ]
  ];
}

-- calls that stay, where no hold ends
stays : (s : Tenant) (book : State) → ((h : ℕ) → is_awaited book h ≡ is_awaited s.book h) → CallsMatchHolds s → CallsMatchHolds (of_parts book s.next_call s.calls)
stays s book same i = record { waits = λ n h p. same h ∙ i.waits n h p; apart = i.apart }

same_hold : (g h : ℕ) → (let x : Option Stage = Some (Stage.Sent g) in x) ≡ Some (Stage.Sent h) → g ≡ h
same_hold g h e = cc

-- a call that is sent under a hold that nobody awaited
sent : (s : Tenant) (book : State) (next k hold : ℕ) → is_awaited s.book hold ≡ false → is_awaited book hold ≡ true
    → ((h : ℕ) → is_awaited s.book h ≡ true → is_awaited book h ≡ true) → CallsMatchHolds s → CallsMatchHolds (of_parts book next (put s.calls k (Some (Stage.Sent hold))))
sent s book next k hold new begun more i = record {
  waits = λ n h p. elim (put_at s.calls k (Some (Stage.Sent hold)) n (Some (Stage.Sent h)) p) [
    | inl a ↦ ap (is_awaited book) (sym (same_hold hold h a.1)) ∙ begun
    | inr a ↦ more h (i.waits n h a.1)
  ];
  apart = λ n m h p q. elim (put_at s.calls k (Some (Stage.Sent hold)) n (Some (Stage.Sent h)) p) [
    | inl a ↦ elim (put_at s.calls k (Some (Stage.Sent hold)) m (Some (Stage.Sent h)) q) [
      | inl b ↦ a.0 ∙ sym b.0
      | inr b ↦ absurd (taken h (same_hold hold h a.1) (i.waits m h b.1))
    ]
    | inr a ↦ elim (put_at s.calls k (Some (Stage.Sent hold)) m (Some (Stage.Sent h)) q) [
      | inl b ↦ absurd (taken h (same_hold hold h b.1) (i.waits n h a.1))
      | inr b ↦ i.apart n m h a.1 b.1
    ]
  ];
}
  where
    taken : (h : ℕ) → hold ≡ h → is_awaited s.book h ≡ true → ⊥
    taken h e awaited = let x : true ≡ false = sym awaited ∙ ap (is_awaited s.book) (sym e) ∙ new in cc

or_left : (a b : Bool) → a ≡ true → (a || b) ≡ true
or_left a b e = rw e refl

or_right : (a b : Bool) → b ≡ true → (a || b) ≡ true
or_right true b e = refl
or_right false b e = e

-- a decide leaves a tenant kept
decided_kept : (s : Tenant) (book : State) (k : ℕ) (v : Verdict) → ((h : ℕ) → is_awaited book h ≡ (is_awaited s.book h || begins h v))
    → ((h : ℕ) → begins h v ≡ true → is_awaited s.book h ≡ false) → CallsMatchHolds s → CallsMatchHolds (of_parts book s.next_call (put s.calls k (stage_after v)))
decided_kept s book k Unknown is new i = unsent s book s.next_call k None (unsent_none None refl) (λ h a. is h ∙ or_left (is_awaited s.book h) (begins h Unknown) a) i
decided_kept s book k NoRoom is new i = unsent s book s.next_call k None (unsent_none None refl) (λ h a. is h ∙ or_left (is_awaited s.book h) (begins h NoRoom) a) i
decided_kept s book k (Refuse code amounts) is new i = unsent s book s.next_call k None (unsent_none None refl) (λ h a. is h ∙ or_left (is_awaited s.book h) (begins h (Refuse code amounts)) a) i
decided_kept s book k Fulfil is new i = unsent s book s.next_call k None (unsent_none None refl) (λ h a. is h ∙ or_left (is_awaited s.book h) (begins h Fulfil) a) i
decided_kept s book k Relay is new i = unsent s book s.next_call k None (unsent_none None refl) (λ h a. is h ∙ or_left (is_awaited s.book h) (begins h Relay) a) i
decided_kept s book k (Forward hold peer amount expiry) is new i =
    let here : eqb hold hold ≡ true = eq-eqb hold hold refl in
    sent s book s.next_call k hold (new hold here) (is hold ∙ or_right (is_awaited s.book hold) (eqb hold hold) here)
    (λ h a. is h ∙ or_left (is_awaited s.book h) (eqb hold h) a) i

decide_kept : OpenHoldLaws → (s : Tenant) (k now : ℕ) (o : Option Stage) → IsSound s.book → CallsMatchHolds s → CallsMatchHolds (call_decided s k o now).after
decide_kept laws s k now None sound i = i
decide_kept laws s k now (Some (Stage.Ready token p)) sound i =
    let v = judge s.book token (key_in p) now in
    subst (λ (x : Effect). CallsMatchHolds x.after) (sym (decide_effect s k token p now (Some (Stage.Ready token p)) refl))
    (decided_kept s (decided s.book token (key_in p) now) k v (laws.decided s.book token (key_in p) now)
    (λ h b. ap (is_awaited s.book) (laws.begun s.book token (key_in p) now h sound b) ∙ laws.fresh s.book sound) i)
decide_kept laws s k now (Some (Stage.Sent hold)) sound i = i

-- another hold is awaited after an answer, if it was before
other_stays : (a : Bool) (n m : ℕ) → n ≢ m → a ≡ true → (a && not (eqb n m)) ≡ true
other_stays a n m ne e = rw e (rw (ne_eqb n m ne) refl)

-- an answer leaves a tenant kept
settled_kept : (s : Tenant) (given : PeerAnswer) (made : Option Record) (k hold : ℕ) (r : Result Verdict HoldFault) → s.calls k ≡ Some (Stage.Sent hold)
    → ((h : ℕ) → is_awaited (recorded s.book made) h ≡ (is_awaited s.book h && not (eqb h hold)))
    → CallsMatchHolds s → CallsMatchHolds (call_settled s k given made r).after
settled_kept s given made k hold (Err f) here is i = i
settled_kept s given made k hold (Ok v) here is i = record {
  waits = λ n h p. elim (put_at s.calls k None n (Some (Stage.Sent h)) p) [
    | inl a ↦ absurd (unsent_none None refl h a.1)
    | inr a ↦ is h ∙ other_stays (is_awaited s.book h) h hold (λ e. a.0 (i.apart n k h a.1 (here ∙ ap (λ x. Some (Stage.Sent x)) (sym e)))) (i.waits n h a.1)
  ];
  apart = λ n m h p q. elim (put_at s.calls k None n (Some (Stage.Sent h)) p) [
    | inl a ↦ absurd (unsent_none None refl h a.1)
    | inr a ↦ elim (put_at s.calls k None m (Some (Stage.Sent h)) q) [ inl b ↦ absurd (unsent_none None refl h b.1) | inr b ↦ i.apart n m h a.1 b.1 ]
  ];
}

answer_kept : OpenHoldLaws → (s : Tenant) (k now : ℕ) (given : PeerAnswer) (o : Option Stage) → s.calls k ≡ o → CallsMatchHolds s → CallsMatchHolds (call_answered s k o now given).after
answer_kept laws s k now given None e i = i
answer_kept laws s k now given (Some (Stage.Ready token p)) e i = i
answer_kept laws s k now given (Some (Stage.Sent hold)) e i =
    let key = answer_key given in
    settled_kept s given (answer_made s.book hold now key) k hold (answer_to s.book hold now key) e (laws.answered s.book hold now key) i

arrive_kept : (s : Tenant) (token : List ℕ) (r : Result Prepare Malformed) → CallsMatchHolds s → CallsMatchHolds (arrived s token r).after
arrive_kept s token (Ok p) i = unsent s s.book (s.next_call + 1) s.next_call (Some (Stage.Ready token p)) (unsent_ready token p) (λ h a. a) i
arrive_kept s token (Err wrong) i = i

-- a decide is asked of a state within its limits
abbrev pub IsAskedOf : Tenant → Event → Type 0
IsAskedOf s (Event.Decides call now) = IsSound s.book
IsAskedOf s _ = Unit {0}

-- each event leaves a tenant kept
pub after_kept : OpenHoldLaws → (s : Tenant) (e : Event) → IsAskedOf s e → CallsMatchHolds s → CallsMatchHolds (after_alone s e)
after_kept laws s (Event.Arrives token bytes) asked i = arrive_kept s token (arrival token bytes) i
after_kept laws s (Event.Decides call now) asked i = decide_kept laws s call now (s.calls call) asked i
after_kept laws s (Event.Answers call now given) asked i = answer_kept laws s call now (heard given) (s.calls call) refl i
after_kept laws s (Event.Ticks now) asked i = stays s (ticked s.book now) (laws.ticked s.book now) i
after_kept laws s (Event.Governs now command) asked i = stays s (commanded s.book command now) (laws.commanded s.book command now) i
