-- What the seats of a floor carry, when one of them is changed.
use Rattle.std.proofs.Common.{◌≡◌, ◌≢◌, ◌<◌, suc, zero, ℕ, List, [], ◌∷◌, length, get_or, set, Bool, true, false, cond, eqb, Option, Some, None, refl, inl, inr, sym, ap, arith, get_or-set_same, get_or-set_other}
use Rattle.std.specs.Prelude.{◌&&◌}
use Rattle.std.proofs.lemmas.Bool.{eqb-true, eq-eqb, ne_eqb}
use Rattle.std.proofs.lemmas.Bool.Decides.{eqb_tells}
use Rattle.floor_core.specs.World.{Stage, put}
use Rattle.floor_core.specs.FloorView.{hand_by, hands_of, call_carried, is_call, stage_in, calls_of, no_seat, carried_at}
use Rattle.floor_core.specs.declared.floor.Seat.{Seat}

-- no two seats carry one call
pub record Apart (seats : List Seat) : Type 0 where
  pub same : (v w : ℕ) (c : ℕ × ℕ) → carried_at seats v ≡ Some c → carried_at seats w ≡ Some c → v ≡ w

pub put-same : {A : Type 0} (f : ℕ → A) (k : ℕ) (v : A) → put f k v k ≡ v
put-same f k v = rw (eq-eqb k k refl) refl

pub put-other : {A : Type 0} (f : ℕ → A) (k : ℕ) (v : A) (n : ℕ) → n ≢ k → put f k v n ≡ f n
put-other f k v n ne = rw (ne_eqb n k ne) refl

put-back_at : {A : Type 0} (f : ℕ → A) (k n : ℕ) → put f k (f k) n ≡ f n
put-back_at f k n = elim (eqb_tells n k) [ inl a ↦ rw a.0 (ap f (sym a.1)) | inr a ↦ rw a.0 refl ]

pub put-back : {A : Type 0} (f : ℕ → A) (k : ℕ) → put f k (f k) ≡ f
put-back f k = λ i n. put-back_at f k n i

pub is_call-self : (t n : ℕ) → is_call t n (Some (t, n)) ≡ true
is_call-self t n = rw (eq-eqb t t refl, eq-eqb n n refl) refl

both : (a b : Bool) → (a && b) ≡ true → (a ≡ true) × (b ≡ true)
both true b h = (refl, h)
both false b h = absurd cc

pub is_call-true : (t n : ℕ) (o : Option (ℕ × ℕ)) → is_call t n o ≡ true → o ≡ Some (t, n)
is_call-true t n None h = absurd cc
is_call-true t n (Some p) h =
    let e = both (eqb p.0 t) (eqb p.1 n) h in
    let a : p.0 ≡ t = eqb-true p.0 t e.0 in
    let b : p.1 ≡ n = eqb-true p.1 n e.1 in
    λ i. Some (a i, b i)

tail : (s : Seat) (ss : List Seat) → Apart (s ∷ ss) → Apart ss
tail s ss a = record { same = λ v w c p q. let e : suc v ≡ suc w = a.same (suc v) (suc w) c p q in omega arith }

lookup_at : (s : Seat) (ss : List Seat) (w : ℕ) (c : ℕ × ℕ) → Apart (s ∷ ss) → carried_at ss w ≡ Some c
    → calls_of c.0 ss c.1 ≡ stage_in (get_or ss w no_seat).slot.job → (b : Bool) → is_call c.0 c.1 (call_carried s) ≡ b
    → calls_of c.0 (s ∷ ss) c.1 ≡ stage_in (get_or ss w no_seat).slot.job
lookup_at s ss w c a h ih true e = let z : 0 ≡ suc w = a.same 0 (suc w) c (is_call-true c.0 c.1 (call_carried s) e) h in absurd (omega arith)
lookup_at s ss w c a h ih false e = rw e ih

-- a call stands where the seat says that carries it
pub lookup : (seats : List Seat) (w : ℕ) (c : ℕ × ℕ) → Apart seats → carried_at seats w ≡ Some c
    → calls_of c.0 seats c.1 ≡ stage_in (get_or seats w no_seat).slot.job
lookup [] w c a h = absurd cc
lookup (s ∷ ss) zero c a h = rw (h, is_call-self c.0 c.1) refl
lookup (s ∷ ss) (suc w) c a h = lookup_at s ss w c a h (lookup ss w c (tail s ss a) h) (is_call c.0 c.1 (call_carried s)) refl

none_at : (s : Seat) (ss : List Seat) (t n : ℕ) → call_carried s ≢ Some (t, n) → calls_of t ss n ≡ None → (b : Bool) → is_call t n (call_carried s) ≡ b
    → calls_of t (s ∷ ss) n ≡ None
none_at s ss t n ne ih true e = absurd (ne (is_call-true t n (call_carried s) e))
none_at s ss t n ne ih false e = rw e ih

-- a call that no seat carries has ended
pub none : (seats : List Seat) (t n : ℕ) → ((v : ℕ) → carried_at seats v ≢ Some (t, n)) → calls_of t seats n ≡ None
none [] t n h = refl
none (s ∷ ss) t n h = none_at s ss t n (h 0) (none ss t n (λ v. h (suc v))) (is_call t n (call_carried s)) refl

-- what each worker carries when one seat is changed
pub carried_set : (seats : List Seat) (w : ℕ) (s : Seat) → w < length seats → (v : ℕ) → carried_at (set seats w s) v ≡ put (carried_at seats) w (call_carried s) v
carried_set seats w s lt v =
    elim (eqb_tells v w) [
      | inl p ↦ rw p.0 (rw p.1 (ap call_carried (get_or-set_same seats w s no_seat lt)))
      | inr p ↦ rw p.0 (ap call_carried (get_or-set_other seats w v s no_seat p.1))
    ]

-- other calls stand where they stood
pub others_stay : (seats : List Seat) (w : ℕ) (s : Seat) (t n : ℕ) → w < length seats → is_call t n (call_carried s) ≡ false
    → is_call t n (carried_at seats w) ≡ false → calls_of t (set seats w s) n ≡ calls_of t seats n
others_stay [] w s t n lt new old = absurd (omega arith)
others_stay (x ∷ xs) zero s t n lt new old = rw (new, old) refl
others_stay (x ∷ xs) (suc w) s t n lt new old = ap (λ (z : Option Stage). cond (is_call t n (call_carried x)) (stage_in x.slot.job) z) (others_stay xs w s t n (omega arith) new old)

pub hand_set : (seats : List Seat) (w : ℕ) (s : Seat) → w < length seats → (v : ℕ) → hands_of (set seats w s) v ≡ put (hands_of seats) w (hand_by s.slot.job s.call) v
hand_set seats w s lt v =
    elim (eqb_tells v w) [
      | inl p ↦ rw p.0 (rw p.1 (ap (λ (x : Seat). hand_by x.slot.job x.call) (get_or-set_same seats w s no_seat lt)))
      | inr p ↦ rw p.0 (ap (λ (x : Seat). hand_by x.slot.job x.call) (get_or-set_other seats w v s no_seat p.1))
    ]
