-- The world of a floor in which one seat and one book are changed.
use Rattle.std.proofs.Common.{◌≡◌, ◌≢◌, ◌<◌, ◌≤◌, ℕ, List, length, get_or, set, true, false, eqb, Option, Some, None, refl, inl, inr, ◌⊎◌, sym, ap, subst, ◌∙◌, arith, get_or-set_same, get_or-set_other}
use Rattle.std.specs.Prelude.{◌&&◌}
use Rattle.std.proofs.Math.ListN.{length-set}
use Rattle.std.proofs.lemmas.Bool.{ne_eqb}
use Rattle.std.proofs.lemmas.Bool.Decides.{eqb_tells}
use Rattle.tenant_core.specs.State.{State}
use Rattle.floor_core.specs.Work.{Job, IsJobOfBytes, IsReadable}
use Rattle.floor_core.specs.World.{put, no_book}
use Rattle.floor_core.specs.FloorView.{FloorState, hand_by, hands_of, call_carried, is_call, stage_in, calls_of, no_seat, tenant_of, carried_at, world_of, IsSoundFloor}
use Rattle.floor_core.specs.declared.floor.Seat.{Seat}
use Rattle.floor_core.proofs.Calls.{Apart, lookup, none, carried_set, hand_set, others_stay}

-- seat s takes worker w's place, and call k of tenant t is the only one that it touches
pub record Changes (f : FloorState) (w t k : ℕ) (s : Seat) : Type 0 where
  pub worker : w < length f.seats
  pub tenant : t < length f.books
  pub apart : Apart f.seats
  pub others : (v : ℕ) → v ≢ w → carried_at f.seats v ≢ Some (t, k)
  pub old : (carried_at f.seats w ≡ None) ⊎ (carried_at f.seats w ≡ Some (t, k))
  pub new : (s.slot.job ≡ Job.NoJob) ⊎ (call_carried s ≡ Some (t, k))
  pub readable : IsReadable s.slot.job
  pub octets : IsJobOfBytes s.slot.job

idle : (s : Seat) → s.slot.job ≡ Job.NoJob → call_carried s ≡ None
idle s e = rw e refl

carries_new : (f : FloorState) (w t k : ℕ) (s : Seat) → Changes f w t k s → (call_carried s ≡ None) ⊎ (call_carried s ≡ Some (t, k))
carries_new f w t k s h = elim h.new [ inl e ↦ inl (idle s e) | inr e ↦ inr e ]

same_some : (o : Option (ℕ × ℕ)) (c d : ℕ × ℕ) → (o ≡ None) ⊎ (o ≡ Some c) → o ≡ Some d → d ≡ c
same_some o c d (inl e) h = absurd cc
same_some o c d (inr e) h = cc

pub apart_set : (f : FloorState) (w t k : ℕ) (s : Seat) → Changes f w t k s → Apart (set f.seats w s)
apart_set f w t k s h = record {
  same = λ v u c p q.
      let pv : put (carried_at f.seats) w (call_carried s) v ≡ Some c = sym (carried_set f.seats w s h.worker v) ∙ p in
      let qu : put (carried_at f.seats) w (call_carried s) u ≡ Some c = sym (carried_set f.seats w s h.worker u) ∙ q in
      elim (eqb_tells v w) [
        | inl a ↦ elim (eqb_tells u w) [
          | inl b ↦ a.1 ∙ sym b.1
          | inr b ↦
              let x : call_carried s ≡ Some c = rw a.0 at pv in
              let y : carried_at f.seats u ≡ Some c = rw b.0 at qu in
              absurd (h.others u b.1 (y ∙ ap (λ (d : ℕ × ℕ). Some d) (same_some (call_carried s) (t, k) c (carries_new f w t k s h) x)))
        ]
        | inr a ↦ elim (eqb_tells u w) [
          | inl b ↦
              let x : call_carried s ≡ Some c = rw b.0 at qu in
              let y : carried_at f.seats v ≡ Some c = rw a.0 at pv in
              absurd (h.others v a.1 (y ∙ ap (λ (d : ℕ × ℕ). Some d) (same_some (call_carried s) (t, k) c (carries_new f w t k s h) x)))
          | inr b ↦
              let x : carried_at f.seats v ≡ Some c = rw a.0 at pv in
              let y : carried_at f.seats u ≡ Some c = rw b.0 at qu in
              h.apart.same v u c x y
        ]
      ];
}

nobody_carries : (f : FloorState) (w t k : ℕ) (s : Seat) → Changes f w t k s → s.slot.job ≡ Job.NoJob → (v : ℕ) → carried_at (set f.seats w s) v ≢ Some (t, k)
nobody_carries f w t k s h e v q =
    let qv : put (carried_at f.seats) w (call_carried s) v ≡ Some (t, k) = sym (carried_set f.seats w s h.worker v) ∙ q in
    elim (eqb_tells v w) [
      | inl a ↦ let x : call_carried s ≡ Some (t, k) = rw a.0 at qv in let y = idle s e in absurd cc
      | inr a ↦ let x : carried_at f.seats v ≡ Some (t, k) = rw a.0 at qv in h.others v a.1 x
    ]

call_new : (f : FloorState) (w t k : ℕ) (s : Seat) → Changes f w t k s → calls_of t (set f.seats w s) k ≡ stage_in s.slot.job
call_new f w t k s h = elim h.new [
  | inl e ↦ none (set f.seats w s) t k (nobody_carries f w t k s h e) ∙ sym (ap stage_in e)
  | inr e ↦ lookup (set f.seats w s) w (t, k) (apart_set f w t k s h) (ap call_carried (get_or-set_same f.seats w s no_seat h.worker) ∙ e) ∙ ap (λ (x : Seat). stage_in x.slot.job) (get_or-set_same f.seats w s no_seat h.worker)
]

pub differs : (t n u k : ℕ) (o : Option (ℕ × ℕ)) → (o ≡ None) ⊎ (o ≡ Some (u, k)) → (u ≢ t) ⊎ (k ≢ n) → is_call t n o ≡ false
differs t n u k o (inl e) d = rw e refl
differs t n u k o (inr e) (inl d) = rw e (rw (ne_eqb u t d) refl)
differs t n u k o (inr e) (inr d) = rw e (rw (ne_eqb k n d) (elim (eqb u t) as (λ b. (b && false) ≡ false) [ true ↦ refl | false ↦ refl ]))

other_call : (f : FloorState) (w t k : ℕ) (s : Seat) (m n : ℕ) → Changes f w t k s → (t ≢ m) ⊎ (k ≢ n) → calls_of m (set f.seats w s) n ≡ calls_of m f.seats n
other_call f w t k s m n h d = others_stay f.seats w s m n h.worker (differs m n t k (call_carried s) (carries_new f w t k s h) d) (differs m n t k (carried_at f.seats w) h.old d)

own_calls : (f : FloorState) (w t k : ℕ) (s : Seat) → Changes f w t k s → (n : ℕ) → calls_of t (set f.seats w s) n ≡ put (calls_of t f.seats) k (stage_in s.slot.job) n
own_calls f w t k s h n =
    elim (eqb_tells n k) [
      | inl a ↦ rw a.0 (rw a.1 (call_new f w t k s h))
      | inr a ↦ rw a.0 (other_call f w t k s t n h (inr (λ e. a.1 (sym e))))
    ]

abbrev pub next_state : FloorState → ℕ → ℕ → Seat → State → List ℕ → FloorState
next_state f w t s l nexts = record { seats = set f.seats w s; books = set f.books t l; next_calls = nexts }

pub record Counts (f : FloorState) (t k : ℕ) (nexts : List ℕ) : Type 0 where
  pub as_many : length nexts ≡ length f.next_calls
  pub others : (m : ℕ) → m ≢ t → get_or nexts m 0 ≡ get_or f.next_calls m 0
  pub more : get_or f.next_calls t 0 ≤ get_or nexts t 0
  pub above : k < get_or nexts t 0

tenants_changed : (f : FloorState) (w t k : ℕ) (s : Seat) (l : State) (nexts : List ℕ) → Changes f w t k s → Counts f t k nexts → (m : ℕ)
    → tenant_of (next_state f w t s l nexts) m ≡ put (tenant_of f) t (record { book = l; next_call = get_or nexts t 0; calls = put (calls_of t f.seats) k (stage_in s.slot.job) }) m
tenants_changed f w t k s l nexts h n m =
    elim (eqb_tells m t) [
      | inl a ↦ rw a.0 (rw a.1 (
          let p = get_or-set_same f.books t l no_book h.tenant in
          λ i. record { book = p i; next_call = get_or nexts t 0; calls = λ x. own_calls f w t k s h x i }))
      | inr a ↦ rw a.0 (
          let p = get_or-set_other f.books t m l no_book a.1 in
          let q = n.others m a.1 in
          λ i. record { book = p i; next_call = q i; calls = λ x. other_call f w t k s m x h (inl (λ e. a.1 (sym e))) i })
    ]

-- the world after
pub world_changed : (f : FloorState) (w t k : ℕ) (s : Seat) (l : State) (nexts : List ℕ) → Changes f w t k s → Counts f t k nexts
    → world_of (next_state f w t s l nexts)
    ≡ record { tenants = put (tenant_of f) t (record { book = l; next_call = get_or nexts t 0; calls = put (calls_of t f.seats) k (stage_in s.slot.job) }); hands = put (hands_of f.seats) w (hand_by s.slot.job s.call) }
world_changed f w t k s l nexts h n = λ i. record { tenants = λ m. tenants_changed f w t k s l nexts h n m i; hands = λ v. hand_set f.seats w s h.worker v i }

counts_more : (f : FloorState) (t k : ℕ) (nexts : List ℕ) → Counts f t k nexts → (c : ℕ × ℕ) → c.1 < get_or f.next_calls c.0 0 → c.1 < get_or nexts c.0 0
counts_more f t k nexts n c lt =
    elim (eqb_tells c.0 t) [
      | inl a ↦ rw a.1 (let old : c.1 < get_or f.next_calls t 0 = rw a.1 at lt in let m = n.more in omega arith)
      | inr a ↦ rw (n.others c.0 a.1) lt
    ]

-- what holds of each seat's job
holds_set : (P : Job → Type 0) (seats : List Seat) (w : ℕ) (s : Seat) → w < length seats → ((v : ℕ) → P (get_or seats v no_seat).slot.job) → P s.slot.job
    → (v : ℕ) → P (get_or (set seats w s) v no_seat).slot.job
holds_set P seats w s lt all new v =
    elim (eqb_tells v w) [
      | inl a ↦ subst (λ (x : Seat). P x.slot.job) (sym (ap (λ u. get_or (set seats w s) u no_seat) a.1 ∙ get_or-set_same seats w s no_seat lt)) new
      | inr a ↦ subst (λ (x : Seat). P x.slot.job) (sym (get_or-set_other seats w v s no_seat a.1)) (all v)
    ]

-- a book that is put in the place of its own
pub placed_set : (books : List State) (t : ℕ) (l : State) → t < length books → ((m : ℕ) → m < length books → (get_or books m no_book).opening.tenant ≡ m) → l.opening.tenant ≡ t
    → (m : ℕ) → m < length (set books t l) → (get_or (set books t l) m no_book).opening.tenant ≡ m
placed_set books t l there placed e m lt =
    let m_in : m < length books = let le = length-set books t l in omega arith in
    elim (eqb_tells m t) [
      | inl a ↦ ap (λ x. (get_or (set books t l) x no_book).opening.tenant) a.1 ∙ ap (λ (b : State). b.opening.tenant) (get_or-set_same books t l no_book there) ∙ e ∙ sym a.1
      | inr a ↦ ap (λ (b : State). b.opening.tenant) (get_or-set_other books t m l no_book a.1) ∙ placed m m_in
    ]

pub sound_changed : (f : FloorState) (w t k : ℕ) (s : Seat) (l : State) (nexts : List ℕ) → IsSoundFloor f → Changes f w t k s → Counts f t k nexts → l.opening.tenant ≡ t → IsSoundFloor (next_state f w t s l nexts)
sound_changed f w t k s l nexts i h n e = record {
  as_many = n.as_many ∙ i.as_many ∙ sym (length-set f.books t l);
  placed = placed_set f.books t l h.tenant i.placed e;
  apart = (apart_set f w t k s h).same;
  below = λ v c p.
      let pv : put (carried_at f.seats) w (call_carried s) v ≡ Some c = sym (carried_set f.seats w s h.worker v) ∙ p in
      let le = length-set f.books t l in
      elim (eqb_tells v w) [
        | inl a ↦
            let x : call_carried s ≡ Some c = rw a.0 at pv in
            let y : c ≡ (t, k) = same_some (call_carried s) (t, k) c (carries_new f w t k s h) x in
            rw y (rw le h.tenant, n.above)
        | inr a ↦
            let x : carried_at f.seats v ≡ Some c = rw a.0 at pv in
            let b = i.below v c x in
            (rw le b.0, counts_more f t k nexts n c b.1)
      ];
  readable = holds_set IsReadable f.seats w s h.worker i.readable h.readable;
  octets = holds_set IsJobOfBytes f.seats w s h.worker i.octets h.octets;
}
