-- The table of the holds that await their answers, as one begins, is marked or ends.
use Rattle.std.proofs.Common.{◌≡◌, ℕ, ◌+◌, ◌-◌, ◌<◌, ◌≤◌, true, false, cond, ltb, List, [], ◌∷◌, ◌++◌, length, get_or, suc, zero, arith, refl, sym, ap, subst, ◌∙◌, ◌⊎◌, inl, inr}
use Rattle.std.specs.Prelude.{Some, count_by}
use Rattle.std.specs.List.{slice_get}
use Rattle.std.proofs.Math.ListN.{set}
use Rattle.std.proofs.lemmas.Bool.{cases_eq, ltb-true}
use Rattle.std.proofs.lemmas.List.{length-set, length_push}
use Rattle.std.proofs.lemmas.List.Sums.{sum_by-set, sum_by_push}
use Rattle.std.proofs.lemmas.Option.{slice_get-get_or, slice_get_read, slice_get_within, get_or_from_slice_get}
use Rattle.tenant_core.specs.HoldTables.{Table, HoldAt, IsIndexed, IsComplete}
use Rattle.tenant_core.specs.Holds.{is_open, awaits_answer, holds_amounts, with_fate}
use Rattle.tenant_core.specs.declared.hold.Fate.{Fate}
use Rattle.tenant_core.specs.declared.hold.Fate.TheVariants.{Held, Marked, Ended}
use Rattle.tenant_core.specs.declared.hold.Hold.{Hold}

-- ---- what stands at a place

-- a write is read back
set_same : {X : Type 0} (xs : List X) (i : ℕ) (y : X) → i < length xs → slice_get (set xs i y) i ≡ Some y
set_same [] i y l = absurd (omega arith)
set_same (x ∷ xs) zero y l = refl
set_same (x ∷ xs) (suc i) y l = set_same xs i y (omega arith)

-- a write changes no other place
set_other : {X : Type 0} (xs : List X) (i k : ℕ) (y : X) → (k ≡ i → ⊥) → slice_get (set xs i y) k ≡ slice_get xs k
set_other [] i k y other = refl
set_other (x ∷ xs) zero zero y other = absurd (other refl)
set_other (x ∷ xs) zero (suc k) y other = refl
set_other (x ∷ xs) (suc i) zero y other = refl
set_other (x ∷ xs) (suc i) (suc k) y other = set_other xs i k y (λ e. other (ap suc e))

-- the last one of a list that got it
push_last : {X : Type 0} (xs : List X) (y : X) (k : ℕ) → k ≡ length xs → slice_get (xs ++ y ∷ []) k ≡ Some y
push_last [] y zero e = refl
push_last [] y (suc k) e = absurd (omega arith)
push_last (x ∷ xs) y zero e = absurd (omega arith)
push_last (x ∷ xs) y (suc k) e = push_last xs y k (omega arith)

-- those before it stay
push_before : {X : Type 0} (xs : List X) (y : X) (k : ℕ) → k < length xs → slice_get (xs ++ y ∷ []) k ≡ slice_get xs k
push_before [] y k l = absurd (omega arith)
push_before (x ∷ xs) y zero l = refl
push_before (x ∷ xs) y (suc k) l = push_before xs y k (omega arith)

-- what is read after a write is what was written, or was there
pub set_cases : {X : Type 0} (xs : List X) (i k : ℕ) (y z : X) → slice_get (set xs i y) k ≡ Some z
    → ((k ≡ i) × (y ≡ z)) ⊎ ((k ≡ i → ⊥) × (slice_get xs k ≡ Some z))
set_cases {X} xs i k y z e = elim (cases_eq k i) [
  | inl same ↦
      let within : k < length (set xs i y) = slice_get_within (set xs i y) k z e in
      let read : slice_get (set xs i y) i ≡ Some y = set_same xs i y (omega (arith, length-set xs i y)) in
      let there : slice_get (set xs i y) i ≡ Some z = subst (λ j. slice_get (set xs i y) j ≡ Some z) same e in
      inl (same, cc)
  | inr other ↦ inr (other, sym (set_other xs i k y other) ∙ e)
]

-- what is read of a list that got one more is the last, or was there
pub push_cases : {X : Type 0} (xs : List X) (k : ℕ) (y z : X) → slice_get (xs ++ y ∷ []) k ≡ Some z
    → ((k ≡ length xs) × (y ≡ z)) ⊎ ((k < length xs) × (slice_get xs k ≡ Some z))
push_cases {X} xs k y z e = elim (cases_eq k (length xs)) [
  | inl same ↦ let read = push_last xs y k same in inl (same, cc)
  | inr other ↦
      let within : k < length (xs ++ y ∷ []) = slice_get_within (xs ++ y ∷ []) k z e in
      let before : k < length xs = omega (arith, length_push xs y) in
      inr (before, sym (push_before xs y k before) ∙ e)
]

-- ---- how many are open

-- the count after a write
count_after : (hs : List Hold) (i : ℕ) (h y : Hold) → slice_get hs i ≡ Some h
    → count_by is_open (set hs i y) + cond (is_open h) 1 0 ≡ count_by is_open hs + cond (is_open y) 1 0
count_after hs i h y at =
    let moved = sum_by-set (λ (x : Hold). cond (is_open x) 1 0) hs i y h (slice_get_within hs i h at) in
    rw (get_or_from_slice_get hs i h h at) at moved

-- ---- one begins

-- the table with a hold more, which awaits its answer
pub begun : (hs : List Hold) (os ss : List ℕ) (h : Hold) → IsIndexed hs os ss → is_open h ≡ true
    → IsIndexed (hs ++ h ∷ []) (os ++ length hs ∷ []) (ss ++ length os ∷ [])
begun hs os ss h w awaits =
    let same : length ss ≡ length hs = w.same in
    record {
      same = omega (arith, length_push ss (length os), length_push hs h);
      told = λ k p e. elim (push_cases os k (length hs) p e) [
        | inl q ↦ let at : p ≡ length ss = cc in rw q.0 (push_last ss (length os) p at)
        | inr q ↦ let there = w.told k p q.1 in push_before ss (length os) p (slice_get_within ss p k there) ∙ there
      ];
      held = λ k p x e here. elim (push_cases hs p h x here) [
        | inl q ↦ rw (← q.1) awaits
        | inr q ↦ elim (push_cases os k (length hs) p e) [
          | inl r ↦ let last : length hs ≡ p = r.1 in absurd (let before = q.0 in omega arith)
          | inr r ↦ w.held k p x r.1 q.1
        ]
      ];
      listed = λ p k x here is e. elim (push_cases hs p h x here) [
        | inl q ↦ elim (push_cases ss p (length os) k e) [
          | inl r ↦ push_last os (length hs) k (sym r.1) ∙ ap (λ (n : ℕ). Some n) (sym q.0)
          | inr r ↦ absurd (let last = q.0 in let before = r.0 in omega arith)
        ]
        | inr q ↦ elim (push_cases ss p (length os) k e) [
          | inl r ↦ absurd (let before = q.0 in let last = r.0 in omega arith)
          | inr r ↦ let there = w.listed p k x q.1 is r.1 in push_before os (length hs) k (slice_get_within os k p there) ∙ there
        ]
      ];
      count =
          let more : count_by is_open (hs ++ h ∷ []) ≡ count_by is_open hs + 1 = rw awaits at (sum_by_push (λ (x : Hold). cond (is_open x) 1 0) hs h) in
          let before = w.count in
          omega (arith, length_push os (length hs));
    }

-- ---- one stays

-- the table when a hold is another one, open as it was
pub stayed : (hs : List Hold) (os ss : List ℕ) (i : ℕ) (h y : Hold) → IsIndexed hs os ss → slice_get hs i ≡ Some h → is_open y ≡ is_open h
    → IsIndexed (set hs i y) os ss
stayed hs os ss i h y w at alike =
    record {
      same = w.same ∙ sym (length-set hs i y);
      told = w.told;
      held = λ k p x e here. elim (set_cases hs i p y x here) [
        | inl q ↦
            let there : slice_get hs p ≡ Some h = rw q.0 at in
            let is : is_open h ≡ true = w.held k p h e there in
            rw (← q.1, alike) is
        | inr q ↦ w.held k p x e q.1
      ];
      listed = λ p k x here is e. elim (set_cases hs i p y x here) [
        | inl q ↦
            let there : slice_get hs p ≡ Some h = rw q.0 at in
            let awaits : is_open h ≡ true = sym alike ∙ (ap is_open q.1 ∙ is) in
            w.listed p k h there awaits e
        | inr q ↦ w.listed p k x q.1 is e
      ];
      count =
          let counted : count_by is_open (set hs i y) + cond (is_open h) 1 0 ≡ count_by is_open hs + cond (is_open h) 1 0 = rw alike at (count_after hs i h y at) in
          let before = w.count in
          omega arith;
    }

-- ---- one ends

-- the places are those, the last one put where one was taken out
pub record IsTakenOut (os us : List ℕ) (k : ℕ) : Type 0 where
  pub fewer : length us + 1 ≡ length os
  pub moved : k + 1 < length os → slice_get us k ≡ slice_get os (length os - 1)
  pub stays : (j : ℕ) → (j ≡ k → ⊥) → j + 1 < length os → slice_get us j ≡ slice_get os j

-- there is one less
count_ended : (hs : List Hold) (os us : List ℕ) (i : ℕ) (h y : Hold) → length os ≡ count_by is_open hs → length us + 1 ≡ length os
    → slice_get hs i ≡ Some h → is_open h ≡ true → is_open y ≡ false → length us ≡ count_by is_open (set hs i y)
count_ended hs os us i h y count fewer at is ends =
    let counted : count_by is_open (set hs i y) + 1 ≡ count_by is_open hs + 0 = rw (is, ends) at (count_after hs i h y at) in
    omega arith

-- what the places are without one: each was there, at the same place or at the end
came : (os us : List ℕ) (k j p : ℕ) → IsTakenOut os us k → slice_get us j ≡ Some p
    → ((j ≡ k → ⊥) × (slice_get os j ≡ Some p)) ⊎ ((j ≡ k) × (slice_get os (length os - 1) ≡ Some p))
came os us k j p out e =
    let within : j < length us = slice_get_within us j p e in
    let fewer : length us + 1 ≡ length os = out.fewer in
    let before : j + 1 < length os = omega arith in
    elim (cases_eq j k) [
      | inl same ↦
          let last : k + 1 < length os = omega arith in
          let moved = out.moved last in
          let read : slice_get us k ≡ Some p = subst (λ n. slice_get us n ≡ Some p) same e in
          inr (same, sym moved ∙ read)
      | inr other ↦ inl (other, sym (out.stays j other before) ∙ e)
    ]

-- two places don't have one slot
slots_apart : (hs : List Hold) (os ss : List ℕ) (i j k p : ℕ) → IsIndexed hs os ss → slice_get os k ≡ Some i → slice_get os j ≡ Some p
    → p ≡ i → j ≡ k
slots_apart hs os ss i j k p w here there same =
    let told : slice_get ss i ≡ Some k = w.told k i here in
    let told' : slice_get ss p ≡ Some j = w.told j p there in
    cc

-- the table when the last of its places ends
pub ended_last : (hs : List Hold) (os ss us : List ℕ) (i k : ℕ) (h y : Hold) → IsIndexed hs os ss → slice_get hs i ≡ Some h → is_open h ≡ true
    → is_open y ≡ false → slice_get ss i ≡ Some k → IsTakenOut os us k → length us ≤ k → IsIndexed (set hs i y) us ss
ended_last hs os ss us i k h y w at is ends slot out last =
    record {
      same = w.same ∙ sym (length-set hs i y);
      told = λ j p e. w.told j p (was j p e).1;
      held = λ j p x e there. elim (set_cases hs i p y x there) [
        | inl q ↦ absurd ((was j p e).0 (slots_apart hs os ss i j k p w here (was j p e).1 q.0))
        | inr q ↦ w.held j p x (was j p e).1 q.1
      ];
      listed = λ p j x there awaits e. elim (set_cases hs i p y x there) [
        | inl q ↦ absurd (let awaits' : is_open y ≡ true = ap is_open q.1 ∙ awaits in cc)
        | inr q ↦ stays j p q.0 (w.listed p j x q.1 awaits e)
      ];
      count = count_ended hs os us i h y w.count out.fewer at is ends;
    }
  where
    here : slice_get os k ≡ Some i
    here = w.listed i k h at is slot

    was : (j p : ℕ) → slice_get us j ≡ Some p → (j ≡ k → ⊥) × (slice_get os j ≡ Some p)
    was j p e = elim (came os us k j p out e) [
      | inl q ↦ q
      | inr q ↦ absurd (let same = q.0 in let within = slice_get_within us j p e in omega arith)
    ]

    stays : (j p : ℕ) → (p ≡ i → ⊥) → slice_get os j ≡ Some p → slice_get us j ≡ Some p
    stays j p other there =
        let apart : (j ≡ k → ⊥) = λ same. other (let read : slice_get os k ≡ Some i = w.listed i k h at is slot in cc) in
        let within : j < length os = slice_get_within os j p there in
        let taken : k < length os = slice_get_within os k i (w.listed i k h at is slot) in
        let fewer : length us + 1 ≡ length os = out.fewer in
        out.stays j apart (omega arith) ∙ there

-- the table when another of its places ends: the last one takes its slot
pub ended_within : (hs : List Hold) (os ss us : List ℕ) (i k m : ℕ) (h y : Hold) → IsIndexed hs os ss → slice_get hs i ≡ Some h → is_open h ≡ true
    → is_open y ≡ false → slice_get ss i ≡ Some k → IsTakenOut os us k → slice_get us k ≡ Some m → IsIndexed (set hs i y) us (set ss m k)
ended_within hs os ss us i k m h y w at is ends slot out moved =
    record {
      same = length-set ss m k ∙ (w.same ∙ sym (length-set hs i y));
      told = λ j p e. elim (came os us k j p out e) [
        | inl q ↦
            let told = w.told j p q.1 in
            let within = slice_get_within us j p e in
            let apart : (p ≡ m → ⊥) = λ same. absurd (let sames : j ≡ length os - 1 = slots_apart hs os ss m j (length os - 1) p w final q.1 same in let fewer : length us + 1 ≡ length os = out.fewer in omega arith) in
            set_other ss m p k apart ∙ told
        | inr q ↦
            let same : p ≡ m = let there = q.1 in let there' : slice_get os (length os - 1) ≡ Some m = final in cc in
            rw (same, q.0) (set_same ss m k (slice_get_within ss m (length os - 1) (w.told (length os - 1) m final)))
      ];
      held = λ j p x e there. elim (came os us k j p out e) [
        | inl q ↦ elim (set_cases hs i p y x there) [
          | inl r ↦ absurd (q.0 (slots_apart hs os ss i j k p w here q.1 r.0))
          | inr r ↦ w.held j p x q.1 r.1
        ]
        | inr q ↦ elim (set_cases hs i p y x there) [
          | inl r ↦ absurd (let sames : length os - 1 ≡ k = slots_apart hs os ss i (length os - 1) k p w here q.1 r.0 in let within = slice_get_within us k m moved in let fewer : length us + 1 ≡ length os = out.fewer in omega arith)
          | inr r ↦ w.held (length os - 1) p x q.1 r.1
        ]
      ];
      listed = λ p j x there awaits e. elim (set_cases hs i p y x there) [
        | inl q ↦ absurd (let awaits' : is_open y ≡ true = ap is_open q.1 ∙ awaits in cc)
        | inr q ↦ elim (set_cases ss m p k j e) [
          | inl r ↦ rw (← r.1, r.0) moved
          | inr r ↦ stays j p q.0 r.0 (w.listed p j x q.1 awaits r.1)
        ]
      ];
      count = count_ended hs os us i h y w.count out.fewer at is ends;
    }
  where
    here : slice_get os k ≡ Some i
    here = w.listed i k h at is slot

    last : k + 1 < length os
    last =
        let within : k < length us = slice_get_within us k m moved in
        let fewer : length us + 1 ≡ length os = out.fewer in
        omega arith

    final : slice_get os (length os - 1) ≡ Some m
    final = sym (out.moved last) ∙ moved

    stays : (j p : ℕ) → (p ≡ i → ⊥) → (p ≡ m → ⊥) → slice_get os j ≡ Some p → slice_get us j ≡ Some p
    stays j p other other' there =
        let apart : (j ≡ k → ⊥) = λ same. other (let read : slice_get os k ≡ Some i = w.listed i k h at is slot in cc) in
        let within : j < length os = slice_get_within os j p there in
        let apart' : (j ≡ length os - 1 → ⊥) = λ same. other' (let read : slice_get os (length os - 1) ≡ Some p = subst (λ n. slice_get os n ≡ Some p) same there in let read' = sym (out.moved last) ∙ moved in cc) in
        out.stays j apart (omega arith) ∙ there

-- ---- what the table tells

-- a place in the table is that of a hold
pub inside : (hs : List Hold) (os ss : List ℕ) (k p : ℕ) → IsIndexed hs os ss → slice_get os k ≡ Some p → p < length hs
inside hs os ss k p w there =
    let within : p < length ss = slice_get_within ss p k (w.told k p there) in
    let same = w.same in
    omega arith

-- the place that takes a slot over is one of those with a slot
pub moved_inside : (hs : List Hold) (os ss us : List ℕ) (k m : ℕ) → IsIndexed hs os ss → IsTakenOut os us k → slice_get us k ≡ Some m
    → m < length ss
moved_inside hs os ss us k m w out moved = elim (came os us k k m out moved) [
  | inl q ↦ absurd (q.0 refl)
  | inr q ↦ slice_get_within ss m (length os - 1) (w.told (length os - 1) m q.1)
]

-- each open hold stands in the table
pub complete : (t : Table) (ss : List ℕ) → IsIndexed t.holds t.awaiting ss → IsComplete t
complete t ss w place h at is =
    let within : place < length ss = let before = slice_get_within t.holds place h at in let same = w.same in omega arith in
    let slot : ℕ = get_or ss place 0 in
    let listed = w.listed place slot h at is (slice_get-get_or ss place 0 within) in
    record { at = slot; inside = slice_get_within t.awaiting slot place listed; there = listed }

-- ---- what the calls read and write

-- what a read of a list gives
pub read_some : (xs ys : List ℕ) (k x : ℕ) → xs ≡ ys → ltb k (length xs) ≡ true → x ≡ get_or xs k x → slice_get ys k ≡ Some x
read_some xs ys k x same inside read =
    subst (λ (zs : List ℕ). slice_get zs k ≡ Some x) same (slice_get_read xs (length xs) k x refl (ltb-true k (length xs) inside) read)

-- the hold at a place, of which something is known
pub at_place : (P : Hold → Type 0) (hs ks : List Hold) (p : ℕ) (d : Hold) → hs ≡ ks → p < length ks → HoldAt ks p P → d ≡ get_or hs p d
    → (slice_get hs p ≡ Some d) × P d
at_place P hs ks p d same inside known read =
    let within : p < length hs = rw same inside in
    let there : slice_get hs p ≡ Some d = slice_get_read hs (length hs) p d refl within read in
    (there, known d (subst (λ (xs : List Hold). slice_get xs p ≡ Some d) same there))

-- there is a hold at each place
hold_at : (hs : List Hold) (p : ℕ) → p < length hs → (h : Hold) × (slice_get hs p ≡ Some h)
hold_at [] p l = absurd (omega arith)
hold_at (x ∷ hs) p l = (get_or (x ∷ hs) p x, slice_get-get_or (x ∷ hs) p x l)

-- the slot of an open hold is within the table
pub slot_of : (hs ks : List Hold) (os ss : List ℕ) (p k : ℕ) → IsIndexed hs os ss → hs ≡ ks → p < length ks
    → HoldAt ks p (λ h. is_open h ≡ true) → k ≡ get_or ss p k → (slice_get ss p ≡ Some k) × (k < length os)
slot_of hs ks os ss p k w same inside known read =
    let within : p < length hs = rw same inside in
    let at = hold_at hs p within in
    let awaits : is_open at.0 ≡ true = known at.0 (subst (λ (xs : List Hold). slice_get xs p ≡ Some at.0) same at.1) in
    let slotted : p < length ss = let alike = w.same in omega arith in
    let told : slice_get ss p ≡ Some k = slice_get_read ss (length ss) p k refl slotted read in
    (told, slice_get_within os k p (w.listed p k at.0 at.1 awaits told))

-- a hold whose amounts are held awaits its answer
pub held_awaits : (f : Fate) → holds_amounts f ≡ true → true ≡ awaits_answer f
held_awaits Held e = refl
held_awaits Marked e = absurd cc
held_awaits (Ended b) e = absurd cc

-- another fate of the hold at a place
pub fate_set : (f : Fate) (hs ks : List Hold) (p : ℕ) (d h : Hold) → hs ≡ ks → p < length ks → d ≡ get_or hs p d → slice_get ks p ≡ Some h
    → set hs p (with_fate d f) ≡ set ks p (with_fate h f)
fate_set f hs ks p d h same inside read there =
    let known = at_place (λ x. x ≡ h) hs ks p d same inside (λ x at. let is : slice_get ks p ≡ Some h = there in cc) read in
    let is : d ≡ h = known.1 in
    rw (same, is) refl

-- a list from which one was taken, the last one put in its place
pub taken_out : (os us : List ℕ) (k n : ℕ) → n ≡ length os → length us + 1 ≡ n
    → (((d : ℕ) → k + 1 < n → get_or us k d ≡ get_or os (n - 1) d) × ((j d : ℕ) → (j ≡ k → ⊥) → j + 1 < n → get_or us j d ≡ get_or os j d))
    → IsTakenOut os us k
taken_out os us k n size fewer at =
    record {
      fewer = fewer ∙ size;
      moved = λ l.
          slice_get-get_or us k 0 (omega arith) ∙ (ap (λ (x : ℕ). Some x) (at.0 0 (omega arith) ∙ ap (λ m. get_or os (m - 1) 0) size)
          ∙ sym (slice_get-get_or os (length os - 1) 0 (omega arith)));
      stays = λ j other l.
          slice_get-get_or us j 0 (omega arith) ∙ (ap (λ (x : ℕ). Some x) (at.1 j 0 other (omega arith))
          ∙ sym (slice_get-get_or os j 0 (omega arith)));
    }
