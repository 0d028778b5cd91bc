-- What one record more makes of the holds of a state.
use Rattle.std.proofs.Common.{◌≡◌, ℕ, ◌+◌, ◌<◌, Bool, true, false, cond, eqb, List, [], ◌∷◌, ◌++◌, length, get_or, suc, zero, map, fold, arith, refl, sym, ap, subst, ◌∙◌, ◌⊎◌, inl, inr, ltb, add-zero}
use Rattle.std.specs.Prelude.{Some, None, max, ◌&&◌, find, position, count_by}
use Rattle.std.specs.List.{position_or_len, slice_get}
use Rattle.std.proofs.Math.ListN.{set}
use Rattle.std.proofs.lemmas.Bool.{and_parts, eqb-true, eq-eqb, ne_eqb, ltb-false, lt-ltb}
use Rattle.std.proofs.lemmas.List.{map-id}
use Rattle.std.proofs.lemmas.List.Folds.{fold_along, find_at}
use Rattle.std.proofs.lemmas.List.Quantifiers.{position-Some}
use Rattle.std.proofs.lemmas.List.Sums.{fold_push, sum_by-set}
use Rattle.std.proofs.lemmas.Option.{slice_get-get_or, slice_get_past, slice_get_within, get_or_from_slice_get}
use Rattle.tenant_core.specs.declared.hold.Fate.TheVariants.{Ended}
use Rattle.tenant_core.specs.declared.hold.Hold.{Hold}
use Rattle.tenant_core.specs.declared.journal.AnswerKey.{AnswerKey}
use Rattle.tenant_core.specs.declared.journal.Record.{Record}
use Rattle.tenant_core.specs.declared.verdict.Verdict.{Verdict}
use Rattle.tenant_core.specs.Answer.{answer_record, tick_record}
use Rattle.tenant_core.specs.Holds.{Course, course_after, holds_of, hold_after, hold_begun, hold_ended, hold_ticked, begun_by, is_open, is_open_under, is_fulfill, is_relay, with_fate, AreNumbered}
use Rattle.tenant_core.specs.Judge.{decide_entry, decide_record}
use Rattle.tenant_core.specs.Key.{Key}
use Rattle.tenant_core.specs.Orders.{change_record}
use Rattle.tenant_core.specs.declared.journal.Change.{Change as Changed}
use Rattle.tenant_core.specs.State.{State, clock_of, later, extended, recorded}

-- ---- one record more

course-clock : (c : Course) (rs : List Record) → (fold course_after c rs).clock ≡ fold later c.clock rs
course-clock c rs = fold_along course_after later (λ x n. x.clock ≡ n) (λ x n r e. ap (λ k. later k r) e) c c.clock rs refl

pub holds_of-recorded : (s : State) (r : Record)
    → holds_of (recorded s (Some r)) ≡ extended (map (hold_after (later (clock_of s) r) r.entry r.outcome) (holds_of s)) (hold_begun r.entry r.outcome)
unfolding holds_of
holds_of-recorded s r =
    let c : Course = record { clock = s.opening.clock; holds = [] } in
    let before : Course = fold course_after c s.records in
    ap (λ (x : Course). x.holds) (fold_push course_after c s.records r)
    ∙ ap (λ k. extended (map (hold_after (later k r) r.entry r.outcome) before.holds) (hold_begun r.entry r.outcome)) (course-clock c s.records)

pub holds_of-decide : (s : State) (peer : ℕ) (key : Key) (now : ℕ) (v : Verdict)
    → holds_of (recorded s (Some (decide_record peer key now v))) ≡ extended (holds_of s) (begun_by (decide_entry peer key now) v)
holds_of-decide s peer key now v =
    holds_of-recorded s (decide_record peer key now v)
    ∙ ap (λ hs. extended hs (begun_by (decide_entry peer key now) v)) (map-id (holds_of s))

pub holds_of-answer : (s : State) (n now : ℕ) (key : AnswerKey) (v : Verdict)
    → holds_of (recorded s (Some (answer_record n now key v))) ≡ map (hold_ended n (is_fulfill key && is_relay v)) (holds_of s)
holds_of-answer s n now key v = holds_of-recorded s (answer_record n now key v)

pub holds_of-tick : (s : State) (now count : ℕ)
    → holds_of (recorded s (Some (tick_record now count))) ≡ map (hold_ticked (max (clock_of s) now)) (holds_of s)
holds_of-tick s now count = holds_of-recorded s (tick_record now count)

pub holds_of-change : (s : State) (c : Changed) (now : ℕ) → holds_of (recorded s (Some (change_record c now))) ≡ holds_of s
holds_of-change s c now = holds_of-recorded s (change_record c now) ∙ map-id (holds_of s)

pub holds_of-opened : (s : State) → s.records ≡ [] → holds_of s ≡ []
unfolding holds_of
holds_of-opened s none = rw none refl

-- ---- numbers

pub numbered-map : (f : Hold → Hold) → ((h : Hold) → (f h).number ≡ h.number) → (n : ℕ) (hs : List Hold) → AreNumbered n hs → AreNumbered n (map f hs)
numbered-map f same n [] e = tt
numbered-map f same n (h ∷ hs) e = (same h ∙ e.0, numbered-map f same (n + 1) hs e.1)

pub numbered-push : (n : ℕ) (hs : List Hold) (h : Hold) → AreNumbered n hs → h.number ≡ n + length hs → AreNumbered n (hs ++ h ∷ [])
numbered-push n [] h e is = (omega arith, tt)
numbered-push n (x ∷ hs) h e is = (e.0, numbered-push (n + 1) hs h e.1 (omega arith))

number_at : (n : ℕ) (hs : List Hold) (i : ℕ) (d : Hold) → AreNumbered n hs → i < length hs → (get_or hs i d).number ≡ n + i
number_at n [] i d e l = absurd (omega arith)
number_at n (h ∷ hs) zero d e l = let first = e.0 in omega arith
number_at n (h ∷ hs) (suc i) d e l = let rest = number_at (n + 1) hs i d e.1 (omega arith) in omega arith

-- an answer leaves a hold of another number
left : (n : ℕ) (b : Bool) (h : Hold) → (h.number ≡ n → ⊥) → hold_ended n b h ≡ h
left n b h other = rw (ne_eqb h.number n other) refl

left_above : (n : ℕ) (b : Bool) (m : ℕ) (hs : List Hold) → n < m → AreNumbered m hs → map (hold_ended n b) hs ≡ hs
left_above n b m [] l e = refl
left_above n b m (h ∷ hs) l e =
    let first = e.0 in
    let here : hold_ended n b h ≡ h = left n b h (λ is. omega arith) in
    let rest : map (hold_ended n b) hs ≡ hs = left_above n b (m + 1) hs (omega arith) e.1 in
    cc

-- an answer ends the one open hold of its number
ended_at : (n : ℕ) (b : Bool) (m : ℕ) (hs : List Hold) (i : ℕ) (d : Hold) → AreNumbered m hs → i < length hs → n ≡ m + i → is_open (get_or hs i d) ≡ true
    → map (hold_ended n b) hs ≡ set hs i (with_fate (get_or hs i d) (Ended b))
ended_at n b m [] i d e l at here = absurd (omega arith)
ended_at n b m (h ∷ hs) zero d e l at here =
    let first = e.0 in
    let same : eqb h.number n ≡ true = eq-eqb h.number n (omega arith) in
    let rest : map (hold_ended n b) hs ≡ hs = left_above n b (m + 1) hs (omega arith) e.1 in
    rw (same, here, rest) refl
ended_at n b m (h ∷ hs) (suc i) d e l at here =
    let first = e.0 in
    let stays : hold_ended n b h ≡ h = left n b h (λ is. omega arith) in
    let rest = ended_at n b (m + 1) hs i d e.1 (omega arith) (omega arith) here in
    cc

pub ended_is_set : (n : ℕ) (b : Bool) (m : ℕ) (hs : List Hold) (i : ℕ) (d : Hold) → AreNumbered m hs → i < length hs → is_open_under n (get_or hs i d) ≡ true
    → map (hold_ended n b) hs ≡ set hs i (with_fate (get_or hs i d) (Ended b))
ended_is_set n b m hs i d e l here =
    let parts = and_parts _ _ here in
    let number = number_at m hs i d e l in
    let is = eqb-true (get_or hs i d).number n parts.0 in
    ended_at n b m hs i d e l (omega arith) parts.1

-- ---- the place of a hold

-- which way a test went
chosen : {A : Type 0} (b : Bool) (x y z : A) → cond b x y ≡ z → ((b ≡ true) × (x ≡ z)) ⊎ ((b ≡ false) × (y ≡ z))
chosen true x y z h = inl (refl, h)
chosen false x y z h = inr (refl, h)

pub place_found : (p : Hold → Bool) (hs xs : List Hold) (i : ℕ) (d : Hold) → xs ≡ hs → Some i ≡ position p xs
    → (i < length hs) × (p (get_or hs i d) ≡ true) × (find p hs ≡ Some (get_or hs i d))
place_found p hs xs i d same some =
    let e : position p hs ≡ Some i = sym (some ∙ ap (position p) same) in
    let there = position-Some p hs i d e in
    let place = position_or_len p hs in
    let read = slice_get-get_or hs i d there.0 in
    elim (chosen (ltb place (length hs)) (Some place) None (Some i) e) [
      | inl q ↦
          let at : place ≡ i = cc in
          (there.0, there.1, find_at p hs ∙ (ap (λ k. slice_get hs k) at ∙ read))
      | inr q ↦ absurd cc
    ]

pub place_missing : (p : Hold → Bool) (hs xs : List Hold) → xs ≡ hs → None ≡ position p xs → find p hs ≡ None
place_missing p hs xs same none =
    let place = position_or_len p hs in
    elim (chosen (ltb place (length hs)) (Some place) None None (sym (none ∙ ap (position p) same))) [
      | inl q ↦ absurd cc
      | inr q ↦ find_at p hs ∙ slice_get_past hs place (ltb-false place (length hs) q.0)
    ]

-- an open hold that ends is open no more
pub count-ended : (hs : List Hold) (i : ℕ) (d : Hold) (b : Bool) → i < length hs → is_open (get_or hs i d) ≡ true
    → count_by is_open (set hs i (with_fate (get_or hs i d) (Ended b))) + 1 ≡ count_by is_open hs
count-ended hs i d b l e =
    let y : Hold = with_fate (get_or hs i d) (Ended b) in
    let moved = sum_by-set (λ h. cond (is_open h) 1 0) hs i y d l in
    let now : count_by is_open (set hs i y) + 1 ≡ count_by is_open hs + 0 = rw e at moved in
    now ∙ add-zero (count_by is_open hs)

-- what is found passes the test
pub find_passes : {A : Type 0} (p : A → Bool) (hs : List A) (h : A) → find p hs ≡ Some h → p h ≡ true
find_passes p hs h e =
    let place = position_or_len p hs in
    let read : slice_get hs place ≡ Some h = sym (find_at p hs) ∙ e in
    let there = slice_get_within hs place h read in
    let some : position p hs ≡ Some place = rw (lt-ltb place (length hs) there) refl in
    subst (λ x. p x ≡ true) (get_or_from_slice_get hs place h h read) (position-Some p hs place h some).1
