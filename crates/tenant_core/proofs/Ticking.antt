-- What a mark or an end of one hold is to all of them, and where a hold of a number is found.
use Rattle.std.proofs.Common.{◌≡◌, ℕ, ◌+◌, ◌-◌, ◌<◌, ◌≤◌, Bool, true, false, cond, eqb, List, [], ◌∷◌, length, get_or, suc, zero, map, arith, refl, sym, ap, ◌∙◌, inl, inr, add-zero}
use Rattle.std.specs.Prelude.{Some, None, find, count_by}
use Rattle.std.specs.List.{slice_get}
use Rattle.std.proofs.Math.ListN.{set}
use Rattle.std.proofs.lemmas.Bool.{and_parts, eq-eqb, ne_eqb}
use Rattle.std.proofs.lemmas.List.Sums.{sum_by-set, sum_by-cons}
use Rattle.std.proofs.lemmas.Option.{slice_get_within, get_or_from_slice_get}
use Rattle.tenant_core.specs.declared.hold.Fate.TheVariants.{Marked, Ended}
use Rattle.tenant_core.specs.declared.hold.Hold.{Hold}
use Rattle.tenant_core.specs.HoldTables.{Table, IsComplete}
use Rattle.tenant_core.specs.Holds.{holds_amounts, is_open, is_open_under, is_overdue, hold_ended, hold_ticked, with_fate, AreNumbered}
use Rattle.tenant_core.proofs.Courses.{ended_is_set}
use Rattle.tenant_core.proofs.Slots.{set_cases, held_awaits}

-- ---- a tick

-- a tick makes of a hold that was marked before what it makes of it
pub marked_map : (clock : ℕ) (hs : List Hold) (i : ℕ) (h : Hold) → slice_get hs i ≡ Some h → is_overdue clock h ≡ true
    → map (hold_ticked clock) (set hs i (with_fate h Marked)) ≡ map (hold_ticked clock) hs
marked_map clock [] i h at over = absurd cc
marked_map clock (x ∷ hs) zero h at over =
    let same : x ≡ h = cc in
    rw (same, over) refl
marked_map clock (x ∷ hs) (suc i) h at over =
    ap (λ (rest : List Hold). hold_ticked clock x ∷ rest) (marked_map clock hs i h at over)

-- a hold that is marked is overdue no more
pub marked_count : (clock : ℕ) (hs : List Hold) (i : ℕ) (h : Hold) → slice_get hs i ≡ Some h → is_overdue clock h ≡ true
    → count_by (is_overdue clock) (set hs i (with_fate h Marked)) + 1 ≡ count_by (is_overdue clock) hs
marked_count clock hs i h at over =
    let moved = sum_by-set (λ (x : Hold). cond (is_overdue clock x) 1 0) hs i (with_fate h Marked) h (slice_get_within hs i h at) in
    let counted : count_by (is_overdue clock) (set hs i (with_fate h Marked)) + 1 ≡ count_by (is_overdue clock) hs + 0 = rw (get_or_from_slice_get hs i h h at, over) at moved in
    counted ∙ add-zero (count_by (is_overdue clock) hs)

-- where no hold is overdue, a tick marks none
pub none_overdue : (clock : ℕ) (hs : List Hold) → ((i : ℕ) (h : Hold) → slice_get hs i ≡ Some h → is_overdue clock h ≡ false)
    → (map (hold_ticked clock) hs ≡ hs) × (count_by (is_overdue clock) hs ≡ 0)
none_overdue clock [] none = (refl, refl)
none_overdue clock (h ∷ hs) none =
    let here : is_overdue clock h ≡ false = none 0 h refl in
    let rest = none_overdue clock hs (λ i x at. none (suc i) x at) in
    let stays : hold_ticked clock h ≡ h = rw here refl in
    let none' : cond {A = ℕ} (is_overdue clock h) 1 0 ≡ 0 = rw here refl in
    let zero : count_by (is_overdue clock) hs ≡ 0 = rest.1 in
    let same : map (hold_ticked clock) hs ≡ hs = rest.0 in
    (cc, sum_by-cons (λ (x : Hold). cond (is_overdue clock x) 1 0) h hs ∙ omega arith)

-- a hold that is overdue awaits its answer, and its amounts are held
pub overdue_held : (clock : ℕ) (h : Hold) → is_overdue clock h ≡ true → (holds_amounts h.fate ≡ true) × (is_open h ≡ true)
overdue_held clock h over =
    let held : holds_amounts h.fate ≡ true = (and_parts _ _ over).0 in
    (held, sym (held_awaits h.fate held))

-- a mark makes none overdue
pub marked_stays : (clock : ℕ) (hs : List Hold) (i p : ℕ) (h x : Hold) → slice_get (set hs i (with_fate h Marked)) p ≡ Some x
    → (slice_get hs p ≡ Some x → is_overdue clock x ≡ false) → is_overdue clock x ≡ false
marked_stays clock hs i p h x at before = elim (set_cases hs i p (with_fate h Marked) x at) [
  | inl q ↦ rw (← q.1) refl
  | inr q ↦ before q.1
]

-- where no hold in a complete table is overdue, none is
pub none_awaiting : (clock : ℕ) (t : Table) → IsComplete t
    → ((k p : ℕ) (h : Hold) → slice_get t.awaiting k ≡ Some p → slice_get t.holds p ≡ Some h → is_overdue clock h ≡ false)
    → (i : ℕ) (h : Hold) → slice_get t.holds i ≡ Some h → is_overdue clock h ≡ false
none_awaiting clock t complete none i h at = by (is_overdue clock h) refl
  where
    by : (b : Bool) → is_overdue clock h ≡ b → b ≡ false
    by false over = refl
    by true over =
        let listed = complete i h at (overdue_held clock h over).1 in
        sym over ∙ none listed.at i h listed.there at

-- ---- an answer

-- an answer ends the one open hold of its number
pub ended_map : (first n : ℕ) (fulfilled : Bool) (hs : List Hold) (h : Hold) (i : ℕ) → AreNumbered first hs → slice_get hs i ≡ Some h
    → h.number ≡ n → is_open h ≡ true → set hs i (with_fate h (Ended fulfilled)) ≡ map (hold_ended n fulfilled) hs
ended_map first n fulfilled hs h i numbered at number is =
    let read : get_or hs i h ≡ h = get_or_from_slice_get hs i h h at in
    let under : is_open_under n h ≡ true = rw (eq-eqb h.number n number) is in
    let ended = ended_is_set n fulfilled first hs i h numbered (slice_get_within hs i h at) (rw read under) in
    sym (rw read at ended)

-- ---- the hold of a number

-- the place where it stands, if it is open
open_at : (n m i : ℕ) (hs : List Hold) (h : Hold) → AreNumbered m hs → n ≡ m + i → slice_get hs i ≡ Some h
    → is_open h ≡ true → find (is_open_under n) hs ≡ Some h
open_at n m i [] h numbered is at awaits = absurd cc
open_at n m zero (x ∷ hs) h numbered is at awaits =
    let same : x ≡ h = cc in
    let first = numbered.0 in
    let number : eqb x.number n ≡ true = eq-eqb x.number n (omega arith) in
    let awaits' : is_open x ≡ true = rw same awaits in
    rw (number, awaits') at
open_at n m (suc i) (x ∷ hs) h numbered is at awaits =
    let first = numbered.0 in
    let other : eqb x.number n ≡ false = ne_eqb x.number n (λ same. omega arith) in
    rw other (open_at n (m + 1) i hs h numbered.1 (omega arith) at awaits)

-- none has a number below the first
pub find_none_before : (first n : ℕ) (hs : List Hold) → AreNumbered first hs → n < first → find (is_open_under n) hs ≡ None
find_none_before first n [] numbered below = refl
find_none_before first n (h ∷ hs) numbered below =
    let here = numbered.0 in
    let other : eqb h.number n ≡ false = ne_eqb h.number n (λ same. omega arith) in
    rw other (find_none_before (first + 1) n hs numbered.1 (omega arith))

-- none is open under its number where that one is not
closed_at : (n m i : ℕ) (hs : List Hold) (h : Hold) → AreNumbered m hs → n ≡ m + i → slice_get hs i ≡ Some h
    → is_open h ≡ false → find (is_open_under n) hs ≡ None
closed_at n m i [] h numbered is at ended = refl
closed_at n m zero (x ∷ hs) h numbered is at ended =
    let same : x ≡ h = cc in
    let first = numbered.0 in
    let number : eqb x.number n ≡ true = eq-eqb x.number n (omega arith) in
    let ended' : is_open x ≡ false = rw same ended in
    rw (number, ended') (find_none_before (m + 1) n hs numbered.1 (omega arith))
closed_at n m (suc i) (x ∷ hs) h numbered is at ended =
    let first = numbered.0 in
    let other : eqb x.number n ≡ false = ne_eqb x.number n (λ same. omega arith) in
    rw other (closed_at n (m + 1) i hs h numbered.1 (omega arith) at ended)

-- none has a number past the last
past : (n m : ℕ) (hs : List Hold) → AreNumbered m hs → m + length hs ≤ n → find (is_open_under n) hs ≡ None
past n m [] numbered above = refl
past n m (h ∷ hs) numbered above =
    let here = numbered.0 in
    let other : eqb h.number n ≡ false = ne_eqb h.number n (λ same. omega arith) in
    rw other (past n (m + 1) hs numbered.1 (omega arith))

-- the hold at the place that its number says is found if it is open
pub find_open : (first n : ℕ) (hs : List Hold) (h : Hold) → AreNumbered first hs → first ≤ n → slice_get hs (n - first) ≡ Some h
    → is_open h ≡ true → find (is_open_under n) hs ≡ Some h
find_open first n hs h numbered above at awaits = open_at n first (n - first) hs h numbered (omega arith) at awaits

-- none is found where that hold has ended
pub find_none_closed : (first n : ℕ) (hs : List Hold) (h : Hold) → AreNumbered first hs → first ≤ n → slice_get hs (n - first) ≡ Some h
    → is_open h ≡ false → find (is_open_under n) hs ≡ None
find_none_closed first n hs h numbered above at ended = closed_at n first (n - first) hs h numbered (omega arith) at ended

-- none is found where no hold has the number yet
pub find_none_past : (first n : ℕ) (hs : List Hold) → AreNumbered first hs → length hs ≤ n - first → find (is_open_under n) hs ≡ None
find_none_past first n [] numbered few = refl
find_none_past first n (h ∷ hs) numbered few = past n first (h ∷ hs) numbered (omega arith)
