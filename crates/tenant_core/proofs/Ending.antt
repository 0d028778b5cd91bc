-- Where a hold of a number stands, and what its end is to the purses where its amounts are held no more.
use Rattle.std.proofs.Common.{◌≡◌, ℕ, ◌-◌, ◌<◌, ◌≤◌, Bool, true, false, cond, eqb, List, length, get_or, map, arith, refl, sym, ap, subst, ◌∙◌}
use Rattle.std.specs.Prelude.{Option, ◌&&◌, Some, find, sum_by, option_and_then}
use Rattle.std.specs.List.{slice_get}
use Rattle.std.proofs.Math.ListN.{set}
use Rattle.std.proofs.lemmas.Bool.{and_parts, eqb-true}
use Rattle.std.proofs.lemmas.List.Sums.{sum_by-set}
use Rattle.std.proofs.lemmas.Option.{slice_get_within, get_or_from_slice_get, slice_get-get_or}
use Rattle.tenant_core.specs.declared.hold.Fate.{Fate}
use Rattle.tenant_core.specs.declared.hold.Fate.TheVariants.{Ended}
use Rattle.tenant_core.specs.declared.hold.Hold.{Hold}
use Rattle.tenant_core.specs.declared.peer.Peer.{Peer}
use Rattle.std.specs.Bool.{then_some}
use Rattle.tenant_core.specs.Answer.{settle_answer}
use Rattle.tenant_core.specs.declared.journal.AnswerKey.{AnswerKey}
use Rattle.tenant_core.specs.declared.verdict.Verdict.{Verdict}
use Rattle.tenant_core.specs.Holds.{is_fulfill, is_relay, is_open, is_open_under, holds_amounts, with_fate, AreNumbered}
use Rattle.tenant_core.specs.Purse.{held_from, held_for, taken_from, taken_for}
use Rattle.tenant_core.specs.Running.{purse_by}
use Rattle.tenant_core.specs.State.{State}
use Rattle.tenant_core.proofs.ChangedLists.{map-same, read_at}
use Rattle.tenant_core.proofs.Courses.{find_passes}
use Rattle.tenant_core.proofs.Purses.{open_takes_nothing}
use Rattle.tenant_core.proofs.Soundness.{relayed_held}
use Rattle.tenant_core.proofs.Ticking.{find_open, find_none_closed}

-- a sum stays where the one that is written counts as much as the one that was there
sum_stays : (f : Hold → ℕ) (hs : List Hold) (i : ℕ) (h y : Hold) → slice_get hs i ≡ Some h → f h ≡ 0 → f y ≡ 0
    → sum_by f (set hs i y) ≡ sum_by f hs
sum_stays f hs i h y at before after =
    let moved = sum_by-set f hs i y h (slice_get_within hs i h at) in
    let read : f (get_or hs i h) ≡ 0 = ap f (get_or_from_slice_get hs i h h at) ∙ before in
    omega arith

-- amounts that are not held count as none
holds_nothing : (f : Fate) (t : Bool) (x : ℕ) → holds_amounts f ≡ false → cond (holds_amounts f && t) x 0 ≡ 0
holds_nothing f t x none = rw none refl

-- the end of a hold that was marked moves nothing
pub marked_ends : (s : State) (hs : List Hold) (i : ℕ) (h : Hold) (peers : List Peer) → slice_get hs i ≡ Some h → is_open h ≡ true
    → holds_amounts h.fate ≡ false → map (purse_by s (set hs i (with_fate h (Ended false)))) peers ≡ map (purse_by s hs) peers
marked_ends s hs i h peers at awaits none = map-same (purse_by s (set hs i y)) (purse_by s hs) peers (λ k p there. each p)
  where
    y : Hold
    y = with_fate h (Ended false)

    each : (p : Peer) → purse_by s (set hs i y) p ≡ purse_by s hs p
    each p =
        let n = p.number in
        let hi = sum_stays (held_from n) hs i h y at (holds_nothing h.fate (eqb h.from n) h.amount none) refl in
        let ho = sum_stays (held_for n) hs i h y at (holds_nothing h.fate (eqb h.to n) h.price none) refl in
        let ti = sum_stays (taken_from n) hs i h y at (open_takes_nothing h.fate (eqb h.from n) h.amount awaits) refl in
        let to = sum_stays (taken_for n) hs i h y at (open_takes_nothing h.fate (eqb h.to n) h.price awaits) refl in
        rw (hi, ho, ti, to) refl

-- a hold whose amounts are not held is not fulfilled
unheld : (h : Hold) (clock : ℕ) (key : AnswerKey) (v : Verdict) (b : Bool) → is_open h ≡ true → holds_amounts h.fate ≡ false
    → v ≡ settle_answer h clock key → b ≡ (is_fulfill key && is_relay v) → b ≡ false
unheld h clock key v false awaits none verdict is = refl
unheld h clock key v true awaits none verdict is =
    let taken : (is_fulfill key && is_relay (settle_answer h clock key)) ≡ true = ap (λ x. is_fulfill key && is_relay x) (sym verdict) ∙ sym is in
    let held = relayed_held h clock key awaits taken in
    absurd cc

-- its end moves nothing
pub unheld_ends : (s : State) (hs : List Hold) (i : ℕ) (h : Hold) (peers : List Peer) (clock : ℕ) (key : AnswerKey) (v : Verdict) (b : Bool)
    → slice_get hs i ≡ Some h → is_open h ≡ true → holds_amounts h.fate ≡ false → v ≡ settle_answer h clock key
    → b ≡ (is_fulfill key && is_relay v)
    → map (purse_by s (set hs i (with_fate h (Ended b)))) peers ≡ map (purse_by s hs) peers
unheld_ends s hs i h peers clock key v b at awaits none verdict is =
    rw (unheld h clock key v b awaits none verdict is) (marked_ends s hs i h peers at awaits none)

-- the hold at that place awaits its answer, and is the one of that number that does
pub record IsFoundAt (n : ℕ) (hs : List Hold) (place : ℕ) (h : Hold) : Type 0 where
  pub at : slice_get hs place ≡ Some h
  pub number : h.number ≡ n
  pub awaits : is_open h ≡ true
  pub found : find (is_open_under n) hs ≡ Some h

pub found_at : (n : ℕ) (hs xs : List Hold) (place : ℕ) (h : Hold) → xs ≡ hs → slice_get xs place ≡ find (is_open_under n) xs
    → slice_get hs place ≡ Some h → IsFoundAt n hs place h
found_at n hs xs place h same is at =
    let here : slice_get hs place ≡ find (is_open_under n) hs = subst (λ (ks : List Hold). slice_get ks place ≡ find (is_open_under n) ks) same is in
    let found : find (is_open_under n) hs ≡ Some h = sym here ∙ at in
    let parts = and_parts (eqb h.number n) (is_open h) (find_passes (is_open_under n) hs h found) in
    record { at = at; number = eqb-true h.number n parts.0; awaits = parts.1; found = found }

-- the same of what was read there
pub found_read : (n : ℕ) (hs xs ys : List Hold) (place : ℕ) (d : Hold) → xs ≡ hs → ys ≡ hs → place < length xs
    → slice_get xs place ≡ find (is_open_under n) xs → IsFoundAt n hs place (get_or ys place d)
found_read n hs xs ys place d same same' inside is =
    let longs : length xs ≡ length hs = ap length same in
    let read : slice_get hs place ≡ Some (get_or hs place d) = slice_get-get_or hs place d (omega arith) in
    let at : slice_get hs place ≡ Some (get_or ys place d) = read ∙ ap (λ (ks : List Hold). Some (get_or ks place d)) (sym same') in
    found_at n hs xs place (get_or ys place d) same is at

-- the place of a number is where the hold of that number stands, if it awaits its answer
pub placed : (first n place : ℕ) (hs : List Hold) (h : Hold) (b : Bool) (r : Option ℕ) → AreNumbered first hs → first ≤ n → place ≡ n - first
    → place < length hs → h ≡ get_or hs place h → b ≡ is_open h → r ≡ then_some b place
    → option_and_then (λ i. slice_get hs i) r ≡ find (is_open_under n) hs
placed first n place hs h true r numbered above is inside read awaits result =
    let at : slice_get hs place ≡ Some h = read_at hs place h inside read in
    let here : slice_get hs (n - first) ≡ Some h = subst (λ i. slice_get hs i ≡ Some h) is at in
    ap (option_and_then (λ i. slice_get hs i)) result ∙ (at ∙ sym (find_open first n hs h numbered above here (sym awaits)))
placed first n place hs h false r numbered above is inside read awaits result =
    let at : slice_get hs place ≡ Some h = read_at hs place h inside read in
    let here : slice_get hs (n - first) ≡ Some h = subst (λ i. slice_get hs i ≡ Some h) is at in
    ap (option_and_then (λ i. slice_get hs i)) result ∙ sym (find_none_closed first n hs h numbered above here (sym awaits))
