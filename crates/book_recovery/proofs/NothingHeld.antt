-- A packet that was given up awaits no answer any more, and no other begins to await one.
use Rattle.std.proofs.Common.{◌≡◌, ℕ, Bool, true, false, ◌&&◌, ◌==◌, ◌+◌, cond, List, [], ◌∷◌, ◌++◌, map, refl, sym, ◌∙◌, ap, subst, Option}
use Rattle.std.specs.Prelude.{None, Some, fold, find, count_by, max, option_map, if◌then◌else◌}
use Rattle.std.specs.Prelude.{T}
use Rattle.std.proofs.Math.Dec.{eqb_refl}
use Rattle.std.proofs.lemmas.List.Sums.{fold-append}
use Rattle.tenant_core.specs.Answer.{answer_made, answer_record, answered, settle_answer}
use Rattle.tenant_core.specs.Holds.{Course, course_after, hold_ended, holds_of, is_open, is_open_under, open_hold, open_holds, with_fate}
use Rattle.tenant_core.specs.State.{State, clock_of, recorded}
use Rattle.tenant_core.specs.declared.hold.Fate.TheVariants.{Ended}
use Rattle.tenant_core.specs.declared.hold.Hold.{Hold}
use Rattle.tenant_core.specs.declared.journal.AnswerKey.TheVariants.{Fault}
use Rattle.tenant_core.specs.declared.journal.Record.{Record}
use Rattle.tenant_core.specs.declared.verdict.Verdict.{Verdict}
use Rattle.book_recovery.specs.Recovery.{NothingHeldLaw, all_given_up, given_up}

-- none of the packets of that number awaits an answer
abbrev NoneUnder : ℕ → List Hold → Type 0
NoneUnder n [] = Unit {0}
NoneUnder n (h ∷ hs) = (is_open_under n h ≡ false) × NoneUnder n hs

and_false : (b : Bool) → (b && false) ≡ false
and_false true = refl
and_false false = refl

itself : (b : Bool) → T b → b ≡ true
itself true holds = refl
itself false holds = absurd holds

-- ---- one packet

still_none : (b : Bool) (m : ℕ) (h : Hold) → is_open_under m h ≡ false → is_open_under m (with_fate h (if b then Ended false else h.fate)) ≡ false
still_none true m h none = and_false (h.number == m)
still_none false m h none = none

ended_now : (b : Bool) (n : ℕ) (h : Hold) → b ≡ is_open_under n h → is_open_under n (with_fate h (if b then Ended false else h.fate)) ≡ false
ended_now true n h is = and_false (h.number == n)
ended_now false n h is = sym is

-- ---- all packets

none_after : (n m : ℕ) (hs : List Hold) → NoneUnder m hs → NoneUnder m (map (hold_ended n false) hs)
none_after n m [] none = none
none_after n m (h ∷ hs) none = (still_none (is_open_under n h) m h none.0, none_after n m hs none.1)

none_under : (n : ℕ) (hs : List Hold) → NoneUnder n (map (hold_ended n false) hs)
none_under n [] = tt
none_under n (h ∷ hs) = (ended_now (is_open_under n h) n h refl, none_under n hs)

numbers_stay : (n : ℕ) (hs : List Hold) → map (λ h. h.number) (map (hold_ended n false) hs) ≡ map (λ h. h.number) hs
numbers_stay n [] = refl
numbers_stay n (h ∷ hs) = ap (λ (ns : List ℕ). h.number ∷ ns) (numbers_stay n hs)

found_none : (b : Bool) (n : ℕ) (h : Hold) (found : Option Hold) → b ≡ is_open_under n h → (if b then Some h else found) ≡ None → (is_open_under n h ≡ false) × (found ≡ None)
found_none true n h found is none = absurd (cc none)
found_none false n h found is none = (sym is, none)

not_found : (n : ℕ) (hs : List Hold) → find (is_open_under n) hs ≡ None → NoneUnder n hs
not_found n [] none = tt
not_found n (h ∷ hs) none =
    let both = found_none (is_open_under n h) n h (find (is_open_under n) hs) refl none in
    (both.0, not_found n hs both.1)

-- ---- the packets of a state

-- what is left of the packets by an answer of none
record IsLeft (n : ℕ) (before after : List Hold) : Type 0 where
  pub none : NoneUnder n after
  pub others : (m : ℕ) → NoneUnder m before → NoneUnder m after
  pub numbers : map (λ h. h.number) after ≡ map (λ h. h.number) before

holds_after : (s : State) (n now : ℕ) (v : Verdict) → holds_of (recorded s (Some (answer_record n now Fault v))) ≡ map (hold_ended n false) (holds_of s)
unfolding holds_of
holds_after s n now v = ap (λ (c : Course). c.holds) (fold-append course_after (record { clock = s.opening.clock; holds = [] }) s.records (answer_record n now Fault v ∷ []))

holds_stay : (s : State) → holds_of (recorded s None) ≡ holds_of s
unfolding holds_of
holds_stay s = refl

left_by : (s : State) (n now : ℕ) (found : Option Hold) → open_hold s n ≡ found
    → IsLeft n (holds_of s) (holds_of (recorded s (option_map (λ h. answer_record n now Fault (settle_answer h (max (clock_of s) now) Fault)) found)))
left_by s n now None is =
    subst (λ (hs : List Hold). IsLeft n (holds_of s) hs) (sym (holds_stay s)) (record {
      none = not_found n (holds_of s) is;
      others = λ m none. none;
      numbers = refl;
    })
left_by s n now (Some h) is =
    subst (λ (hs : List Hold). IsLeft n (holds_of s) hs) (sym (holds_after s n now (settle_answer h (max (clock_of s) now) Fault))) (record {
      none = none_under n (holds_of s);
      others = λ m none. none_after n m (holds_of s) none;
      numbers = numbers_stay n (holds_of s);
    })

left : (s : State) (n now : ℕ) → IsLeft n (holds_of s) (holds_of (answered s n now Fault))
left s n now = left_by s n now (open_hold s n) refl

-- ---- all of them

abbrev AllNone : List ℕ → List Hold → Type 0
AllNone [] hs = Unit {0}
AllNone (n ∷ ns) hs = NoneUnder n hs × AllNone ns hs

stays_none : (ns : List ℕ) (now : ℕ) (s : State) (m : ℕ) → NoneUnder m (holds_of s) → NoneUnder m (holds_of (given_up now ns s))
stays_none [] now s m none = none
stays_none (n ∷ ns) now s m none = stays_none ns now (answered s n now Fault) m ((left s n now).others m none)

all_none : (ns : List ℕ) (now : ℕ) (s : State) → AllNone ns (holds_of (given_up now ns s)) × (map (λ h. h.number) (holds_of (given_up now ns s)) ≡ map (λ h. h.number) (holds_of s))
all_none [] now s = (tt, refl)
all_none (n ∷ ns) now s =
    let one = left s n now in
    let others = all_none ns now (answered s n now Fault) in
    ((stays_none ns now (answered s n now Fault) n one.none, others.0), others.1 ∙ one.numbers)

without_first : (ns : List ℕ) (h : Hold) (hs : List Hold) → AllNone ns (h ∷ hs) → AllNone ns hs
without_first [] h hs all = tt
without_first (n ∷ ns) h hs all = (all.0.1, without_first ns h hs all.1)

is_closed : (n : ℕ) (b : Bool) → ((n == n) && b) ≡ false → b ≡ false
is_closed n b none = ap (λ (same : Bool). same && b) (sym (itself (n == n) (eqb_refl n))) ∙ none

none_open : (hs : List Hold) → AllNone (map (λ h. h.number) hs) hs → count_by is_open hs ≡ 0
none_open [] all = refl
none_open (h ∷ hs) all =
    let first = is_closed h.number (is_open h) all.0.0 in
    ap (λ (b : Bool). fold (λ (a : ℕ) (x : Hold). a + cond (is_open x) 1 0) (0 + cond b 1 0) hs) first
    ∙ none_open hs (without_first (map (λ g. g.number) hs) h hs all.1)

pub nothing_held : NothingHeldLaw
nothing_held s now =
    let all = all_none (map (λ h. h.number) (holds_of s)) now s in
    let after = holds_of (all_given_up now s) in
    none_open after (subst (λ (ns : List ℕ). AllNone ns after) (sym all.1) all.0)
