-- A hold that a step of a history began is awaited until a step answers it.
use Rattle.std.proofs.Common.{◌≡◌, ◌≢◌, ◌==◌, ◌&&◌, ◌+◌, ◌<◌, ℕ, Bool, true, false, cond, List, [], ◌∷◌, ◌++◌, All, map, arith, refl, sym, ap, subst, ◌∙◌}
use Rattle.std.specs.Prelude.{Option, Some, None, is_some, find, filter, Any, ◌||◌, count_by, IsSomeAnd, nat_le, nat_lt}
use Rattle.std.specs.List.{list_any}
use Rattle.std.proofs.lemmas.Bool.{eqb-true, eqb-false, lt-ltb}
use Rattle.std.proofs.lemmas.Bool.Decides.{nat_tests}
use Rattle.std.proofs.lemmas.List.Elements.{All-nil, All-cons, All-weaker}
use Rattle.std.proofs.lemmas.List.Folds.{Any-from_list_any}
use Rattle.std.proofs.lemmas.List.Sums.{sum_by-cons}
use Rattle.tenant_core.specs.Fates.{is_answer_to}
use Rattle.tenant_core.specs.Holds.{awaits_answer, hold_after, hold_begun, holds_of, is_open, is_open_under, is_overdue, open_holds, is_fulfill, is_relayed}
use Rattle.tenant_core.specs.Limits.{max_period}
use Rattle.tenant_core.specs.Made.{IsMade}
use Rattle.tenant_core.specs.OpenHolds.{is_awaited}
use Rattle.tenant_core.specs.Replay.{outcome_of}
use Rattle.tenant_core.specs.State.{State, extended, later, opened, recorded}
use Rattle.tenant_core.specs.declared.faults.CommandFault.{CommandFault}
use Rattle.tenant_core.specs.declared.faults.CommandFault.TheVariants.{InUse, Limit}
use Rattle.tenant_core.specs.declared.hold.Fate.{Fate}
use Rattle.tenant_core.specs.declared.hold.Fate.TheVariants.{Marked, Ended}
use Rattle.tenant_core.specs.declared.hold.Hold.{Hold}
use Rattle.tenant_core.specs.declared.journal.Entry.{Entry}
use Rattle.tenant_core.specs.declared.journal.Entry.TheVariants.{Decide, Answer, Tick, Change, Roll}
use Rattle.tenant_core.specs.declared.journal.Outcome.{Outcome}
use Rattle.tenant_core.specs.declared.journal.Outcome.TheVariants.{Packet, Ticked, Done as Ordered, Rolled}
use Rattle.tenant_core.specs.declared.journal.Record.{Record}
use Rattle.tenant_core.specs.declared.opening.Opening.{Opening}
use Rattle.tenant_core.specs.declared.verdict.Verdict.TheVariants.{Unknown, NoRoom, Refuse, Forward, Fulfil, Relay}
use Rattle.one_list.specs.History.{IsHistory, IsNextStep, LeadTo, after_entry, after_record}
use Rattle.one_list.specs.Holds.{BeginsHold, HoldLaws, IsAnsweredByAnother, IsAnswerTo, holder, is_numbered}
use Rattle.one_list.proofs.Numbers.{course_of, held, holds_pushed}
use Rattle.one_list.specs.Steps.{of_worker}
use Rattle.one_list.specs.declared.step.Done.{Done}

-- ---- one record more

module _ (p : Hold → Bool) where
  -- what is found is found among more
  found_extended : (hs : List Hold) (more : Option Hold) → is_some (find p hs) ≡ true → is_some (find p (extended hs more)) ≡ true
  found_extended hs None h = h
  found_extended hs (Some x) h = pushed hs h
    where
      pushed : (xs : List Hold) → is_some (find p xs) ≡ true → is_some (find p (xs ++ x ∷ [])) ≡ true
      pushed [] e = absurd cc
      pushed (y ∷ ys) e = elim (p y) as (λ b. is_some (cond b (Some y) (find p ys)) ≡ true → is_some (cond b (Some y) (find p (ys ++ x ∷ []))) ≡ true) [ true ↦ λ k. refl | false ↦ pushed ys ] e

  -- and is found where what passes passes still
  found_mapped : (g : Hold → Hold) → ((h : Hold) → p h ≡ true → p (g h) ≡ true) → (hs : List Hold) → is_some (find p hs) ≡ true → is_some (find p (map g hs)) ≡ true
  found_mapped g keeps [] e = absurd cc
  found_mapped g keeps (y ∷ ys) e = by (p y) (p (g y)) (keeps y) (found_mapped g keeps ys) e
    where
      by : (a b : Bool) → (a ≡ true → b ≡ true) → (is_some (find p ys) ≡ true → is_some (find p (map g ys)) ≡ true) → is_some (cond a (Some y) (find p ys)) ≡ true
          → is_some (cond b (Some (g y)) (find p (map g ys))) ≡ true
      by a true keep rest k = refl
      by true false keep rest k = absurd (let wrong : false ≡ true = keep refl in cc)
      by false false keep rest k = rest k

-- a tick leaves it open
open_ticked : (a overdue : Bool) (f : Fate) → (a && awaits_answer f) ≡ true → (a && awaits_answer (cond overdue Marked f)) ≡ true
open_ticked true true f e = refl
open_ticked true false f e = e
open_ticked false overdue f e = e

-- an answer to another hold does
open_answered : (n m : ℕ) (b : Bool) (h : Hold) → (n == m) ≡ false → is_open_under n h ≡ true → ((h.number == n) && awaits_answer (cond (is_open_under m h) (Ended b) h.fate)) ≡ true
open_answered n m b h other e = by (h.number == n) refl e
  where
    by : (a : Bool) → (h.number == n) ≡ a → (a && awaits_answer h.fate) ≡ true → (a && awaits_answer (cond ((h.number == m) && awaits_answer h.fate) (Ended b) h.fate)) ≡ true
    by true is k =
        let same : h.number ≡ n = eqb-true h.number n is in
        let apart : (h.number == m) ≡ false = ap (λ z. z == m) same ∙ other in
        rw apart k
    by false is k = k

-- an entry that is no answer to it leaves it open
open_after : (n clock : ℕ) (e : Entry) (o : Outcome) (h : Hold) → is_answer_to n e ≡ false → is_open_under n h ≡ true → is_open_under n (hold_after clock e o h) ≡ true
open_after n clock (Decide d) o h other k = k
open_after n clock (Answer a) o h other k = open_answered n a.hold (is_fulfill a.key && is_relayed o) h other k
open_after n clock (Tick t) o h other k = open_ticked (h.number == n) (is_overdue clock h) h.fate k
open_after n clock (Change c) o h other k = k
open_after n clock (Roll r) o h other k = k

awaited_still : (s : State) (r : Record) (n : ℕ) → is_awaited s n ≡ true → is_answer_to n r.entry ≡ false → is_awaited (recorded s (Some r)) n ≡ true
awaited_still s r n is other =
    let g : Hold → Hold = hold_after (later (course_of s).clock r) r.entry r.outcome in
    ap (λ (hs : List Hold). is_some (find (is_open_under n) hs)) (holds_pushed s r)
    ∙ found_extended (is_open_under n) (map g (holds_of s)) (hold_begun r.entry r.outcome)
    (found_mapped (is_open_under n) g (λ h k. open_after n (later (course_of s).clock r) r.entry r.outcome h other k) (holds_of s) is)

-- a packet that goes on is awaited
awaited_begun : (s : State) (r : Record) (n : ℕ) → IsSomeAnd (hold_begun r.entry r.outcome) (λ h. h.number ≡ n) → is_awaited (recorded s (Some r)) n ≡ true
awaited_begun s r n begins =
    ap (λ (hs : List Hold). is_some (find (is_open_under n) hs)) (holds_pushed s r)
    ∙ by_outcome r.entry r.outcome (map (hold_after (later (course_of s).clock r) r.entry r.outcome) (holds_of s)) begins
  where
    pushed : (hs : List Hold) (h : Hold) → is_open_under n h ≡ true → is_some (find (is_open_under n) (hs ++ h ∷ [])) ≡ true
    pushed [] h is = ap (λ b. is_some (cond b (Some h) None)) is
    pushed (x ∷ xs) h is = elim (is_open_under n x) as (λ b. is_some (cond b (Some x) (find (is_open_under n) (xs ++ h ∷ []))) ≡ true) [ true ↦ refl | false ↦ pushed xs h is ]

    by_outcome : (e : Entry) (o : Outcome) (hs : List Hold) → IsSomeAnd (hold_begun e o) (λ h. h.number ≡ n) → is_some (find (is_open_under n) (extended hs (hold_begun e o))) ≡ true
    by_outcome (Decide d) (Packet (Forward hold peer amount expiry)) hs is = pushed hs _ (let same : (hold == n) ≡ true = grind (arith, nat_tests, is) in rw same refl)
    by_outcome (Decide d) (Packet Unknown) hs is = absurd is
    by_outcome (Decide d) (Packet NoRoom) hs is = absurd is
    by_outcome (Decide d) (Packet (Refuse code amounts)) hs is = absurd is
    by_outcome (Decide d) (Packet Fulfil) hs is = absurd is
    by_outcome (Decide d) (Packet Relay) hs is = absurd is
    by_outcome (Decide d) (Ticked count) hs is = absurd is
    by_outcome (Decide d) Ordered hs is = absurd is
    by_outcome (Decide d) Rolled hs is = absurd is
    by_outcome (Answer a) o hs is = absurd is
    by_outcome (Tick t) o hs is = absurd is
    by_outcome (Change c) o hs is = absurd is
    by_outcome (Roll x) o hs is = absurd is

-- ---- a roll

-- a hold that is awaited counts as open
found_counts : (n : ℕ) (hs : List Hold) → is_some (find (is_open_under n) hs) ≡ true → 0 < count_by is_open hs
found_counts n [] e = absurd cc
found_counts n (h ∷ hs) e = by (h.number == n) (is_open h) refl e (found_counts n hs)
  where
    by : (a b : Bool) → is_open h ≡ b → is_some (cond (a && b) (Some h) (find (is_open_under n) hs)) ≡ true → (is_some (find (is_open_under n) hs) ≡ true → 0 < count_by is_open hs)
        → 0 < count_by is_open (h ∷ hs)
    by a true is k rest = omega (arith, sum_by-cons (λ x. cond (is_open x) 1 0) h hs ∙ ap (λ b. cond b 1 0 + count_by is_open hs) is)
    by true false is k rest = omega (arith, sum_by-cons (λ x. cond (is_open x) 1 0) h hs, rest k)
    by false false is k rest = omega (arith, sum_by-cons (λ x. cond (is_open x) 1 0) h hs, rest k)

-- no roll is made while one is
no_roll : (s : State) (r : Record) (n now : ℕ) → r.entry ≡ Roll (record { now = now }) → IsMade s r → is_awaited s n ≡ true → ⊥
no_roll s r n now is made awaited =
    refused _ (nat_lt 0 (open_holds s)) (cond (nat_le max_period s.opening.period) (Some Limit) None) r.outcome
    (lt-ltb 0 (open_holds s) (found_counts n (holds_of s) awaited)) (subst (λ (e : Entry). outcome_of s e ≡ Some r.outcome) is made)
  where
    refused : (early busy : Bool) (last : Option CommandFault) (o : Outcome) → busy ≡ true → cond early (cond (is_some (cond busy (Some InUse) last)) None (Some Rolled)) None ≡ Some o → ⊥
    refused true true last o e k = cc
    refused false true last o e k = cc
    refused early false last o e k = cc

-- ---- one step more, and all steps

awaited_after : (s : State) (r : Record) (n : ℕ) → IsMade s r → is_awaited s n ≡ true → is_answer_to n r.entry ≡ false → is_awaited (after_record s r) n ≡ true
awaited_after s r n made awaited other = by r.entry refl
  where
    by : (e : Entry) → r.entry ≡ e → is_awaited (after_entry e s r) n ≡ true
    by (Decide d) is = awaited_still s r n awaited other
    by (Answer a) is = awaited_still s r n awaited other
    by (Tick t) is = awaited_still s r n awaited other
    by (Change c) is = awaited_still s r n awaited other
    by (Roll x) is = absurd (no_roll s r n x.now is made awaited)

-- a hold that has that number
some_numbered : (n : ℕ) (o : Option Hold) → is_numbered n o ≡ true → IsSomeAnd o (λ h. h.number ≡ n)
some_numbered n None is = absurd cc
some_numbered n (Some h) is = eqb-true h.number n is

begun_after : (s : State) (e : Done) (n : ℕ) → BeginsHold n e → is_awaited (after_record s e.made) n ≡ true
begun_after s e n is = by e.made.entry refl
  where
    begins : IsSomeAnd (hold_begun e.made.entry e.made.outcome) (λ h. h.number ≡ n)
    begins = some_numbered n (hold_begun e.made.entry e.made.outcome) is

    by : (x : Entry) → e.made.entry ≡ x → is_awaited (after_entry x s e.made) n ≡ true
    by (Decide d) is = awaited_begun s e.made n begins
    by (Answer a) is = awaited_begun s e.made n begins
    by (Tick t) is = awaited_begun s e.made n begins
    by (Change c) is = awaited_begun s e.made n begins
    by (Roll x) is = absurd (subst (λ (z : Entry). IsSomeAnd (hold_begun z e.made.outcome) (λ h. h.number ≡ n)) is begins)

-- a hold that is awaited, and in the end no longer, was answered
answered_by : (s t : State) (steps : List Done) (n : ℕ) → LeadTo s steps t → is_awaited s n ≡ true → is_awaited t n ≡ false → list_any (λ e. is_answer_to n e.made.entry) steps ≡ true
answered_by s t [] n led awaited none = let wrong : true ≡ false = sym awaited ∙ (ap (λ (z : State). is_awaited z n) led ∙ none) in absurd cc
answered_by s t (e ∷ es) n led awaited none = by (is_answer_to n e.made.entry) refl (λ next. answered_by (after_record s e.made) t es n led.1 next none)
  where
    rest : Bool
    rest = list_any (λ (x : Done). is_answer_to n x.made.entry) es

    by : (b : Bool) → is_answer_to n e.made.entry ≡ b → (is_awaited (after_record s e.made) n ≡ true → rest ≡ true) → (b || rest) ≡ true
    by true is later = refl
    by false is later = later (awaited_after s e.made n led.0.made awaited is)

-- the state before a step
lead_at : (s t : State) (earlier : List Done) (e : Done) (later : List Done) → LeadTo s (earlier ++ e ∷ later) t → (u : State) × IsNextStep u e × LeadTo (after_record u e.made) later t
lead_at s t [] e later led = (s, led.0, led.1)
lead_at s t (x ∷ xs) e later led = lead_at (after_record s x.made) t xs e later led.1

pub some_answer : (o : Opening) (earlier later : List Done) (e : Done) (s : State) (n : ℕ) → IsHistory o (earlier ++ e ∷ later) s → BeginsHold n e → is_awaited s n ≡ false
    → list_any (λ x. is_answer_to n x.made.entry) later ≡ true
some_answer o earlier later e s n history begins none =
    let at = lead_at (opened o) s earlier e later history in
    answered_by (after_record at.0 e.made) s later n at.2 (begun_after at.0 e n begins) none

answered : (o : Opening) (earlier later : List Done) (e : Done) (s : State) (n : ℕ) → IsHistory o (earlier ++ e ∷ later) s → BeginsHold n e → is_awaited s n ≡ false → Any (IsAnswerTo n) later
answered o earlier later e s n history begins none =
    Any-from_list_any (λ (x : Done). is_answer_to n x.made.entry) later (some_answer o earlier later e s n history begins none)

-- ---- by whom

-- where the last that passes stands: none after it passes
module _ {X : Type 0} (p : X → Bool) where
  none_kept : (xs : List X) → filter p xs ≡ [] → All (λ y. p y ≡ false) xs
  none_kept [] e = All-nil (λ y. p y ≡ false)
  none_kept (x ∷ xs) e = by (p x) refl e (none_kept xs)
    where
      by : (b : Bool) → p x ≡ b → cond b (x ∷ filter p xs) (filter p xs) ≡ [] → (filter p xs ≡ [] → All (λ y. p y ≡ false) xs) → All (λ y. p y ≡ false) (x ∷ xs)
      by true is none rest = absurd (let wrong : x ∷ filter p xs ≡ [] = none in cc)
      by false is none rest = All-cons (λ y. p y ≡ false) x xs is (rest none)

  pub record Stands (last : X) (xs : List X) : Type 0 where
    pub earlier : List X
    pub later : List X
    pub there : xs ≡ earlier ++ last ∷ later
    pub none : All (λ y. p y ≡ false) later

  behind : (x last : X) (xs : List X) → Stands last xs → Stands last (x ∷ xs)
  behind x last xs s = record { earlier = x ∷ s.earlier; later = s.later; there = ap (λ l. x ∷ l) s.there; none = s.none }

  pub last_kept : (xs before : List X) (last : X) → filter p xs ≡ before ++ last ∷ [] → Stands last xs
  last_kept [] [] last e = absurd cc
  last_kept [] (y ∷ ys) last e = absurd cc
  last_kept (x ∷ xs) before last e = by (p x) before e (last_kept xs)
    where
      by : (b : Bool) (ys : List X) → cond b (x ∷ filter p xs) (filter p xs) ≡ ys ++ last ∷ [] → ((zs : List X) (y : X) → filter p xs ≡ zs ++ y ∷ [] → Stands y xs) → Stands last (x ∷ xs)
      by true [] is rest =
          let same : x ≡ last = cc in
          let none : filter p xs ≡ [] = cc in
          record { earlier = []; later = xs; there = ap (λ z. z ∷ xs) same; none = none_kept xs none }
      by true (y ∷ ys) is rest = let tail : filter p xs ≡ ys ++ last ∷ [] = cc in behind x last xs (rest ys last tail)
      by false ys is rest = behind x last xs (rest ys last is)

by_another : (o : Opening) (steps before : List Done) (e : Done) (s : State) (n : ℕ) → IsHistory o steps s → of_worker e.worker steps ≡ before ++ e ∷ [] → BeginsHold n e → is_awaited s n ≡ false
    → IsAnsweredByAnother e n steps
by_another o steps before e s n history mine begins none =
    let at = last_kept (λ (x : Done). x.worker == e.worker) steps before e mine in
    record {
      earlier = at.earlier;
      later = at.later;
      there = at.there;
      others = All-weaker (λ (x : Done). (x.worker == e.worker) ≡ false) (λ (x : Done). x.worker ≢ e.worker) (λ x is. eqb-false x.worker e.worker is) at.later at.none;
      answered = answered o at.earlier at.later e s n (subst (λ (l : List Done). IsHistory o l s) at.there history) begins none;
    }

pub laws : HoldLaws
laws =
    record {
      answered = answered;
      by_another = by_another;
      held = λ o steps before e s n history mine begins. (
          let at = last_kept (λ (x : Done). x.worker == e.worker) steps before e mine in
          let led = subst (λ (l : List Done). IsHistory o l s) at.there history in
          ap (holder n) at.there ∙ held (opened o) s at.earlier at.later e n led begins);
    }
