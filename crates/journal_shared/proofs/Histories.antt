-- Histories of a tenant: their fronts, and the lines of their steps.
use Rattle.std.proofs.Common.{◌≡◌, ◌<◌, ◌≤◌, ◌+◌, ℕ, List, [], ◌∷◌, ◌++◌, length, append_assoc, append-nil, refl, sym, ap, subst, ◌∙◌, arith, inl, inr, Some}
use Rattle.std.specs.Prelude.{◌⊎◌, All, map}
use Rattle.std.proofs.lemmas.List.{length-append}
use Rattle.std.proofs.lemmas.List.Elements.{All-cons, All-head, All-nil, All-tail}
use Rattle.statements.specs.Reading.{max_number}
use Rattle.tenant_core.specs.State.{State, recorded}
use Rattle.tenant_core.specs.declared.journal.Entry.{Entry}
use Rattle.tenant_core.specs.declared.journal.Entry.TheVariants.{Decide, Answer, Tick, Change, Roll}
use Rattle.tenant_core.specs.declared.journal.Record.{Record}
use Rattle.tenant_core.specs.declared.opening.Opening.{Opening}
use Rattle.book_log.specs.Lines.{log_line, place_of}
use Rattle.book_log.specs.Written.{IsLoggable, IsPlace}
use Rattle.book_log.specs.declared.line.LinePlace.{LinePlace}
use Rattle.book_journal.specs.Written.{lines_from, next_place}
use Rattle.one_list.specs.History.{IsNextStep, LeadTo, after_entry, after_record}
use Rattle.one_list.specs.declared.step.Done.{Done}
use Rattle.journal_shared.specs.Fronts.{IsLined, line_place, lines_of}

-- the records of steps
abbrev pub made : List Done → List Record
made steps = map (λ e. e.made) steps

-- ---- lists

-- of two beginnings of one list, one begins with the other
pub compared : {X : Type 0} (xs ys us vs : List X) → xs ++ us ≡ ys ++ vs
    → ((more : List X) × (xs ≡ ys ++ more)) ⊎ ((more : List X) × (ys ≡ xs ++ more))
compared [] ys us vs same = inr (ys, refl)
compared (x ∷ xs) [] us vs same = inl (x ∷ xs, refl)
compared (x ∷ xs) (y ∷ ys) us vs same = with_head (compared xs ys us vs (tail same)) (head same)
  where
    tail : {X : Type 0} {x y : X} {xs ys : List X} → x ∷ xs ≡ y ∷ ys → xs ≡ ys
    tail h = cc h

    head : {X : Type 0} {x y : X} {xs ys : List X} → x ∷ xs ≡ y ∷ ys → x ≡ y
    head h = cc h

    with_head : {X : Type 0} {x y : X} {xs ys : List X} → ((more : List X) × (xs ≡ ys ++ more)) ⊎ ((more : List X) × (ys ≡ xs ++ more)) → x ≡ y
        → ((more : List X) × (x ∷ xs ≡ y ∷ (ys ++ more))) ⊎ ((more : List X) × (y ∷ ys ≡ x ∷ (xs ++ more)))
    with_head (inl (more, is)) one = inl (more, cc (one, is))
    with_head (inr (more, is)) one = inr (more, cc (one, is))

-- what one list adds to another ends with the last element of both, if it adds any
abbrev EndsWith : {X : Type 0} → (xs us ys : List X) → X → Type 0
EndsWith {X} xs us ys z = (us ≡ []) ⊎ ((vs : List X) × (us ≡ vs ++ z ∷ []) × (xs ++ vs ≡ ys))

tail_of : {X : Type 0} (x y : X) (xs ys : List X) → x ∷ xs ≡ y ∷ ys → xs ≡ ys
tail_of x y xs ys h = cc h

head_of : {X : Type 0} (x y : X) (xs ys : List X) → x ∷ xs ≡ y ∷ ys → x ≡ y
head_of x y xs ys h = cc h

not_none : {X : Type 0} (xs : List X) (u : X) (us : List X) → xs ++ u ∷ us ≡ [] → ⊥
not_none [] u us h = cc h
not_none (x ∷ xs) u us h = cc h

ends_after : {X : Type 0} (x y z : X) (xs us ys : List X) → EndsWith xs us ys z → x ≡ y → EndsWith (x ∷ xs) us (y ∷ ys) z
ends_after x y z xs us ys (inl none) one = inl none
ends_after x y z xs us ys (inr (vs, is, rest)) one = inr (vs, is, cc (one, rest))

pub last_of_both : {X : Type 0} (xs us ys : List X) (z : X) → xs ++ us ≡ ys ++ z ∷ []
    → (us ≡ []) ⊎ ((vs : List X) × (us ≡ vs ++ z ∷ []) × (xs ++ vs ≡ ys))
last_of_both xs [] ys z same = inl refl
last_of_both [] (u ∷ us) ys z same = inr (ys, same, refl)
last_of_both (x ∷ xs) (u ∷ us) [] z same = absurd (not_none xs u us (tail_of x z (xs ++ u ∷ us) [] same))
last_of_both (x ∷ xs) (u ∷ us) (y ∷ ys) z same =
    ends_after x y z xs (u ∷ us) ys (last_of_both xs (u ∷ us) ys z (tail_of x y (xs ++ u ∷ us) (ys ++ z ∷ []) same))
    (head_of x y (xs ++ u ∷ us) (ys ++ z ∷ []) same)

-- ---- steps that lead on

pub lead_split : (xs ys : List Done) (s t : State) → LeadTo s (xs ++ ys) t → (m : State) × LeadTo s xs m × LeadTo m ys t
lead_split [] ys s t leads = (s, refl, leads)
lead_split (x ∷ xs) ys s t leads =
    let rest = lead_split xs ys (after_record s x.made) t leads.1 in
    (rest.0, (leads.0, rest.1), rest.2)

pub lead_once : (xs : List Done) (s t u : State) → LeadTo s xs t → LeadTo s xs u → t ≡ u
lead_once [] s t u one other = sym one ∙ other
lead_once (x ∷ xs) s t u one other = lead_once xs (after_record s x.made) t u one.1 other.1

-- a state of a later period, or of the same one with more records
abbrev pub IsLater : State → State → Type 0
IsLater s t = (s.opening.period < t.opening.period) ⊎ ((t.opening.period ≡ s.opening.period) × (length s.records < length t.records))

later_both : (s t u : State) → IsLater s t → IsLater t u → IsLater s u
later_both s t u (inl h) (inl k) = inl (omega arith)
later_both s t u (inl h) (inr k) = inl (let same = k.0 in omega arith)
later_both s t u (inr h) (inl k) = inl (let same = h.0 in omega arith)
later_both s t u (inr h) (inr k) = inr (k.0 ∙ h.0, omega (arith, h.1, k.1))

later_appended : (s : State) (r : Record) → IsLater s (recorded s (Some r))
later_appended s r = inr (refl, let longer = length-append s.records (r ∷ []) in omega arith)

later_by : (e : Entry) (s : State) (r : Record) → IsLater s (after_entry e s r)
later_by (Decide d) s r = later_appended s r
later_by (Answer a) s r = later_appended s r
later_by (Tick t) s r = later_appended s r
later_by (Change c) s r = later_appended s r
later_by (Roll x) s r = inl (one (s.opening.period))
  where
    one : (n : ℕ) → n < n + 1
    one n = omega arith

pub lead_later : (x : Done) (xs : List Done) (s t : State) → LeadTo s (x ∷ xs) t → IsLater s t
lead_later x [] s t leads = subst (IsLater s) leads.1 (later_by x.made.entry s x.made)
lead_later x (y ∷ ys) s t leads =
    later_both s (after_record s x.made) t (later_by x.made.entry s x.made) (lead_later y ys (after_record s x.made) t leads.1)

-- a state is not later than itself
pub not_later : (s t : State) → place_of s ≡ place_of t → IsLater s t → ⊥
not_later s t same (inl h) = let period = ap (λ (p : LinePlace). p.period) same in omega arith
not_later s t same (inr h) = omega (arith, ap (λ (p : LinePlace). p.number) same, h.1)

-- steps that lead to the same place are none
pub none_between : (xs : List Done) (s t : State) → place_of s ≡ place_of t → LeadTo s xs t → (xs ≡ []) × (s ≡ t)
none_between [] s t same leads = (refl, leads)
none_between (x ∷ xs) s t same leads = absurd (not_later s t same (lead_later x xs s t leads))

-- ---- within a period

-- an entry is appended, or the next period begins
appended_or_next : (e : Entry) (s : State) (r : Record)
    → (after_entry e s r ≡ recorded s (Some r)) ⊎ ((after_entry e s r).opening.period ≡ s.opening.period + 1)
appended_or_next (Decide d) s r = inl refl
appended_or_next (Answer a) s r = inl refl
appended_or_next (Tick t) s r = inl refl
appended_or_next (Change c) s r = inl refl
appended_or_next (Roll x) s r = inr refl

not_before : (xs : List Done) (s t : State) → LeadTo s xs t → s.opening.period ≤ t.opening.period
not_before [] s t leads = let same = ap (λ (u : State). u.opening.period) leads in omega arith
not_before (x ∷ xs) s t leads = by_later (lead_later x xs s t leads)
  where
    by_later : IsLater s t → s.opening.period ≤ t.opening.period
    by_later (inl h) = omega arith
    by_later (inr h) = let same = h.0 in omega arith

-- the first of steps that lead on within a period is appended
first_appended : (x : Done) (xs : List Done) (s t : State) → t.opening.period ≡ s.opening.period → LeadTo s (x ∷ xs) t
    → after_record s x.made ≡ recorded s (Some x.made)
first_appended x xs s t same leads = by_kind (appended_or_next x.made.entry s x.made)
  where
    by_kind : (after_record s x.made ≡ recorded s (Some x.made)) ⊎ ((after_record s x.made).opening.period ≡ s.opening.period + 1)
        → after_record s x.made ≡ recorded s (Some x.made)
    by_kind (inl is) = is
    by_kind (inr next) = absurd (let least = not_before xs (after_record s x.made) t leads.1 in omega arith)

-- what steps leave that lead on within a period, and their lines
pub record LeavesWithin (s t : State) (xs : List Done) : Type 0 where
  pub opening : t.opening ≡ s.opening
  pub records : t.records ≡ s.records ++ made xs
  pub lines : lines_from (place_of s) (made xs) ≡ lines_of s.opening.tenant xs

step_place : (x : Done) (s : State) → IsNextStep s x → place_of s ≡ line_place s.opening.tenant x
step_place x s next = λ i. record { tenant = s.opening.tenant; period = sym next.period i; number = sym next.number i }

place_next : (s : State) (r : Record) → next_place (place_of s) ≡ place_of (recorded s (Some r))
place_next s r =
    let longer : length s.records + 1 ≡ length (s.records ++ r ∷ []) = sym (length-append s.records (r ∷ [])) in
    λ i. record { tenant = s.opening.tenant; period = s.opening.period; number = longer i }

pub leaves_within : (xs : List Done) (s t : State) → t.opening.period ≡ s.opening.period → LeadTo s xs t → LeavesWithin s t xs
leaves_within [] s t same leads = record {
  opening = ap (λ (u : State). u.opening) (sym leads);
  records = ap (λ (u : State). u.records) (sym leads) ∙ sym (append-nil s.records);
  lines = refl;
}
leaves_within (x ∷ xs) s t same leads =
    let first = first_appended x xs s t same leads in
    let rest = leaves_within xs (recorded s (Some x.made)) t same (subst (λ (u : State). LeadTo u xs t) first leads.1) in
    record {
      opening = rest.opening;
      records = rest.records ∙ append_assoc s.records (x.made ∷ []) (made xs);
      lines = ap (λ (p : LinePlace). log_line (place_of s) x.made ++ lines_from p (made xs)) (place_next s x.made)
          ∙ ap (λ (l : List ℕ). log_line (place_of s) x.made ++ l) rest.lines
          ∙ ap (λ (p : LinePlace). log_line p x.made ++ lines_of s.opening.tenant xs) (step_place x s leads.0);
    }

-- lines of steps that lead on within a period can be read back, if those of the last can
pub lined_within : (xs : List Done) (s t : State) → t.opening.period ≡ s.opening.period → LeadTo s xs t → IsPlace (place_of t)
    → All IsLoggable (made xs) → All (IsLined s.opening.tenant) xs
lined_within [] s t same leads place loggable = All-nil _
lined_within (x ∷ xs) s t same leads place loggable =
    let first = first_appended x xs s t same leads in
    let there = leaves_within (x ∷ xs) s t same leads in
    let longer = ap length there.records ∙ length-append s.records (made (x ∷ xs)) in
    let one : IsPlace (place_of s) = record {
      tenant = subst (λ n. n ≤ 65_535) (ap (λ (o : Opening). o.tenant) there.opening) place.tenant;
      period = subst (λ n. n ≤ max_number) (ap (λ (o : Opening). o.period) there.opening) place.period;
      number = le_of (length s.records) (length (made (x ∷ xs))) (length t.records) max_number longer place.number;
    } in
    All-cons (IsLined s.opening.tenant) x xs
    (record { place = subst IsPlace (step_place x s leads.0) one; loggable = All-head IsLoggable x.made (made xs) loggable })
    (lined_within xs (recorded s (Some x.made)) t same (subst (λ (u : State). LeadTo u xs t) first leads.1) place (All-tail IsLoggable x.made (made xs) loggable))
  where
    le_of : (a b c d : ℕ) → c ≡ a + b → c ≤ d → a ≤ d
    le_of a b c d e h = omega arith

pub lines_both : (tenant : ℕ) (xs ys : List Done) → lines_of tenant (xs ++ ys) ≡ lines_of tenant xs ++ lines_of tenant ys
lines_both tenant [] ys = refl
lines_both tenant (x ∷ xs) ys =
    ap (λ (l : List ℕ). log_line (line_place tenant x) x.made ++ l) (lines_both tenant xs ys)
    ∙ sym (append_assoc (log_line (line_place tenant x) x.made) (lines_of tenant xs) (lines_of tenant ys))
