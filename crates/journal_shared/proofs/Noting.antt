-- Notes of a tenant: what they say of its history, and how they go on.
use Rattle.std.proofs.Common.{◌≡◌, ◌≤◌, ◌+◌, ℕ, suc, List, [], ◌∷◌, ◌++◌, drop, length, append_assoc, append-nil, refl, sym, ap, subst, ◌∙◌, arith, inl, inr, max, Some}
use Rattle.std.specs.Prelude.{◌⊎◌, All, Err, IfOk, Ok, Result}
use Rattle.std.specs.List.{slice_get}
use Rattle.std.proofs.lemmas.Bool.{eq-eqb, ne_eqb}
use Rattle.std.proofs.lemmas.List.{length-append}
use Rattle.std.proofs.lemmas.List.Elements.{All-append, All-cons, All-head, All-map, All-nil, All-tail}
use Rattle.std.proofs.lemmas.Option.{get_or_from_slice_get, same_Some, slice_get-get_or, slice_get_within}
use Rattle.std.proofs.Math.ListN.{get_or, get_or-append}
use Rattle.std.proofs.Math.Seq.{drop-append_seam, get_or-append_seam}
use Rattle.statements.specs.Reading.{max_number}
use Rattle.tenant_core.specs.Closing.{IsPeriod}
use Rattle.tenant_core.specs.Holds.{open_holds}
use Rattle.tenant_core.specs.Limits.{max_journal}
use Rattle.tenant_core.specs.Periods.{closed, next_opening, roll_record}
use Rattle.tenant_core.specs.Sound.{IsSound}
use Rattle.tenant_core.specs.State.{State, clock_of, opened}
use Rattle.tenant_core.specs.declared.opening.Opening.{Opening}
use Rattle.tenant_core.specs.declared.period.PeriodParts.{PeriodParts}
use Rattle.tenant_core.specs.declared.journal.Record.{Record}
use Rattle.book_log.specs.Lines.{log_line, place_of}
use Rattle.book_log.specs.Written.{IsLoggable, IsPlace}
use Rattle.book_log.specs.declared.line.LinePlace.{LinePlace}
use Rattle.book_journal.specs.Noted.{NotesState, no_notes, noted_by, taken, unnoted}
use Rattle.book_journal.specs.Written.{closed_state, lines_from, next_place as next_line, place_in}
use Rattle.one_list.specs.History.{LeadTo}
use Rattle.one_list.specs.Steps.{GoesOnFrom, done, next_place}
use Rattle.one_list.specs.declared.step.Beginning.{Beginning}
use Rattle.one_list.specs.declared.step.Done.{Done}
use Rattle.books_shared.specs.Begun.{AreNumbered}
use Rattle.books_shared.specs.Kept.{LockedBook}
use Rattle.books_shared.specs.Traced.{IsLedTo}
use Rattle.workers.specs.Keeping.{HasClosed}
use Rattle.journal_shared.specs.Fronts.{AreAppended, AreLines, AreTaken, EndWith, Front, HasNoted, IsFront, IsLined, IsMet, IsSound as AreSound, NotedState, end_of, first_front, front_of, line_place, lines_of}
use Rattle.journal_shared.specs.Kept.{first_fronts}
use Rattle.journal_shared.proofs.Histories.{compared, last_of_both, lead_once, lead_split, leaves_within, lined_within, lines_both, made, none_between}

-- ---- fronts

-- two fronts of a tenant whose steps begin one list: one goes on from the other, and the steps between lead from its state
pub goes_between : (openings : List Opening) (f g : Front) (more : List Done) → IsFront openings f → IsFront openings g
    → g.state.opening.tenant ≡ f.state.opening.tenant → g.steps ≡ f.steps ++ more → LeadTo f.state more g.state
goes_between openings f g more one other tenant is =
    let first : one.first ≡ other.first
    = same_Some one.first other.first (sym one.opens ∙ (ap (slice_get openings) (sym tenant) ∙ other.opens)) in
    let whole : LeadTo (opened one.first) (f.steps ++ more) g.state
    = subst (λ (o : Opening). LeadTo (opened o) (f.steps ++ more) g.state) (sym first)
    (subst (λ (steps : List Done). LeadTo (opened other.first) steps g.state) is other.history) in
    let parts = lead_split f.steps more (opened one.first) g.state whole in
    let same = lead_once f.steps (opened one.first) parts.0 f.state parts.1 one.history in
    subst (λ (s : State). LeadTo s more g.state) same parts.2

-- fronts of one tenant with one end, both of which begin one list, are one
pub same_front : (openings : List Opening) (f g : Front) (us vs : List Done) → IsFront openings f → IsFront openings g
    → end_of f ≡ end_of g → f.steps ++ us ≡ g.steps ++ vs → f ≡ g
same_front openings f g us vs one other same both = by (compared f.steps g.steps us vs both)
  where
    tenant : f.state.opening.tenant ≡ g.state.opening.tenant
    tenant = ap (λ (p : LinePlace). p.tenant) same

    alike : (f g : Front) → f.steps ≡ g.steps → f.state ≡ g.state → f ≡ g
    alike f g steps state = λ i. record { steps = steps i; state = state i }

    by : ((more : List Done) × (f.steps ≡ g.steps ++ more)) ⊎ ((more : List Done) × (g.steps ≡ f.steps ++ more)) → f ≡ g
    by (inl (more, is)) =
        let none = none_between more g.state f.state (sym same) (goes_between openings g f more other one tenant is) in
        alike f g (is ∙ (ap (λ (xs : List Done). g.steps ++ xs) none.0 ∙ append-nil g.steps)) (sym none.1)
    by (inr (more, is)) =
        let none = none_between more f.state g.state same (goes_between openings f g more one other (sym tenant) is) in
        alike f g (sym (is ∙ (ap (λ (xs : List Done). f.steps ++ xs) none.0 ∙ append-nil f.steps))) none.1

-- ---- what was met

met_at : (P : Beginning → Type 0) (met : List Beginning) (b : Beginning) (i : ℕ) → All P met → slice_get met i ≡ Some b → P b
met_at P met b i all at =
    subst P (get_or_from_slice_get met i b b at) (all i b (slice_get_within met i b at))

-- steps go on from a front that was met, if they go on from all that was met of the tenant
pub from_met : (tenant : ℕ) (steps : List Done) (met : List Beginning) (f : Front) → IsMet met f → f.state.opening.tenant ≡ tenant
    → All (GoesOnFrom tenant steps) met → (rest : List Done) × (steps ≡ f.steps ++ rest)
from_met tenant steps met f (inl none) own all = (steps, ap (λ (xs : List Done). xs ++ steps) (sym none))
from_met tenant steps met f (inr (i, at)) own all =
    met_at (GoesOnFrom tenant steps) met (record { tenant = f.state.opening.tenant; steps = f.steps }) i all at own

met_there : (met more : List Beginning) (b : Beginning) (i : ℕ) → slice_get met i ≡ Some b → slice_get (met ++ more) i ≡ Some b
met_there met more b i at =
    let within = slice_get_within met i b at in
    slice_get-get_or (met ++ more) i b (let longer = length-append met more in omega arith)
    ∙ ap (λ (x : Beginning). Some x) (get_or-append met more b i within ∙ get_or_from_slice_get met i b b at)

-- what was met stays so
pub met_still : (met more : List Beginning) (f : Front) → IsMet met f → IsMet (met ++ more) f
met_still met more f (inl none) = inl none
met_still met more f (inr (i, at)) = inr (i, met_there met more (record { tenant = f.state.opening.tenant; steps = f.steps }) i at)

-- what was met last is there
pub met_last : (met : List Beginning) (f : Front) → IsMet (met ++ record { tenant = f.state.opening.tenant; steps = f.steps } ∷ []) f
met_last met f =
    let b : Beginning = record { tenant = f.state.opening.tenant; steps = f.steps } in
    inr (
      length met,
      slice_get-get_or (met ++ b ∷ []) (length met) b (let longer = length-append met (b ∷ []) in omega arith)
          ∙ ap (λ (x : Beginning). Some x) (get_or-append_seam met b [] b),
    )

-- steps go on from themselves, and from what they went on from
pub goes_on_more : (tenant : ℕ) (steps : List Done) (met : List Beginning) → All (GoesOnFrom tenant steps) met
    → All (GoesOnFrom tenant steps) (met ++ record { tenant = tenant; steps = steps } ∷ [])
goes_on_more tenant steps met all =
    let b : Beginning = record { tenant = tenant; steps = steps } in
    let one : All (GoesOnFrom tenant steps) (b ∷ []) = All-cons (GoesOnFrom tenant steps) b [] (λ same. ([], sym (append-nil steps))) (All-nil _) in
    All-append (GoesOnFrom tenant steps) met (b ∷ []) all one

-- ---- lines

-- no line, from a front to itself
pub no_lines : (openings : List Opening) (f : Front) → IsFront openings f → AreLines openings f [] f
no_lines openings f is = record {
  before_is = is;
  after_is = is;
  tenant = refl;
  more = [];
  goes_on = sym (append-nil f.steps);
  lined = All-nil _;
  text_is = refl;
}

-- lines, and lines of the steps after them
pub lines_then : (openings : List Opening) (f g h : Front) (text more : List ℕ) → AreLines openings f text g → AreLines openings g more h
    → AreLines openings f (text ++ more) h
lines_then openings f g h text more one other =
    let tenant = one.tenant in record {
      before_is = one.before_is;
      after_is = other.after_is;
      tenant = other.tenant ∙ tenant;
      more = one.more ++ other.more;
      goes_on = other.goes_on ∙ (ap (λ (xs : List Done). xs ++ other.more) one.goes_on ∙ append_assoc f.steps one.more other.more);
      lined = All-append (IsLined f.state.opening.tenant) one.more other.more one.lined
          (subst (λ (n : ℕ). All (IsLined n) other.more) tenant other.lined);
      text_is = ap (λ (xs : List ℕ). xs ++ more) one.text_is
          ∙ ap (λ (xs : List ℕ). lines_of f.state.opening.tenant one.more ++ xs)
          (other.text_is ∙ ap (λ (n : ℕ). lines_of n other.more) tenant)
          ∙ sym (lines_both f.state.opening.tenant one.more other.more);
    }

-- a book within its limits has a place for its next record
place_within : (s : State) → IsSound s → IsPlace (place_of s)
place_within s sound = record {
  tenant = let least = sound.tenant in omega arith;
  period = let least = sound.period in omega arith;
  number = within (length s.records) (open_holds s) s.opening.journal sound.room sound.journal;
}
  where
    within : (a b c : ℕ) → a + b ≤ c → c ≤ max_journal → a ≤ max_number
    within a b c h k = omega arith

place_in_period : (s : State) (now : ℕ) → IsPeriod (closed s now) → IsPlace (place_of s)
place_in_period s now period = record {
  tenant = let least = period.sound.tenant in omega arith;
  period = let least = period.sound.period in omega arith;
  number = within (length s.records) (length (s.records ++ roll_record now ∷ [])) (length-append s.records (roll_record now ∷ [])) period.few;
}
  where
    within : (a b : ℕ) → b ≡ a + 1 → b ≤ max_journal + 1 → a ≤ max_number
    within a b e h = omega arith

-- the records of a book that have no line, and their lines
pub record AreNew (place : LinePlace) (s u : State) (more : List Record) : Type 0 where
  pub records : unnoted place u ≡ more
  pub lines : lines_from (place_in place u.opening.period) (unnoted place u) ≡ lines_from (place_of s) more

new_records : (place : LinePlace) (s u : State) (more : List Record) → place_in place u.opening.period ≡ place_of s
    → u.records ≡ s.records ++ more → AreNew place s u more
new_records place s u more at longer =
    let new : unnoted place u ≡ more
    = ap (λ (p : LinePlace). drop p.number u.records) at ∙ ap (λ (rs : List Record). drop (length s.records) rs) longer
    ∙ drop-append_seam s.records more in
    record {
      records = new;
      lines = ap (λ (p : LinePlace). lines_from p (unnoted place u)) at ∙ ap (lines_from (place_of s)) new;
    }

same_place : (n : ℕ) (p : LinePlace) → p.period ≡ n → place_in p n ≡ p
same_place n p is = rw (eq-eqb p.period n is) refl

later_place : (n : ℕ) (p : LinePlace) → (p.period ≡ n → ⊥) → place_in p n ≡ record { tenant = p.tenant; period = n; number = 0 }
later_place n p other = rw (ne_eqb p.period n other) refl

-- ---- a book is noted

-- notes of a tenant, once its book was noted in the period in which it was noted last
pub noted_more : (openings : List Opening) (n : NotedState) (b : LockedBook) → AreSound openings n → IsFront openings (front_of b)
    → IsSound b.state → b.state.opening.tenant ≡ n.to.tenant → b.state.opening.period ≡ n.to.period
    → All (GoesOnFrom b.state.opening.tenant b.steps) n.met → All IsLoggable (unnoted n.notes.place b.state)
    → AreSound openings (record {
      notes = noted_by n.notes b.state;
      met = n.met ++ record { tenant = b.state.opening.tenant; steps = b.steps } ∷ [];
      from = n.from;
      to = place_of b.state;
    })
noted_more openings n b has led sound own running goes_on loggable =
    let h = has.noted in
    let last : Front = h.after in
    let tenant : b.state.opening.tenant ≡ last.state.opening.tenant = own ∙ ap (λ (p : LinePlace). p.tenant) h.to_is in
    let period : b.state.opening.period ≡ last.state.opening.period = running ∙ ap (λ (p : LinePlace). p.period) h.to_is in
    let on = from_met b.state.opening.tenant b.steps n.met last h.met_is (sym tenant) goes_on in
    let leads = goes_between openings last (front_of b) on.0 h.lines.after_is led tenant on.1 in
    let within = leaves_within on.0 last.state b.state period leads in
    let at : place_in n.notes.place b.state.opening.period ≡ place_of last.state
    = ap (place_in n.notes.place) running ∙ (has.next ∙ h.to_is) in
    let new = new_records n.notes.place last.state b.state (made on.0) at within.records in
    let lines : AreLines openings last (lines_from (place_in n.notes.place b.state.opening.period) (unnoted n.notes.place b.state)) (front_of b) = record {
      before_is = h.lines.after_is;
      after_is = led;
      tenant = tenant;
      more = on.0;
      goes_on = on.1;
      lined = lined_within on.0 last.state b.state period leads (place_within b.state sound)
          (subst (λ (rs : List Record). All IsLoggable rs) new.records loggable);
      text_is = new.lines ∙ within.lines;
    } in
    record {
      noted = record {
        before = h.before;
        after = front_of b;
        lines = lines_then openings h.before last (front_of b) n.notes.pending
            (lines_from (place_in n.notes.place b.state.opening.period) (unnoted n.notes.place b.state)) h.lines lines;
        from_is = h.from_is;
        to_is = refl;
        met_is = met_last n.met (front_of b);
      };
      next = same_place b.state.opening.period (place_of b.state) refl;
    }

-- equal notes
pub sound_as : (openings : List Opening) (notes notes_now : NotesState) (met met_now : List Beginning) (from to to_now : LinePlace)
    → notes_now ≡ notes → met_now ≡ met → to_now ≡ to → AreSound openings (record { notes = notes; met = met; from = from; to = to })
    → AreSound openings (record { notes = notes_now; met = met_now; from = from; to = to_now })
sound_as openings notes notes_now met met_now from to to_now same_notes same_met same_to has =
    let same : record { notes = notes; met = met; from = from; to = to } ≡ record { notes = notes_now; met = met_now; from = from; to = to_now }
    = λ i. record { notes = sym same_notes i; met = sym same_met i; from = from; to = sym same_to i } in
    subst (AreSound openings) same has

-- the notes of a tenant to whom nothing has happened
pub noted_first : (openings : List Opening) (o : Opening) (met : List Beginning) → IsLedTo openings (opened o) []
    → AreSound openings (record { notes = no_notes o; met = met; from = place_of (opened o); to = place_of (opened o) })
noted_first openings o met led = record {
  noted = record {
    before = first_front o;
    after = first_front o;
    lines = no_lines openings (first_front o) led;
    from_is = refl;
    to_is = refl;
    met_is = inl refl;
  };
  next = same_place o.period (place_of (opened o)) refl;
}

-- the notes, once their lines were taken
pub taken_sound : (openings : List Opening) (n : NotedState) → AreSound openings n
    → AreSound openings (record { notes = taken n.notes; met = n.met; from = n.to; to = n.to })
taken_sound openings n has = record {
  noted = record {
    before = has.noted.after;
    after = has.noted.after;
    lines = no_lines openings has.noted.after has.noted.lines.after_is;
    from_is = has.noted.to_is;
    to_is = has.noted.to_is;
    met_is = has.noted.met_is;
  };
  next = has.next;
}

-- the lines that waited were taken, once the book was noted
pub taken_now : (openings : List Opening) (n : NotedState) (b : LockedBook) (from : LinePlace) (before after : List ℕ) → AreSound openings n
    → EndWith openings n b → n.from ≡ from → after ≡ before ++ n.notes.pending → AreTaken openings from (front_of b) before after n.to
taken_now openings n b from before after has ends from_is after_is =
    let h = has.noted in
    let end : end_of h.after ≡ end_of (front_of b) = sym h.to_is ∙ ends.to_is in
    let on = from_met b.state.opening.tenant b.steps n.met h.after h.met_is (ap (λ (p : LinePlace). p.tenant) end) ends.goes_on in
    let same : h.after ≡ front_of b
    = same_front openings h.after (front_of b) on.0 [] h.lines.after_is ends.is end (sym on.1 ∙ sym (append-nil b.steps)) in
    record {
      first = h.before;
      own = n.notes.pending;
      from_is = sym from_is ∙ h.from_is;
      lines = subst (λ (f : Front). AreLines openings h.before n.notes.pending f) same h.lines;
      to_is = ends.to_is;
      after_is = after_is;
    }

-- ---- a closed period is noted

lines_then_one : (vs : List Done) (s u : State) (r : Record) → u.opening ≡ s.opening → u.records ≡ s.records ++ made vs
    → lines_from (place_of s) (made vs ++ r ∷ []) ≡ lines_from (place_of s) (made vs) ++ lines_from (place_of u) (r ∷ [])
lines_then_one vs s u r same longer =
    lines_from_both (made vs) (r ∷ []) (place_of s)
    ∙ ap (λ (p : LinePlace). lines_from (place_of s) (made vs) ++ lines_from p (r ∷ [])) there
  where
    on : LinePlace → ℕ → LinePlace
    on p n = record p { number = p.number + n }

    lines_from_both : (rs others : List Record) (p : LinePlace) → lines_from p (rs ++ others) ≡ lines_from p rs ++ lines_from (on p (length rs)) others
    lines_from_both [] others p = ap (λ (n : ℕ). lines_from (record p { number = n }) others) (zero_more p.number)
      where
        zero_more : (n : ℕ) → n ≡ n + 0
        zero_more n = omega arith
    lines_from_both (r ∷ rs) others p =
        ap (λ (l : List ℕ). log_line p r ++ l) (lines_from_both rs others (next_line p))
        ∙ sym (append_assoc (log_line p r) (lines_from (next_line p) rs) (lines_from (on (next_line p) (length rs)) others))
        ∙ ap (λ (n : ℕ). (log_line p r ++ lines_from (next_line p) rs) ++ lines_from (record p { number = n }) others) (one_more p.number (length rs))
      where
        one_more : (n k : ℕ) → (n + 1) + k ≡ n + suc k
        one_more n k = omega arith

    there : on (place_of s) (length (made vs)) ≡ place_of u
    there =
        let number : length s.records + length (made vs) ≡ length u.records = sym (ap length longer ∙ length-append s.records (made vs)) in
        λ i. record { tenant = (sym same i).tenant; period = (sym same i).period; number = number i }

all_parts : (P : Record → Type 0) (rs : List Record) (r : Record) → All P (rs ++ r ∷ []) → All P rs × P r
all_parts P [] r all = (All-nil P, All-head P r [] all)
all_parts P (x ∷ xs) r all =
    let rest = all_parts P xs r (All-tail P x (xs ++ r ∷ []) all) in
    (All-cons P x xs (All-head P x (xs ++ r ∷ []) all) rest.0, rest.1)

-- lines of the steps of a period from a front on, with the roll that closed it
closing_lines : (openings : List Opening) (last : Front) (s : State) (steps vs : List Done) (b : LockedBook) (place : LinePlace) (worker now : ℕ)
    → IsFront openings last → IsLedTo openings s steps → IsFront openings (front_of b)
    → s.opening.tenant ≡ last.state.opening.tenant → s.opening.period ≡ last.state.opening.period
    → b.state.opening.tenant ≡ last.state.opening.tenant → steps ≡ last.steps ++ vs
    → b.steps ≡ steps ++ done worker (next_place s) (roll_record now) ∷ []
    → place_in place s.opening.period ≡ place_of last.state → IsPeriod (closed s now)
    → All IsLoggable (unnoted place (closed_state (closed s now)))
    → AreLines openings last (lines_from (place_in place s.opening.period) (unnoted place (closed_state (closed s now)))) (front_of b)
closing_lines openings last s steps vs b place worker now is led after own running own_after on rolled at period loggable =
    let e : Done = done worker (next_place s) (roll_record now) in
    let leads = goes_between openings last (record { steps = steps; state = s }) vs is led own on in
    let within = leaves_within vs last.state s running leads in
    let new = new_records place last.state (closed_state (closed s now)) (made vs ++ roll_record now ∷ []) at
    (ap (λ (rs : List Record). rs ++ roll_record now ∷ []) within.records ∙ append_assoc last.state.records (made vs) (roll_record now ∷ [])) in
    let fits = all_parts IsLoggable (made vs) (roll_record now) (subst (λ (rs : List Record). All IsLoggable rs) new.records loggable) in
    let here : IsPlace (place_of s) = place_in_period s now period in
    let at_roll : place_of s ≡ line_place last.state.opening.tenant e
    = λ i. record { tenant = own i; period = s.opening.period; number = length s.records } in
    let roll : IsLined last.state.opening.tenant e = record { place = subst IsPlace at_roll here; loggable = fits.1 } in
    record {
      before_is = is;
      after_is = after;
      tenant = own_after;
      more = vs ++ e ∷ [];
      goes_on = rolled ∙ (ap (λ (xs : List Done). xs ++ e ∷ []) on ∙ append_assoc last.steps vs (e ∷ []));
      lined = All-append (IsLined last.state.opening.tenant) vs (e ∷ [])
          (lined_within vs last.state s running leads here fits.0) (All-cons (IsLined last.state.opening.tenant) e [] roll (All-nil _));
      text_is = new.lines ∙ lines_then_one vs last.state s (roll_record now) within.opening within.records
          ∙ ap (λ (l : List ℕ). l ++ lines_from (place_of s) (roll_record now ∷ [])) within.lines
          ∙ ap (λ (p : LinePlace). lines_of last.state.opening.tenant vs ++ lines_from p (roll_record now ∷ [])) at_roll
          ∙ sym (lines_both last.state.opening.tenant vs (e ∷ []));
    }

-- notes of a tenant, once a roll has closed the period in which its book was noted last
pub noted_closed : (openings : List Opening) (n : NotedState) (b : LockedBook) (p : PeriodParts) → AreSound openings n → IsFront openings (front_of b)
    → HasClosed openings b p → IsPeriod p → p.opening.tenant ≡ n.to.tenant → p.opening.period ≡ n.to.period
    → All (GoesOnFrom b.state.opening.tenant b.steps) n.met → All IsLoggable (unnoted n.notes.place (closed_state p))
    → AreSound openings (record {
      notes = noted_by n.notes (closed_state p);
      met = n.met ++ record { tenant = b.state.opening.tenant; steps = b.steps } ∷ [];
      from = n.from;
      to = place_of b.state;
    })
noted_closed openings n b p has led rolled is own running goes_on loggable =
    by (last_of_both last.steps on.0 rolled.steps e (sym on.1 ∙ rolled.rolled))
  where
    h : HasNoted openings n.from n.notes.pending n.to n.met
    h = has.noted

    last : Front
    last = h.after

    s : State
    s = rolled.before

    e : Done
    e = done rolled.worker (next_place s) (roll_record rolled.now)

    opening : p.opening ≡ s.opening
    opening = ap (λ (q : PeriodParts). q.opening) rolled.closed

    after_opening : b.state.opening ≡ next_opening s (max (clock_of s) rolled.now)
    after_opening = ap (λ (x : State). x.opening) rolled.left

    own_before : s.opening.tenant ≡ last.state.opening.tenant
    own_before = ap (λ (o : Opening). o.tenant) (sym opening) ∙ (own ∙ ap (λ (q : LinePlace). q.tenant) h.to_is)

    own_after : b.state.opening.tenant ≡ last.state.opening.tenant
    own_after = ap (λ (o : Opening). o.tenant) after_opening ∙ own_before

    period : s.opening.period ≡ last.state.opening.period
    period = ap (λ (o : Opening). o.period) (sym opening) ∙ (running ∙ ap (λ (q : LinePlace). q.period) h.to_is)

    next_period : b.state.opening.period ≡ s.opening.period + 1
    next_period = ap (λ (o : Opening). o.period) after_opening

    on : (rest : List Done) × (b.steps ≡ last.steps ++ rest)
    on = from_met b.state.opening.tenant b.steps n.met last h.met_is (sym own_after) goes_on

    goes : LeadTo last.state on.0 b.state
    goes = goes_between openings last (front_of b) on.0 h.lines.after_is led own_after on.1

    none : on.0 ≡ [] → ⊥
    none empty =
        let same : last.state ≡ b.state = subst (λ (xs : List Done). LeadTo last.state xs b.state) empty goes in
        let periods : last.state.opening.period ≡ b.state.opening.period = ap (λ (x : State). x.opening.period) same in
        omega (arith, periods, period, next_period)

    at : place_in n.notes.place s.opening.period ≡ place_of last.state
    at = ap (place_in n.notes.place) (ap (λ (o : Opening). o.period) (sym opening) ∙ running) ∙ (has.next ∙ h.to_is)

    text : PeriodParts → List ℕ
    text q = lines_from (place_in n.notes.place q.opening.period) (unnoted n.notes.place (closed_state q))

    later : place_in (place_of (closed_state p)) b.state.opening.period ≡ place_of b.state
    later =
        later_place b.state.opening.period (place_of (closed_state p))
        (λ same. omega (arith, same, ap (λ (o : Opening). o.period) opening, next_period))
        ∙ (λ i. record {
          tenant = (ap (λ (o : Opening). o.tenant) opening ∙ sym (ap (λ (o : Opening). o.tenant) after_opening)) i;
          period = b.state.opening.period;
          number = length ((ap (λ (x : State). x.records) (sym rolled.left)) i);
        })

    by : (on.0 ≡ []) ⊎ ((vs : List Done) × (on.0 ≡ vs ++ e ∷ []) × (last.steps ++ vs ≡ rolled.steps)) → AreSound openings (record {
      notes = noted_by n.notes (closed_state p);
      met = n.met ++ record { tenant = b.state.opening.tenant; steps = b.steps } ∷ [];
      from = n.from;
      to = place_of b.state;
    })
    by (inl empty) = absurd (none empty)
    by (inr (vs, ends, before)) =
        let lines : AreLines openings last (text p) (front_of b)
        = subst (λ (q : PeriodParts). AreLines openings last (text q) (front_of b)) (sym rolled.closed)
        (closing_lines openings last s rolled.steps vs b n.notes.place rolled.worker rolled.now h.lines.after_is rolled.led led own_before period
        own_after (sym before) rolled.rolled at (subst IsPeriod rolled.closed is)
        (subst (λ (q : PeriodParts). All IsLoggable (unnoted n.notes.place (closed_state q))) rolled.closed loggable)) in
        record {
          noted = record {
            before = h.before;
            after = front_of b;
            lines = lines_then openings h.before last (front_of b) n.notes.pending (text p) h.lines lines;
            from_is = h.from_is;
            to_is = refl;
            met_is = met_last n.met (front_of b);
          };
          next = later;
        }

-- ---- lines are taken

-- the lines that wait were taken, by a caller who knows a front with that end
pub taken_from : (openings : List Opening) (f : Front) (b : LockedBook) (met : List Beginning) (from to : LinePlace) (before after : List ℕ)
    → AreTaken openings from (front_of b) before after to → IsFront openings f → IsMet met f → from ≡ end_of f
    → All (GoesOnFrom b.state.opening.tenant b.steps) met
    → AreAppended openings f before after to (met ++ record { tenant = b.state.opening.tenant; steps = b.steps } ∷ [])
taken_from openings f b met from to before after taken is met_is from_is goes_on =
    let end : end_of f ≡ end_of taken.first = sym from_is ∙ taken.from_is in
    let tenant : f.state.opening.tenant ≡ b.state.opening.tenant
    = ap (λ (p : LinePlace). p.tenant) end ∙ sym taken.lines.tenant in
    let on = from_met b.state.opening.tenant b.steps met f met_is tenant goes_on in
    let same : taken.first ≡ f
    = sym (same_front openings f taken.first on.0 taken.lines.more is taken.lines.before_is end (sym on.1 ∙ taken.lines.goes_on)) in
    record {
      last = front_of b;
      own = taken.own;
      lines = subst (λ (x : Front). AreLines openings x taken.own (front_of b)) same taken.lines;
      to_is = taken.to_is;
      met_is = met_last met (front_of b);
      after_is = taken.after_is;
    }

-- what holds of what was taken holds of what follows from it
pub if_taken : {V E : Type 0} (told : Result V E) (P Q : V → Type 0) → ((v : V) → P v → Q v) → IfOk told P → IfOk told Q
if_taken (Ok v) P Q more is = more v is
if_taken (Err e) P Q more is = tt

-- ---- at first

-- the front of a tenant to whom nothing has happened
pub first_led : (openings : List Opening) (i : ℕ) (o : Opening) → AreNumbered openings → slice_get openings i ≡ Some o → IsLedTo openings (opened o) []
first_led openings i o numbers at = record {
  first = o;
  opens = ap (slice_get openings) (numbers i o at) ∙ at;
  history = refl;
  causes = tt;
}

pub first_are : (openings : List Opening) → AreNumbered openings → All (IsFront openings) (first_fronts openings)
first_are openings numbers =
    All-map (IsFront openings) (λ (o : Opening). first_front o) openings
    (λ k d within. first_led openings k (get_or openings k d) numbers (slice_get-get_or openings k d within))

pub first_met : (openings : List Opening) (met : List Beginning) → All (IsMet met) (first_fronts openings)
first_met openings met =
    All-map (IsMet met) (λ (o : Opening). first_front o) openings (λ k d within. inl refl)
