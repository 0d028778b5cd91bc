-- The lines of records that lead on.
use Rattle.std.proofs.Common.{◌≡◌, ◌<◌, ◌≤◌, ◌+◌, ℕ, zero, suc, false, List, [], ◌∷◌, ◌++◌, length, append_assoc, append-nil, refl, sym, ap, subst, ◌∙◌, arith}
use Rattle.std.specs.Fmt.{decimal}
use Rattle.std.specs.List.{AllByRecursion, slice_get}
use Rattle.std.specs.Prelude.{Some, slice_set}
use Rattle.std.proofs.lemmas.List.{get_or-set_same, length-append, length-set, set-get_or}
use Rattle.std.proofs.lemmas.Option.{get_or_from_slice_get, slice_get-get_or, slice_get_within}
use Rattle.book_journal.specs.Written.{lines_from, next_place}
use Rattle.book_log.specs.Lines.{entry_secrets, log_line, place_of}
use Rattle.book_log.specs.declared.line.LinePlace.{LinePlace}
use Rattle.book_recovery.specs.Recovery.{after_entry, after_record}
use Rattle.line_log.specs.Log.{lines}
use Rattle.statements.specs.Statement.{entry_words, number, outcome_words, record_line, spaced}
use Rattle.book_log.specs.Written.{IsPlace}
use Rattle.statements.specs.Reading.{max_number}
use Rattle.tenant_core.specs.Replay.{outcome_of}
use Rattle.tenant_core.specs.declared.opening.Opening.{Opening}
use Rattle.tenant_core.specs.State.{State, entered_at, recorded}
use Rattle.tenant_core.specs.declared.journal.Entry.{Entry}
use Rattle.tenant_core.specs.declared.journal.Entry.TheVariants.{Decide, Answer, Tick, Change, Roll}
use Rattle.tenant_core.specs.declared.journal.Record.{Record}
use Rattle.journal_law.specs.Growth.{is_roll}
use Rattle.journal_law.specs.Kept.{AreLed, IsLed}
use Rattle.journal_law.proofs.Leading.{LeadWithin, state_led}

-- ---- lists

pub set_again : {X : Type 0} (xs : List X) (i : ℕ) (a b : X) → slice_set (slice_set xs i a) i b ≡ slice_set xs i b
set_again [] i a b = refl
set_again (x ∷ xs) zero a b = refl
set_again (x ∷ xs) (suc i) a b = ap (λ (ys : List _). x ∷ ys) (set_again xs i a b)

pub set_own : {X : Type 0} (xs : List X) (i : ℕ) (x : X) → slice_get xs i ≡ Some x → slice_set xs i x ≡ xs
set_own xs i x own = ap (slice_set xs i) (sym (get_or_from_slice_get xs i x x own)) ∙ set-get_or xs i x

pub get_set : {X : Type 0} (xs : List X) (i : ℕ) (a b : X) → slice_get xs i ≡ Some a → slice_get (slice_set xs i b) i ≡ Some b
get_set xs i a b own =
    let within : i < length xs = slice_get_within xs i a own in
    slice_get-get_or (slice_set xs i b) i b (subst (λ n. i < n) (sym (length-set xs i b)) within)
    ∙ ap (λ x. Some x) (get_or-set_same xs i b b within)

pub lines-append : (xs ys : List (List ℕ)) → lines (xs ++ ys) ≡ lines xs ++ lines ys
lines-append [] ys = refl
lines-append (x ∷ xs) ys =
    ap (λ (l : List ℕ). x ++ 10 ∷ l) (lines-append xs ys) ∙ sym (append_assoc x (10 ∷ lines xs) (lines ys))

pub led_both : (P : Record → Type 0) (xs ys : List (List ℕ)) (before between after : List State) → AreLed P xs before between → AreLed P ys between after
    → AreLed P (xs ++ ys) before after
led_both P [] ys before between after same led = subst (λ (bs : List State). AreLed P ys bs after) (sym same) led
led_both P (x ∷ xs) ys before between after first led = (first.0, first.1, led_both P xs ys first.0 between after first.2 led)

-- ---- a line

ended : (a b c d e f last : List ℕ) → (a ++ b ++ c ++ d ++ 32 ∷ (e ++ f)) ++ last ≡ a ++ b ++ c ++ d ++ 32 ∷ (e ++ f ++ last)
ended a b c d e f last = simp append_assoc

pub line_there : (p : LinePlace) (r : Record) → (line : List ℕ) × (line ++ 10 ∷ [] ≡ log_line p r)
unfolding log_line record_line
line_there p r = (
  decimal p.tenant ++ number p.period ++ number p.number ++ spaced (entry_secrets r.entry)
      ++ 32 ∷ (decimal (entered_at r.entry) ++ spaced (entry_words r.entry ++ outcome_words r.outcome)),
  ended (decimal p.tenant) (number p.period) (number p.number) (spaced (entry_secrets r.entry)) (decimal (entered_at r.entry))
      (spaced (entry_words r.entry ++ outcome_words r.outcome)) (10 ∷ []),
)

pub goes_on : (e : Entry) (s : State) (r : Record) → is_roll e ≡ false → after_entry e s r ≡ recorded s (Some r)
goes_on (Decide d) s r h = refl
goes_on (Answer a) s r h = refl
goes_on (Tick t) s r h = refl
goes_on (Change c) s r h = refl
goes_on (Roll x) s r h = absurd (cc h)

pub next_is : (s : State) (r : Record) → next_place (place_of s) ≡ place_of (recorded s (Some r))
next_is s r =
    let longer : length s.records + 1 ≡ length (s.records ++ r ∷ []) = sym (length-append s.records (r ∷ [])) in
    λ i. record { tenant = s.opening.tenant; period = s.opening.period; number = longer i }

-- ---- lines

-- the text is lines, which lead the tenant of that number to that state
pub record AddLines (P : Record → Type 0) (books : List State) (t : ℕ) (text : List ℕ) (state : State) : Type 0 where
  pub each : List (List ℕ)
  pub is : text ≡ lines each
  pub led : AreLed P each books (slice_set books t state)

-- the places before one that a line can have are such
place_before : (more : List Record) (s u : State) → LeadWithin s more u → IsPlace (place_of u) → IsPlace (place_of s)
place_before more s u leads at =
    let there = state_led more s u leads in
    record {
      tenant = subst (λ n. n ≤ 65_535) (ap (λ (o : Opening). o.tenant) there.0) at.tenant;
      period = subst (λ n. n ≤ max_number) (ap (λ (o : Opening). o.period) there.0) at.period;
      number = le_of (length s.records) (length more) (length u.records) max_number
          (ap length there.1 ∙ length-append s.records more) at.number;
    }
  where
    le_of : (a b c d : ℕ) → c ≡ a + b → c ≤ d → a ≤ d
    le_of a b c d e h = omega arith

pub grown_lines : (P : Record → Type 0) (more : List Record) (books : List State) (t : ℕ) (s u : State) → slice_get books t ≡ Some s → s.opening.tenant ≡ t
    → AllByRecursion (λ r. is_roll r.entry ≡ false) more → LeadWithin s more u
    → IsPlace (place_of u) → AllByRecursion P more → AddLines P books t (lines_from (place_of s) more) u
grown_lines P [] books t s u own number running leads at fits =
    record { each = []; is = refl; led = sym (set_own books t s own) ∙ ap (slice_set books t) leads }
grown_lines P (r ∷ rs) books t s u own number running leads at fits =
    let later : State = recorded s (Some r) in
    let between : List State = slice_set books t later in
    let line = line_there (place_of s) r in
    let rest = grown_lines P rs between t later u (get_set books t s later own) number running.1 leads.1 at fits.1 in
    let one : IsLed P line.0 books between = record {
      tenant = t;
      state = s;
      its_own = own;
      number = number;
      place = place_before (r ∷ rs) s u leads at;
      next = r;
      fits = fits.0;
      leads = leads.0;
      is_line = line.1;
      left = ap (slice_set books t) (sym (goes_on r.entry s r running.0));
    } in
    record {
      each = line.0 ∷ rest.each;
      is = ap (λ (p : LinePlace). log_line (place_of s) r ++ lines_from p rs) (next_is s r)
          ∙ ap (λ (l : List ℕ). log_line (place_of s) r ++ l) rest.is
          ∙ ap (λ (l : List ℕ). l ++ lines rest.each) (sym line.1)
          ∙ append_assoc line.0 (10 ∷ []) (lines rest.each);
      led = (between, one, subst (AreLed P rest.each between) (set_again books t later u) rest.led);
    }

lines_and_one : (more : List Record) (s u : State) (last : Record) → LeadWithin s more u
    → lines_from (place_of s) (more ++ last ∷ []) ≡ lines_from (place_of s) more ++ log_line (place_of u) last
lines_and_one [] s u last same =
    append-nil (log_line (place_of s) last) ∙ ap (λ (x : State). log_line (place_of x) last) same
lines_and_one (r ∷ rs) s u last leads =
    let next = next_is s r in
    ap (λ (p : LinePlace). log_line (place_of s) r ++ lines_from p (rs ++ last ∷ [])) next
    ∙ ap (λ (l : List ℕ). log_line (place_of s) r ++ l) (lines_and_one rs (recorded s (Some r)) u last leads.1)
    ∙ sym (append_assoc (log_line (place_of s) r) (lines_from (place_of (recorded s (Some r))) rs) (log_line (place_of u) last))
    ∙ ap (λ (p : LinePlace). (log_line (place_of s) r ++ lines_from p rs) ++ log_line (place_of u) last) (sym next)

-- the last record may be a roll's
pub rolled_lines : (P : Record → Type 0) (more : List Record) (books : List State) (t : ℕ) (s u : State) (last : Record) → slice_get books t ≡ Some s
    → s.opening.tenant ≡ t → AllByRecursion (λ r. is_roll r.entry ≡ false) more → LeadWithin s more u
    → outcome_of u last.entry ≡ Some last.outcome → IsPlace (place_of u) → AllByRecursion P more → P last
    → AddLines P books t (lines_from (place_of s) (more ++ last ∷ [])) (after_record u last)
rolled_lines P more books t s u last own number running leads made at fits last_fits =
    let first = grown_lines P more books t s u own number running leads at fits in
    let between : List State = slice_set books t u in
    let there = state_led more s u leads in
    let line = line_there (place_of u) last in
    let end : State = after_record u last in
    let one : IsLed P line.0 between (slice_set books t end) = record {
      tenant = t;
      state = u;
      its_own = get_set books t s u own;
      number = ap (λ o. o.tenant) there.0 ∙ number;
      place = at;
      next = last;
      fits = last_fits;
      leads = made;
      is_line = line.1;
      left = sym (set_again books t u end);
    } in
    record {
      each = first.each ++ line.0 ∷ [];
      is = lines_and_one more s u last leads
          ∙ ap (λ (l : List ℕ). l ++ log_line (place_of u) last) first.is
          ∙ ap (λ (l : List ℕ). lines first.each ++ l) (sym line.1)
          ∙ sym (lines-append first.each (line.0 ∷ []));
      led = led_both P first.each (line.0 ∷ []) books between (slice_set books t end) first.led (slice_set books t end, one, refl);
    }
