-- A journal whose lines lead to states that the books have grown from.
use Rattle.std.proofs.Common.{◌≡◌, ◌≢◌, ◌≤◌, ◌+◌, ℕ, zero, suc, List, [], ◌∷◌, ◌++◌, length, map, drop, append_assoc, append-nil, refl, sym, ap, subst, ◌∙◌, inl, inr, arith}
use Rattle.std.specs.List.{AllByRecursion, slice_get}
use Rattle.std.specs.Prelude.{All, Some, max, slice_set}
use Rattle.std.proofs.Math.Seq.{drop-append_seam}
use Rattle.std.proofs.lemmas.Bool.{eq-eqb, ne_eqb}
use Rattle.std.proofs.lemmas.Bool.Decides.{eqb_tells}
use Rattle.std.proofs.lemmas.List.{length-append, length-set, map-append}
use Rattle.std.proofs.lemmas.List.Elements.{recursion_from_All}
use Rattle.std.proofs.lemmas.Option.{get_or_from_slice_get, same_Some}
use Rattle.book_journal.specs.Written.{IsCommitted, Written, closed_state, commit_text, lines_from, lines_of_new, new_records, noted, place_for, place_in}
use Rattle.book_log.specs.Lines.{place_of}
use Rattle.book_log.specs.Sums.{sum_line, summed}
use Rattle.book_log.specs.Written.{IsPlace}
use Rattle.statements.specs.Reading.{max_number}
use Rattle.book_log.specs.declared.line.LinePlace.{LinePlace}
use Rattle.line_log.specs.Log.{IsLines, all_of, lines, recovered}
use Rattle.sha2.specs.Sha256.{sha256}
use Rattle.tenant_core.specs.Periods.{closed, next_opening, roll_record}
use Rattle.tenant_core.specs.Closing.{IsPeriod}
use Rattle.tenant_core.specs.Holds.{open_holds}
use Rattle.tenant_core.specs.Limits.{max_journal}
use Rattle.tenant_core.specs.Replay.{outcome_of}
use Rattle.tenant_core.specs.Sound.{IsSound}
use Rattle.tenant_core.specs.State.{State, clock_of, opened}
use Rattle.tenant_core.specs.declared.opening.Opening.{Opening}
use Rattle.tenant_core.specs.declared.journal.Record.{Record}
use Rattle.journal_law.specs.Growth.{HasGrown}
use Rattle.journal_law.specs.Kept.{AreLed}
use Rattle.journal_law.proofs.Leading.{LeadWithin, led_in_two, led_on, same_state, state_led}
use Rattle.journal_law.proofs.NewLines.{AddLines, grown_lines, led_both, lines-append, rolled_lines, get_set}
use Rattle.journal_law.proofs.Sums.{all_more, last_sum, last_sum_more, no_lines, summed_more, writes}

-- the book of that number has grown from a state
pub record IsFrom (t : ℕ) (s book : State) : Type 0 where
  pub number : s.opening.tenant ≡ t
  pub more : List Record
  pub grown : HasGrown s more book

-- the place of the next record of a state is kept
pub record IsPlaced (places : List LinePlace) (t : ℕ) (s : State) : Type 0 where
  pub place : LinePlace
  pub kept : slice_get places t ≡ Some place
  pub is : place_in place s.opening.period ≡ place_of s

pub record Along {D : Type 0} (P : Record → Type 0) (seen : D → List ℕ) (sum : List ℕ) (begun : List State) (books : ℕ → State) (j : Written D) (noted_last : List State)
    : Type 0 where
  pub many : length noted_last ≡ length begun
  pub from : (t : ℕ) (s : State) → slice_get noted_last t ≡ Some s → IsFrom t s (books t)
  pub as_many : length j.places ≡ length begun
  pub placed : (t : ℕ) (s : State) → slice_get noted_last t ≡ Some s → IsPlaced j.places t s
  pub commits : List (List (List ℕ))
  pub waiting : List (List ℕ)
  pub log : lines (recovered (seen j.log.file)) ≡ summed sum (map lines commits)
  pub sum_is : j.sum ≡ last_sum sum (map lines commits)
  pub pending : j.pending ≡ lines waiting
  pub led : AreLed P (all_of commits ++ waiting) begun noted_last

-- ---- lists

pub get_other : {X : Type 0} (xs : List X) (i k : ℕ) (a : X) → k ≢ i → slice_get (slice_set xs i a) k ≡ slice_get xs k
get_other [] i k a other = refl
get_other (x ∷ xs) zero zero a other = absurd (other refl)
get_other (x ∷ xs) zero (suc k) a other = refl
get_other (x ∷ xs) (suc i) zero a other = refl
get_other (x ∷ xs) (suc i) (suc k) a other = get_other xs i k a (λ e. other (ap suc e))

pub same_place : (n : ℕ) (p : LinePlace) → p.period ≡ n → place_in p n ≡ p
same_place n p is = rw (eq-eqb p.period n is) refl

-- ---- what is noted

-- where the first record without a line is, of a book that has grown from a state
place_is : (places : List LinePlace) (t : ℕ) (s u : State) → IsPlaced places t s → s.opening.tenant ≡ t → u.opening ≡ s.opening
    → place_for places u ≡ place_of s
place_is places t s u at number same =
    let tenant : u.opening.tenant ≡ t = ap (λ (o : Opening). o.tenant) same ∙ number in
    let kept : slice_get places u.opening.tenant ≡ Some at.place = ap (slice_get places) tenant ∙ at.kept in
    ap (λ (p : LinePlace). place_in p u.opening.period) (get_or_from_slice_get places u.opening.tenant at.place (place_of u) kept)
    ∙ ap (λ (o : Opening). place_in at.place o.period) same ∙ at.is

-- its records without a line are those that it got since
more_are_new : (places : List LinePlace) (t : ℕ) (s u : State) (more : List Record) → IsPlaced places t s → s.opening.tenant ≡ t
    → u.opening ≡ s.opening → u.records ≡ s.records ++ more → new_records places u ≡ more
more_are_new places t s u more at number same longer =
    ap (λ (p : LinePlace). drop p.number u.records) (place_is places t s u at number same)
    ∙ ap (λ (rs : List Record). drop (length s.records) rs) longer ∙ drop-append_seam s.records more

new_lines : (places : List LinePlace) (t : ℕ) (s u : State) (more : List Record) → IsPlaced places t s → s.opening.tenant ≡ t
    → u.opening ≡ s.opening → u.records ≡ s.records ++ more → lines_of_new places u ≡ lines_from (place_of s) more
new_lines places t s u more at number same longer =
    ap (λ (p : LinePlace). lines_from p (new_records places u)) (place_is places t s u at number same)
    ∙ ap (lines_from (place_of s)) (more_are_new places t s u more at number same longer)

-- the book of that number is such, and the others are the same
abbrev pub SameButFor : ℕ → (ℕ → State) → (ℕ → State) → Type 0
SameButFor t books after = (k : ℕ) → k ≢ t → after k ≡ books k

note : {D : Type 0} (P : Record → Type 0) (seen : D → List ℕ) (sum : List ℕ) (begun : List State) (books after : ℕ → State) (j : Written D) (last : List State)
    (t : ℕ) (s u next : State) → Along P seen sum begun books j last → slice_get last t ≡ Some s
    → AddLines P last t (lines_of_new j.places u) next → u.opening.tenant ≡ t → next.opening.tenant ≡ t
    → place_in (place_of u) next.opening.period ≡ place_of next → next ≡ after t → SameButFor t books after
    → Along P seen sum begun after (noted j u) (slice_set last t next)
note P seen sum begun books after j last t s u next far own added tenant number place is others = record {
  many = length-set last t next ∙ far.many;
  from = λ k x got. elim (eqb_tells k t) [
    | inl same ↦ at_it k x same.1 got
    | inr other ↦
        subst (λ (b : State). IsFrom k x b) (sym (others k other.1))
        (far.from k x (sym (get_other last t k next other.1) ∙ got))
  ];
  as_many = length-set j.places u.opening.tenant (place_of u) ∙ far.as_many;
  placed = λ k x got. elim (eqb_tells k t) [
    | inl same ↦ placed_at_it k x same.1 got
    | inr other ↦
        let before = far.placed k x (sym (get_other last t k next other.1) ∙ got) in
        record {
          place = before.place;
          kept = get_other j.places u.opening.tenant k (place_of u) (λ e. other.1 (e ∙ tenant)) ∙ before.kept;
          is = before.is;
        }
  ];
  commits = far.commits;
  waiting = far.waiting ++ added.each;
  log = far.log;
  sum_is = far.sum_is;
  pending = ap (λ (l : List ℕ). l ++ lines_of_new j.places u) far.pending ∙ ap (λ (l : List ℕ). lines far.waiting ++ l) added.is
      ∙ sym (lines-append far.waiting added.each);
  led = subst (λ (ls : List (List ℕ)). AreLed P ls begun (slice_set last t next)) (append_assoc (all_of far.commits) far.waiting added.each)
      (led_both P (all_of far.commits ++ far.waiting) added.each begun last (slice_set last t next) far.led added.led);
}
  where
    is_next : (k : ℕ) (x : State) → k ≡ t → slice_get (slice_set last t next) k ≡ Some x → next ≡ x
    is_next k x same got = same_Some next x (sym (get_set last t s next own) ∙ ap (slice_get (slice_set last t next)) (sym same) ∙ got)

    at_it : (k : ℕ) (x : State) → k ≡ t → slice_get (slice_set last t next) k ≡ Some x → IsFrom k x (after k)
    at_it k x same got =
        let here : next ≡ x = is_next k x same got in
        let book : x ≡ after k = sym here ∙ is ∙ ap after (sym same) in
        subst (λ (b : State). IsFrom k x b) book
        (record {
          number = ap (λ (y : State). y.opening.tenant) (sym here) ∙ number ∙ sym same;
          more = [];
          grown = record { opening = refl; records = sym (append-nil x.records); running = tt };
        })

    placed_at_it : (k : ℕ) (x : State) → k ≡ t → slice_get (slice_set last t next) k ≡ Some x
        → IsPlaced (slice_set j.places u.opening.tenant (place_of u)) k x
    placed_at_it k x same got =
        let here : next ≡ x = is_next k x same got in
        let before = far.placed t s own in
        record {
          place = place_of u;
          kept = ap (slice_get (slice_set j.places u.opening.tenant (place_of u))) (same ∙ sym tenant)
              ∙ get_set j.places u.opening.tenant before.place (place_of u) (ap (slice_get j.places) tenant ∙ before.kept);
          is = subst (λ (y : State). place_in (place_of u) y.opening.period ≡ place_of y) here place;
        }

pub all_in_two : {X : Type 0} (P : X → Type 0) (xs ys : List X) → AllByRecursion P (xs ++ ys) → AllByRecursion P xs × AllByRecursion P ys
all_in_two P [] ys all = (tt, all)
all_in_two P (x ∷ xs) ys all = let rest = all_in_two P xs ys all.1 in ((all.0, rest.0), rest.1)

fits_more : (P : Record → Type 0) (all more : List Record) → all ≡ more → All P all → AllByRecursion P more
fits_more P all more is fit = recursion_from_All P more (subst (λ (rs : List Record). All P rs) is fit)

-- a book within its limits has a place for its next record
place_within : (s : State) → IsSound s → IsPlace (place_of s)
place_within s sound = record {
  tenant = let least = sound.tenant in omega arith;
  period = let least = sound.period in omega arith;
  number = within (length s.records) (open_holds s) s.opening.journal sound.room sound.journal;
}
  where
    within : (a b c : ℕ) → a + b ≤ c → c ≤ max_journal → a ≤ max_number
    within a b c h k = omega arith

place_in_period : (s : State) (now : ℕ) → IsPeriod (closed s now) → IsPlace (place_of s)
place_in_period s now period = record {
  tenant = let least = period.sound.tenant in omega arith;
  period = let least = period.sound.period in omega arith;
  number = within (length s.records) (length (s.records ++ roll_record now ∷ [])) (length-append s.records (roll_record now ∷ [])) period.few;
}
  where
    within : (a b : ℕ) → b ≡ a + 1 → b ≤ max_journal + 1 → a ≤ max_number
    within a b e h = omega arith

-- the book of a tenant is noted
pub note_book : {D : Type 0} (P : Record → Type 0) (seen : D → List ℕ) (sum : List ℕ) (begun : List State) (books : ℕ → State) (j : Written D) (last : List State)
    (t : ℕ) (s u : State) → Along P seen sum begun books j last → slice_get last t ≡ Some s → books t ≡ u → IsSound u
    → All P (new_records j.places u)
    → Along P seen sum begun books (noted j u) (slice_set last t u)
note_book P seen sum begun books j last t s u far own is sound fit =
    let was = far.from t s own in
    let grown : HasGrown s was.more u = subst (λ (b : State). HasGrown s was.more b) is was.grown in
    let leads : LeadWithin s was.more u = led_on s u was.more sound.replay grown.opening grown.records in
    let number : u.opening.tenant ≡ t = ap (λ (o : Opening). o.tenant) grown.opening ∙ was.number in
    let lines_are = new_lines j.places t s u was.more (far.placed t s own) was.number grown.opening grown.records in
    let fits : AllByRecursion P was.more =
    fits_more P (new_records j.places u) was.more (more_are_new j.places t s u was.more (far.placed t s own) was.number grown.opening grown.records) fit in
    let added : AddLines P last t (lines_of_new j.places u) u =
    subst (λ (l : List ℕ). AddLines P last t l u) (sym lines_are) (grown_lines P was.more last t s u own was.number grown.running leads (place_within u sound) fits) in
    note P seen sum begun books books j last t s u u far own added number number (same_place u.opening.period (place_of u) refl) (sym is) (λ k other. refl)

-- the next period is not that period
next_place_is : (s : State) (rs : List Record) (clock : ℕ)
    → (let u : State = record { opening = s.opening; records = rs } in place_in (place_of u) (s.opening.period + 1))
    ≡ place_of (opened (next_opening s clock))
next_place_is s rs clock =
    let other : s.opening.period ≢ s.opening.period + 1 = λ e. omega arith in
    rw (ne_eqb s.opening.period (s.opening.period + 1) other) refl

-- a period that a roll closed is noted
pub note_closed : {D : Type 0} (P : Record → Type 0) (seen : D → List ℕ) (sum : List ℕ) (begun : List State) (books after : ℕ → State) (j : Written D) (last : List State)
    (t now : ℕ) (s : State) → Along P seen sum begun books j last → slice_get last t ≡ Some s → IsPeriod (closed (books t) now)
    → All P (new_records j.places (closed_state (closed (books t) now)))
    → after t ≡ opened (next_opening (books t) (max (clock_of (books t)) now)) → SameButFor t books after
    → Along P seen sum begun after (noted j (closed_state (closed (books t) now)))
    (slice_set last t (opened (next_opening (books t) (max (clock_of (books t)) now))))
note_closed P seen sum begun books after j last t now s far own period fit is others =
    let was = far.from t s own in
    let b : State = books t in
    let roll : Record = roll_record now in
    let u : State = closed_state (closed b now) in
    let next : State = opened (next_opening b (max (clock_of b) now)) in
    let longer : b.records ++ roll ∷ [] ≡ s.records ++ (was.more ++ roll ∷ []) =
    ap (λ (rs : List Record). rs ++ roll ∷ []) was.grown.records ∙ append_assoc s.records was.more (roll ∷ []) in
    let leads : LeadWithin s (was.more ++ roll ∷ []) u = led_on s u (was.more ++ roll ∷ []) period.replay was.grown.opening longer in
    let two = led_in_two was.more (roll ∷ []) s u leads in
    let there = state_led was.more s two.0 two.1 in
    let same : two.0 ≡ b = same_state two.0 b (there.0 ∙ sym was.grown.opening) (there.1 ∙ sym was.grown.records) in
    let first : LeadWithin s was.more b = subst (λ (x : State). LeadWithin s was.more x) same two.1 in
    let made : outcome_of b roll.entry ≡ Some roll.outcome =
    subst (λ (x : State). outcome_of x roll.entry ≡ Some roll.outcome) same two.2.0 in
    let fits = all_in_two P was.more (roll ∷ []) (fits_more P (new_records j.places u) (was.more ++ roll ∷ [])
    (more_are_new j.places t s u (was.more ++ roll ∷ []) (far.placed t s own) was.number was.grown.opening longer) fit) in
    let number : b.opening.tenant ≡ t = ap (λ (o : Opening). o.tenant) was.grown.opening ∙ was.number in
    let lines_are : lines_of_new j.places u ≡ lines_from (place_of s) (was.more ++ roll ∷ []) =
    new_lines j.places t s u (was.more ++ roll ∷ []) (far.placed t s own) was.number was.grown.opening longer in
    let added : AddLines P last t (lines_of_new j.places u) next =
    subst (λ (l : List ℕ). AddLines P last t l next) (sym lines_are)
    (rolled_lines P was.more last t s b roll own was.number was.grown.running first made (place_in_period b now period) fits.0 fits.1.0) in
    note P seen sum begun books after j last t s u next far own added number number
    (next_place_is b (b.records ++ roll ∷ []) (max (clock_of b) now)) (sym is) others

-- ---- what is committed

pub commit : {D : Type 0} (P : Record → Type 0) (seen : D → List ℕ) (sum : List ℕ) (begun : List State) (books : ℕ → State) (j after : Written D) (last : List State)
    → Along P seen sum begun books j last → IsCommitted seen j after → IsLines (commit_text j.sum j.pending)
    → Along P seen sum begun books after last
commit P seen sum begun books j after last far done whole =
    let placed = λ (t : ℕ) (s : State) (got : slice_get last t ≡ Some s).
    subst (λ (ps : List LinePlace). IsPlaced ps t s) (sym done.places) (far.placed t s got) in
    let as_many : length after.places ≡ length begun = ap length done.places ∙ far.as_many in
    let log : lines (recovered (seen after.log.file)) ≡ summed sum (map lines far.commits) ++ commit_text j.sum j.pending =
    ap lines done.acknowledged ∙ lines-append (recovered (seen j.log.file)) (recovered (commit_text j.sum j.pending))
    ∙ ap (λ (l : List ℕ). l ++ lines (recovered (commit_text j.sum j.pending))) far.log
    ∙ ap (λ (l : List ℕ). summed sum (map lines far.commits) ++ l) (sym whole) in
    elim (writes j.sum j.pending) [
      | inl none ↦
          let empty : far.waiting ≡ [] = no_lines far.waiting (sym far.pending ∙ none.none) in
          record {
            many = far.many;
            from = far.from;
            as_many = as_many;
            placed = placed;
            commits = far.commits;
            waiting = far.waiting;
            log = log ∙ ap (λ (l : List ℕ). summed sum (map lines far.commits) ++ l) none.text
                ∙ append-nil (summed sum (map lines far.commits));
            sum_is = done.sum ∙ none.same ∙ far.sum_is;
            pending = done.pending ∙ sym (ap lines empty);
            led = far.led;
          }
      | inr some ↦
          let texts : List (List ℕ) = map lines far.commits in
          let split : map lines (far.commits ++ far.waiting ∷ []) ≡ texts ++ lines far.waiting ∷ [] =
          map-append lines far.commits (far.waiting ∷ []) in
          let sum_of : sha256 (j.sum ++ j.pending) ≡ sha256 (last_sum sum texts ++ lines far.waiting) =
          ap (λ (l : List ℕ). sha256 (l ++ j.pending)) far.sum_is ∙ ap (λ (l : List ℕ). sha256 (last_sum sum texts ++ l)) far.pending in
          record {
            many = far.many;
            from = far.from;
            as_many = as_many;
            placed = placed;
            commits = far.commits ++ far.waiting ∷ [];
            waiting = [];
            log = log ∙ ap (λ (l : List ℕ). summed sum texts ++ l)
                (some.text ∙ ap (λ (l : List ℕ). j.pending ++ sum_line l) sum_of
                ∙ ap (λ (l : List ℕ). l ++ sum_line (sha256 (last_sum sum texts ++ lines far.waiting))) far.pending)
                ∙ sym (summed_more texts sum (lines far.waiting)) ∙ ap (summed sum) (sym split);
            sum_is = done.sum ∙ some.next ∙ sum_of ∙ sym (last_sum_more texts sum (lines far.waiting)) ∙ ap (last_sum sum) (sym split);
            pending = done.pending;
            led = subst (λ (ls : List (List ℕ)). AreLed P ls begun last) (sym (all_more far.commits far.waiting)) far.led;
          }
    ]
