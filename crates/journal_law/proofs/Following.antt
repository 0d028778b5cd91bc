-- A journal that is kept while steps are done.
use Rattle.std.proofs.Common.{◌≡◌, ◌⊎◌, ◌≢◌, ◌<◌, ◌≤◌, ◌+◌, ℕ, zero, suc, true, false, List, [], ◌∷◌, ◌++◌, length, drop, map, append_assoc, append-nil, refl, sym, ap, subst, ◌∙◌, inl, inr, arith}
use Rattle.std.specs.List.{AllByRecursion, slice_get}
use Rattle.std.specs.Prelude.{All, Option, Some, fold, max, option_map, slice_index_or, slice_set}
use Rattle.std.proofs.lemmas.Bool.{eq-eqb, ne_eqb}
use Rattle.std.proofs.lemmas.Bool.Decides.{eqb_tells}
use Rattle.std.proofs.lemmas.List.{get_or-set_other, length-append, length-map}
use Rattle.std.proofs.lemmas.List.Elements.{All-append, All-from_recursion, recursion_from_All}
use Rattle.std.proofs.lemmas.Option.{get_or_from_slice_get, slice_get-get_or, slice_get_within}
use Rattle.book_journal.specs.Written.{Written, closed_state, first_place, new_records, noted, place_in}
use Rattle.book_log.specs.Base.{states_of}
use Rattle.book_log.specs.Lines.{place_of}
use Rattle.book_log.specs.Sums.{summed}
use Rattle.book_log.specs.Written.{AreWritten, IsLoggable}
use Rattle.book_log.specs.declared.base.TenantStart.{TenantStart}
use Rattle.book_log.specs.declared.line.LinePlace.{LinePlace}
use Rattle.floor_core.specs.World.{AreOutputs, Event, FitsIn, Hand, IsLeft, Owner, Tenant, World, after_alone, answer_owner, decide_owner, effect_of, heard, load_owner, no_book, owner, put, reply_alone}
use Rattle.floor_core.specs.Worlds.{after_all, replies, reply, says, tenants_after, world_after}
use Rattle.floor_core.specs.declared.step.Output.{Output}
use Rattle.floor_core.specs.declared.step.PeerAnswer.{PeerAnswer}
use Rattle.floor_core.specs.declared.step.Step.{Step}
use Rattle.floor_core.specs.declared.step.Step.TheVariants.{Load, Decide, Answer, Tick, Govern}
use Rattle.line_log.specs.Log.{all_of, lines, recovered}
use Rattle.replay_text.specs.Closed.{HasTakenPeriods, Taking, closed_by, closed_in}
use Rattle.replay_text.specs.Recorded.{HasFollowed, HasRecorded, Recording}
use Rattle.replay_text.specs.Recorded.HasFollowed.{Done, Kept, Nothing}
use Rattle.tenant_core.specs.Periods.{closed, next_opening}
use Rattle.tenant_core.specs.Closing.{IsPeriod}
use Rattle.tenant_core.specs.Sound.{IsSound}
use Rattle.tenant_core.specs.State.{State, clock_of, opened}
use Rattle.tenant_core.specs.declared.journal.Record.{Record}
use Rattle.tenant_core.specs.declared.opening.Opening.{Opening}
use Rattle.tenant_core.specs.declared.period.PeriodParts.{PeriodParts}
use Rattle.journal_law.specs.Growth.{HasGrown, Rolls, is_roll}
use Rattle.journal_law.specs.Kept.{AreLed, HasAllRecords, HasAllWritten, HaveBegun, IsNewJournal, JournalKeeps, JournalTakes, KeepsJournal}
use Rattle.journal_law.proofs.Events.{Goes, event_goes_on, is_answered, is_decided}
use Rattle.journal_law.proofs.Noting.{Along, all_in_two, IsFrom, SameButFor, commit, note_book, note_closed, same_place}
use Rattle.journal_law.proofs.Sums.{no_lines}

-- ---- laws of the floor

abbrev pub OneListLaw : Type 0
OneListLaw = (world : World) (steps : List Step) (xs ys : List Output) → AreOutputs world steps xs → AreOutputs world steps ys → xs ≡ ys

abbrev pub RepliesLaw : Type 0
RepliesLaw = (world : World) (steps : List Step) → AreOutputs world steps (replies world steps)

abbrev pub AfterLaw : Type 0
AfterLaw = (world : World) (steps : List Step) → IsLeft world steps (replies world steps) (after_all world steps)

pub record Laws : Type 0 where
  pub one_list : OneListLaw
  pub replies : RepliesLaw
  pub after : AfterLaw

are_replies : Laws → (w : World) (steps : List Step) (outputs : List Output) → AreOutputs w steps outputs → outputs ≡ replies w steps
are_replies laws w steps outputs are = laws.one_list w steps outputs (replies w steps) are (laws.replies w steps)

is_after : Laws → (w m : World) (steps : List Step) (outputs : List Output) → AreOutputs w steps outputs → IsLeft w steps outputs m → m ≡ after_all w steps
is_after laws w m steps outputs are left =
    let same : outputs ≡ replies w steps = are_replies laws w steps outputs are in
    let here : IsLeft w steps (replies w steps) m = subst (λ (xs : List Output). IsLeft w steps xs m) same left in
    let there : IsLeft w steps (replies w steps) (after_all w steps) = laws.after w steps in
    let tenants : m.tenants ≡ (after_all w steps).tenants = λ i t. (sym (here.alone t) ∙ there.alone t) i in
    let hands : m.hands ≡ (after_all w steps).hands = here.hands ∙ sym there.hands in
    λ i. record { tenants = tenants i; hands = hands i }

-- ---- whose a step is

-- it is a tenant's that is there, or one's whose book goes on; a step of nobody closes no period
abbrev Fits : ℕ → World → Owner → Type 0
Fits tenants w (Owner.Own t e) = (t < tenants) ⊎ Goes (w.tenants t).book (effect_of (w.tenants t) e)
Fits tenants w (Owner.Nobody output) = closed_in output ≡ []

load_fits : (tenants : ℕ) (w : World) (hand : Hand) (tenant : ℕ) (token bytes : List ℕ) → tenant < tenants → Fits tenants w (load_owner hand tenant token bytes)
load_fits tenants w Hand.Free tenant token bytes within = inl within
load_fits tenants w (Hand.Has t call) tenant token bytes within = refl
load_fits tenants w (Hand.Awaits t call) tenant token bytes within = refl

decide_fits : (tenants : ℕ) (w : World) (hand : Hand) (now : ℕ) → Fits tenants w (decide_owner hand now)
decide_fits tenants w Hand.Free now = refl
decide_fits tenants w (Hand.Has t call) now = inr (is_decided (w.tenants t) call ((w.tenants t).calls call) now)
decide_fits tenants w (Hand.Awaits t call) now = refl

answer_fits : (tenants : ℕ) (w : World) (hand : Hand) (now : ℕ) (given : PeerAnswer) → Fits tenants w (answer_owner hand now given)
answer_fits tenants w Hand.Free now given = refl
answer_fits tenants w (Hand.Has t call) now given = refl
answer_fits tenants w (Hand.Awaits t call) now given = inr (is_answered (w.tenants t) call ((w.tenants t).calls call) now (heard given))

owner_fits : (workers tenants : ℕ) (w : World) (step : Step) → FitsIn workers tenants step → Fits tenants w (owner w.hands step)
owner_fits workers tenants w (Load worker tenant token bytes) fits = load_fits tenants w (w.hands worker) tenant token bytes fits.1
owner_fits workers tenants w (Decide worker now) fits = decide_fits tenants w (w.hands worker) now
owner_fits workers tenants w (Answer worker now given) fits = answer_fits tenants w (w.hands worker) now given
owner_fits workers tenants w (Tick tenant now) fits = inl fits
owner_fits workers tenants w (Govern tenant now command) fits = inl fits

-- ---- one step

-- the books of a world
abbrev pub books_in : World → ℕ → State
books_in w = λ t. (w.tenants t).book

-- the journal is kept so far, or spoilt
abbrev pub IsAlong : {D : Type 0} → (Record → Type 0) → (D → List ℕ) → List ℕ → List State → (ℕ → State) → Written D → Type 0
IsAlong P seen sum begun books j = (j.spoilt ≡ true) ⊎ ((last : List State) × Along P seen sum begun books j last)

grown_on : (s u v : State) (more others : List Record) → HasGrown s more u → HasGrown u others v → HasGrown s (more ++ others) v
grown_on s u v more others one two = record {
  opening = two.opening ∙ one.opening;
  records = two.records ∙ ap (λ (rs : List Record). rs ++ others) one.records ∙ append_assoc s.records more others;
  running = recursion_from_All (λ r. is_roll r.entry ≡ false) (more ++ others)
      (All-append (λ r. is_roll r.entry ≡ false) more others (All-from_recursion (λ r. is_roll r.entry ≡ false) more one.running)
      (All-from_recursion (λ r. is_roll r.entry ≡ false) others two.running));
}

-- a book grows, and nothing is noted
along_grown : {D : Type 0} (P : Record → Type 0) (seen : D → List ℕ) (sum : List ℕ) (begun : List State) (books after : ℕ → State) (j : Written D) (last : List State)
    (t : ℕ) (more : List Record) → Along P seen sum begun books j last → HasGrown (books t) more (after t) → SameButFor t books after
    → Along P seen sum begun after j last
along_grown P seen sum begun books after j last t more far grown others = record {
  many = far.many;
  from = λ k s got.
      let was = far.from k s got in
      elim (eqb_tells k t) [
        | inl same ↦
            let here : HasGrown (books k) more (after k) = subst (λ n. HasGrown (books n) more (after n)) (sym same.1) grown in
            record { number = was.number; more = was.more ++ more; grown = grown_on s (books k) (after k) was.more more was.grown here }
        | inr other ↦ subst (λ (b : State). IsFrom k s b) (sym (others k other.1)) was
      ];
  as_many = far.as_many;
  placed = far.placed;
  commits = far.commits;
  waiting = far.waiting;
  log = far.log;
  sum_is = far.sum_is;
  pending = far.pending;
  led = far.led;
}

is_along_grown : {D : Type 0} (P : Record → Type 0) (seen : D → List ℕ) (sum : List ℕ) (begun : List State) (books after : ℕ → State) (j : Written D)
    (t : ℕ) (more : List Record) → IsAlong P seen sum begun books j → HasGrown (books t) more (after t) → SameButFor t books after
    → IsAlong P seen sum begun after j
is_along_grown P seen sum begun books after j t more (inl spoilt) grown others = inl spoilt
is_along_grown P seen sum begun books after j t more (inr far) grown others =
    inr (far.0, along_grown P seen sum begun books after j far.0 t more far.1 grown others)

-- a period is closed, and taken
is_along_rolled : {D : Type 0} (P : Record → Type 0) (seen : D → List ℕ) (sum : List ℕ) (begun : List State) (books after : ℕ → State) (j later : Written D)
    (t : ℕ) (output : Output) → t < length begun → IsAlong P seen sum begun books j → (rolls : Rolls (books t) output (after t))
    → SameButFor t books after → JournalTakes P j rolls.period later → IsAlong P seen sum begun after later
is_along_rolled P seen sum begun books after j later t output within far rolls others takes =
    elim takes.noted [
      | inl was ↦ elim far [
        | inl spoilt ↦ inl (ap (λ (x : Written _). x.spoilt) was ∙ spoilt)
        | inr along ↦
            let one : t < length along.0 = subst (λ n. t < n) (sym along.1.many) within in
            let own : slice_get along.0 t ≡ Some (slice_index_or along.0 t no_book) = slice_get-get_or along.0 t no_book one in
            let period : IsPeriod (closed (books t) rolls.now) =
            subst (λ (p : PeriodParts). IsPeriod p) rolls.rolled.closed takes.period in
            let fit : All P (new_records j.places (closed_state (closed (books t) rolls.now))) =
            subst (λ (p : PeriodParts). All P (new_records j.places (closed_state p))) rolls.rolled.closed takes.records in
            let noted_so : later ≡ noted j (closed_state (closed (books t) rolls.now)) =
            was ∙ ap (λ (p : PeriodParts). noted j (closed_state p)) rolls.rolled.closed in
            let last : List State = slice_set along.0 t (opened (next_opening (books t) (max (clock_of (books t)) rolls.now))) in
            inr (
              last,
              subst (λ (x : Written _). Along P seen sum begun after x last) (sym noted_so)
                  (note_closed P seen sum begun books after j along.0 t rolls.now (slice_index_or along.0 t no_book) along.1 own period fit rolls.rolled.next others),
            )
      ]
      | inr spoilt ↦ inl spoilt
    ]

same_others : (w : World) (t : ℕ) (s : Tenant) → SameButFor t (books_in w) (λ k. (put w.tenants t s k).book)
same_others w t s k other = rw (ne_eqb k t other) refl

put_at : (w : World) (t : ℕ) (s : Tenant) → put w.tenants t s t ≡ s
put_at w t s = rw (eq-eqb t t refl) refl

abbrev books_after : World → Owner → ℕ → State
books_after w o = λ t. (tenants_after w o t).book

own_goes_on : {D K : Type 0} (P : Record → Type 0) (seen : D → List ℕ) (sum : List ℕ) (begun : List State) (Takes : Taking K) (journal : K → Written D) (w : World)
    (t : ℕ) (e : Event) (k l : K) → Goes (w.tenants t).book (effect_of (w.tenants t) e)
    → HasTakenPeriods Takes (closed_in (reply_alone (w.tenants t) e)) k l → IsAlong P seen sum begun (books_in w) (journal k)
    → IsAlong P seen sum begun (books_after w (Owner.Own t e)) (journal l)
own_goes_on P seen sum begun Takes journal w t e k l goes taken far =
    let none : l ≡ k = subst (λ (ps : List PeriodParts). HasTakenPeriods Takes ps k l) goes.none taken in
    let here : (put w.tenants t (after_alone (w.tenants t) e) t).book ≡ (after_alone (w.tenants t) e).book =
    ap (λ (s : Tenant). s.book) (put_at w t (after_alone (w.tenants t) e)) in
    subst (λ (x : _). IsAlong P seen sum begun (books_after w (Owner.Own t e)) (journal x)) (sym none)
    (is_along_grown P seen sum begun (books_in w) (books_after w (Owner.Own t e)) (journal k) t goes.more far
    (subst (λ (b : State). HasGrown (w.tenants t).book goes.more b) (sym here) goes.grown)
    (same_others w t (after_alone (w.tenants t) e)))

own_rolls : {D K : Type 0} (P : Record → Type 0) (seen : D → List ℕ) (sum : List ℕ) (begun : List State) (R : Recording K) (journal : K → Written D) (w : World)
    (t : ℕ) (e : Event) (k l : K) → KeepsJournal P seen R journal → t < length begun
    → Rolls (w.tenants t).book (reply_alone (w.tenants t) e) (after_alone (w.tenants t) e).book
    → HasTakenPeriods R.takes (closed_in (reply_alone (w.tenants t) e)) k l → IsAlong P seen sum begun (books_in w) (journal k)
    → IsAlong P seen sum begun (books_after w (Owner.Own t e)) (journal l)
own_rolls P seen sum begun R journal w t e k l by within rolls taken far =
    let one = subst (λ (ps : List PeriodParts). HasTakenPeriods R.takes ps k l) rolls.one taken in
    let here : (put w.tenants t (after_alone (w.tenants t) e) t).book ≡ (after_alone (w.tenants t) e).book =
    ap (λ (s : Tenant). s.book) (put_at w t (after_alone (w.tenants t) e)) in
    let rolls_there : Rolls (w.tenants t).book (reply_alone (w.tenants t) e) (books_after w (Owner.Own t e) t) =
    record { period = rolls.period; one = rolls.one; now = rolls.now; rolled = record { closed = rolls.rolled.closed; next = here ∙ rolls.rolled.next } } in
    subst (λ (x : _). IsAlong P seen sum begun (books_after w (Owner.Own t e)) (journal x)) (sym one.2)
    (is_along_rolled P seen sum begun (books_in w) (books_after w (Owner.Own t e)) (journal k) (journal one.0) t (reply_alone (w.tenants t) e)
    within far rolls_there (same_others w t (after_alone (w.tenants t) e)) (by.takes k rolls.period one.0 one.1))

owner_goes_on : {D K : Type 0} (P : Record → Type 0) (seen : D → List ℕ) (sum : List ℕ) (begun : List State) (R : Recording K) (journal : K → Written D) (w : World)
    (o : Owner) (k l : K) → KeepsJournal P seen R journal → Fits (length begun) w o
    → HasTakenPeriods R.takes (closed_in (says w o)) k l → IsAlong P seen sum begun (books_in w) (journal k)
    → IsAlong P seen sum begun (books_after w o) (journal l)
owner_goes_on P seen sum begun R journal w (Owner.Own t e) k l by (inl within) taken far =
    elim (event_goes_on (w.tenants t) e) [
      | inl goes ↦ own_goes_on P seen sum begun R.takes journal w t e k l goes taken far
      | inr rolls ↦ own_rolls P seen sum begun R journal w t e k l by within rolls taken far
    ]
owner_goes_on P seen sum begun R journal w (Owner.Own t e) k l by (inr goes) taken far =
    own_goes_on P seen sum begun R.takes journal w t e k l goes taken far
owner_goes_on P seen sum begun R journal w (Owner.Nobody output) k l by none taken far =
    let same : l ≡ k = subst (λ (ps : List PeriodParts). HasTakenPeriods R.takes ps k l) none taken in
    subst (λ (x : _). IsAlong P seen sum begun (books_in w) (journal x)) (sym same) far

-- ---- steps

taken_in_two : {K : Type 0} (Takes : Taking K) (ps qs : List PeriodParts) (k l : K) → HasTakenPeriods Takes (ps ++ qs) k l
    → (m : K) × HasTakenPeriods Takes ps k m × HasTakenPeriods Takes qs m l
taken_in_two Takes [] qs k l taken = (k, refl, taken)
taken_in_two Takes (p ∷ ps) qs k l taken =
    let rest = taken_in_two Takes ps qs taken.0 l taken.2 in
    (rest.0, (taken.0, taken.1, rest.1), rest.2)

steps_go_on : {D K : Type 0} (P : Record → Type 0) (seen : D → List ℕ) (sum : List ℕ) (begun : List State) (R : Recording K) (journal : K → Written D) (workers : ℕ)
    (steps : List Step) (w : World) (k l : K) → KeepsJournal P seen R journal → AllByRecursion (FitsIn workers (length begun)) steps
    → HasTakenPeriods R.takes (closed_by (replies w steps)) k l → IsAlong P seen sum begun (books_in w) (journal k)
    → IsAlong P seen sum begun (books_in (after_all w steps)) (journal l)
steps_go_on P seen sum begun R journal workers [] w k l by fit taken far =
    subst (λ (x : _). IsAlong P seen sum begun (books_in w) (journal x)) (sym taken) far
steps_go_on P seen sum begun R journal workers (step ∷ steps) w k l by fit taken far =
    let two = taken_in_two R.takes (closed_in (reply w step)) (closed_by (replies (world_after w step) steps)) k l taken in
    steps_go_on P seen sum begun R journal workers steps (world_after w step) two.0 l by fit.1 two.2
    (owner_goes_on P seen sum begun R journal w (owner w.hands step) k two.0 by (owner_fits workers (length begun) w step fit.0) two.1 far)

-- ---- what is kept

-- these are the books from that number on, each within its limits; P holds of the records that have no line by these places
abbrev AreFrom : (Record → Type 0) → List LinePlace → ℕ → List State → (ℕ → State) → Type 0
AreFrom P places n [] books = Unit {0}
AreFrom P places n (b ∷ bs) books = (books n ≡ b) × IsSound b × All P (new_records places b) × AreFrom P places (suc n) bs books

are_from : (P : Record → Type 0) (places : List LinePlace) (bs : List State) (n : ℕ) (books : ℕ → State)
    → ((k : ℕ) → k < length bs → books (k + n) ≡ slice_index_or bs k no_book) → AllByRecursion IsSound bs
    → AllByRecursion (λ b. All P (new_records places b)) bs → AreFrom P places n bs books
are_from P places [] n books are sound fit = tt
are_from P places (b ∷ bs) n books are sound fit = (
  ap books (omega arith) ∙ are 0 (omega arith),
  sound.0,
  fit.0,
  are_from P places bs (suc n) books (λ k within. ap books (omega arith) ∙ are (suc k) (omega arith)) sound.1 fit.1,
)

-- from that tenant on the places are the same
abbrev SameFrom : ℕ → List LinePlace → List LinePlace → Type 0
SameFrom n places others = (k : ℕ) (d : LinePlace) → n ≤ k → slice_index_or places k d ≡ slice_index_or others k d

-- a book has the number of its tenant
number_is : (t : ℕ) (s u b : State) → IsFrom t s u → u ≡ b → b.opening.tenant ≡ t
number_is t s u b from is = ap (λ (x : State). x.opening.tenant) (sym is) ∙ ap (λ (o : Opening). o.tenant) from.grown.opening ∙ from.number

-- a book's records without a line are the same by places that are the same from its tenant on
same_new : (n : ℕ) (places others : List LinePlace) (b : State) → SameFrom n places others → b.opening.tenant ≡ n
    → new_records places b ≡ new_records others b
same_new n places others b same number =
    ap (λ (p : LinePlace). drop (place_in p b.opening.period).number b.records) (same b.opening.tenant (place_of b) (omega arith))

-- the place of one tenant was set
same_after_one : (n next : ℕ) (places others : List LinePlace) (t : ℕ) (p : LinePlace) → SameFrom n places others → t ≡ n → suc n ≡ next
    → SameFrom next (slice_set places t p) others
same_after_one n next places others t p same is step k d h =
    let other : k ≢ t = λ e. omega arith in
    get_or-set_other places t k p d other ∙ same k d (omega arith)

pub get_middle : (done rest : List State) (s : State) → slice_get (done ++ s ∷ rest) (length done) ≡ Some s
get_middle [] rest s = refl
get_middle (x ∷ done) rest s = get_middle done rest s

pub set_middle : (done rest : List State) (s u : State) → slice_set (done ++ s ∷ rest) (length done) u ≡ (done ++ u ∷ []) ++ rest
set_middle [] rest s u = refl
set_middle (x ∷ done) rest s u = ap (λ (xs : List State). x ∷ xs) (set_middle done rest s u)

all_noted : {D : Type 0} (P : Record → Type 0) (seen : D → List ℕ) (sum : List ℕ) (begun : List State) (books : ℕ → State) (first : List LinePlace)
    (bs rest done : List State) (j : Written D) → length bs ≡ length rest → AreFrom P first (length done) bs books
    → SameFrom (length done) j.places first → Along P seen sum begun books j (done ++ rest)
    → Along P seen sum begun books (fold noted j bs) (done ++ bs)
all_noted P seen sum begun books first [] [] done j same are places far = far
all_noted P seen sum begun books first [] (s ∷ rest) done j same are places far = absurd (omega arith)
all_noted P seen sum begun books first (b ∷ bs) [] done j same are places far = absurd (omega arith)
all_noted P seen sum begun books first (b ∷ bs) (s ∷ rest) done j same are places far =
    let own : slice_get (done ++ s ∷ rest) (length done) ≡ Some s = get_middle done rest s in
    let number : b.opening.tenant ≡ length done = number_is (length done) s (books (length done)) b (far.from (length done) s own) are.0 in
    let fit : All P (new_records j.places b) =
    subst (λ (rs : List Record). All P rs) (sym (same_new (length done) j.places first b places number)) are.2 in
    let one = note_book P seen sum begun books j (done ++ s ∷ rest) (length done) s b far own are.0 are.1 fit in
    let next : suc (length done) ≡ length (done ++ b ∷ []) = omega (arith, length-append done (b ∷ [])) in
    subst (λ (xs : List State). Along P seen sum begun books (fold noted (noted j b) bs) xs) (append_assoc done (b ∷ []) bs)
    (all_noted P seen sum begun books first bs rest (done ++ b ∷ []) (noted j b) (omega arith)
    (subst (λ n. AreFrom P first n bs books) next are.3)
    (same_after_one (length done) (length (done ++ b ∷ [])) j.places first b.opening.tenant (place_of b) places number next)
    (subst (λ (xs : List State). Along P seen sum begun books (noted j b) xs) (set_middle done rest s b) one))

noted_spoilt : {D : Type 0} (bs : List State) (j : Written D) → (fold noted j bs).spoilt ≡ j.spoilt
noted_spoilt [] j = refl
noted_spoilt (b ∷ bs) j = noted_spoilt bs (noted j b)

pub keep : {D : Type 0} (P : Record → Type 0) (seen : D → List ℕ) (sum : List ℕ) (begun : List State) (w : World) (j after : Written D)
    → (keeps : JournalKeeps P seen j w after) → IsAlong P seen sum begun (books_in w) j → Along P seen sum begun (books_in w) after keeps.books
keep P seen sum begun w j after keeps (inl spoilt) =
    absurd (cc (sym spoilt ∙ sym (noted_spoilt keeps.books j) ∙ keeps.committed.was_sound))
keep P seen sum begun w j after keeps (inr far) =
    let many : length keeps.books ≡ length far.0 = keeps.all ∙ far.1.as_many ∙ sym far.1.many in
    let are : AreFrom P j.places 0 keeps.books (books_in w) =
    are_from P j.places keeps.books 0 (books_in w) (λ k within. ap (books_in w) (omega arith) ∙ keeps.are k within)
    (recursion_from_All IsSound keeps.books keeps.sound)
    (recursion_from_All (λ b. All P (new_records j.places b)) keeps.books keeps.records) in
    commit P seen sum begun (books_in w) (fold noted j keeps.books) after keeps.books
    (all_noted P seen sum begun (books_in w) j.places keeps.books far.0 [] j many are (λ k d h. refl) far.1) keeps.committed keeps.whole

-- ---- all of it

followed_on : Laws → {D K : Type 0} (P : Record → Type 0) (seen : D → List ℕ) (sum : List ℕ) (begun : List State) (R : Recording K) (journal : K → Written D) (workers : ℕ)
    (w : World) (first : K) (left : World) (steps : List Step) (last : K) → KeepsJournal P seen R journal → IsAlong P seen sum begun (books_in w) (journal first)
    → AllByRecursion (FitsIn workers (length begun)) steps → HasFollowed R w first steps left last
    → IsAlong P seen sum begun (books_in left) (journal last)
followed_on laws P seen sum begun R journal workers w first left steps last by far fit Nothing = far
followed_on laws P seen sum begun R journal workers w first left steps last by far fit (Done ss more between m before k followed closes) =
    let two = all_in_two (FitsIn workers (length begun)) ss more fit in
    let so_far = followed_on laws P seen sum begun R journal workers w first between ss before by far two.0 followed in
    let outputs : closes.0 ≡ replies between more = are_replies laws between more closes.0 closes.1 in
    let world : m ≡ after_all between more = is_after laws between m more closes.0 closes.1 closes.2 in
    subst (λ (x : World). IsAlong P seen sum begun (books_in x) (journal k)) (sym world)
    (steps_go_on P seen sum begun R journal workers more between before k by two.1
    (subst (λ (xs : List Output). HasTakenPeriods R.takes (closed_by xs) before k) outputs closes.3) so_far)
followed_on laws P seen sum begun R journal workers w first left steps last by far fit (Kept ss m before k followed keeps) =
    let so_far = followed_on laws P seen sum begun R journal workers w first m ss before by far fit followed in
    let kept = by.keeps before m k keeps in
    inr (kept.books, keep P seen sum begun m (journal before) (journal k) kept so_far)

-- ---- the start

starts_placed : (starts : List TenantStart) (t : ℕ) (s : State) → slice_get (states_of starts) t ≡ Some s
    → slice_get (map first_place starts) t ≡ Some (place_of s)
starts_placed [] t s got = absurd (cc got)
starts_placed (x ∷ starts) zero s got = ap (λ (o : Option State). option_map place_of o) got
starts_placed (x ∷ starts) (suc t) s got = starts_placed starts t s got

at_start : {D : Type 0} (P : Record → Type 0) (seen : D → List ℕ) (sum : List ℕ) (starts : List TenantStart) (w : World) (j : Written D)
    → IsNewJournal seen sum starts j → HaveBegun w starts → Along P seen sum (states_of starts) (books_in w) j (states_of starts)
at_start P seen sum starts w j new begun = record {
  many = refl;
  from = λ t s got.
      let within : t < length (states_of starts) = slice_get_within (states_of starts) t s got in
      let book : (w.tenants t).book ≡ s = begun.books t within ∙ get_or_from_slice_get (states_of starts) t s no_book got in
      let there : t < length starts = subst (λ n. t < n) (length-map starts (λ (x : TenantStart). opened x.opening)) within in
      record {
        number = ap (λ (b : State). b.opening.tenant) (sym book) ∙ begun.numbers t there;
        more = [];
        grown = record {
          opening = ap (λ (b : State). b.opening) book;
          records = ap (λ (b : State). b.records) book ∙ sym (append-nil s.records);
          running = tt;
        };
      };
  as_many = ap length new.places ∙ length-map starts first_place ∙ sym (length-map starts (λ (x : TenantStart). opened x.opening));
  placed = λ t s got. record {
    place = place_of s;
    kept = ap (λ (ps : List LinePlace). slice_get ps t) new.places ∙ starts_placed starts t s got;
    is = same_place s.opening.period (place_of s) refl;
  };
  commits = [];
  waiting = [];
  log = ap lines new.log;
  sum_is = new.sum_is;
  pending = new.pending;
  led = refl;
}

pub all_is_kept : Laws → {D K : Type 0} (P : Record → Type 0) (seen : D → List ℕ) (R : Recording K) (journal : K → Written D) (starts : List TenantStart) (sum : List ℕ)
    (workers : ℕ) (w left : World) (steps : List Step) (first last : K) → KeepsJournal P seen R journal → IsNewJournal seen sum starts (journal first)
    → HaveBegun w starts → All (FitsIn workers (length starts)) steps → HasRecorded R w steps left first last
    → HasAllRecords P sum (lines (recovered (seen (journal last).log.file))) starts left
all_is_kept laws P seen R journal starts sum workers w left steps first last by new begun fit recorded =
    let states : List State = states_of starts in
    let many : length states ≡ length starts = length-map starts (λ (x : TenantStart). opened x.opening) in
    let fits : AllByRecursion (FitsIn workers (length states)) steps =
    subst (λ n. AllByRecursion (FitsIn workers n) steps) (sym many) (recursion_from_All (FitsIn workers (length starts)) steps fit) in
    let so_far = followed_on laws P seen sum states R journal workers w first left steps recorded.before by
    (inr (states, at_start P seen sum starts w (journal first) new begun)) fits recorded.followed in
    let kept = by.keeps recorded.before left last recorded.kept in
    let far = keep P seen sum states left (journal recorded.before) (journal last) kept so_far in
    let none : far.waiting ≡ [] = no_lines far.waiting (sym far.pending ∙ kept.committed.pending) in
    let whole : all_of far.commits ++ far.waiting ≡ all_of far.commits =
    ap (λ (ls : List (List ℕ)). all_of far.commits ++ ls) none ∙ append-nil (all_of far.commits) in
    record {
      books = kept.books;
      are = kept.are;
      all = far.many ∙ many;
      led = record { commits = far.commits; is = far.log; led = subst (λ (ls : List (List ℕ)). AreLed P ls states kept.books) whole far.led };
    }

-- ---- records that a statement can state

pub are_written : (ls : List (List ℕ)) (before after : List State) → AreLed IsLoggable ls before after → AreWritten ls before after
are_written [] before after led = led
are_written (l ∷ ls) before after led =
    let one = led.1 in (
      led.0,
      record {
        tenant = one.tenant;
        state = one.state;
        its_own = one.its_own;
        number = one.number;
        place = one.place;
        next = one.next;
        loggable = one.fits;
        leads = one.leads;
        is_line = one.is_line;
        left = one.left;
      },
      are_written ls led.0 after led.2,
    )

pub all_is_written : (sum text : List ℕ) (starts : List TenantStart) (w : World) → HasAllRecords IsLoggable sum text starts w
    → HasAllWritten sum text starts w
all_is_written sum text starts w has = record {
  books = has.books;
  are = has.are;
  all = has.all;
  written = record {
    commits = has.led.commits;
    others = [];
    is = has.led.is ∙ sym (append-nil (summed sum (map lines has.led.commits)));
    written = subst (λ (ls : List (List ℕ)). AreWritten ls (states_of starts) has.books) (sym (append-nil (all_of has.led.commits)))
        (are_written (all_of has.led.commits) (states_of starts) has.books has.led.led);
  };
}
