-- Complete receipts are the records of a run.
use Rattle.std.proofs.Common.{◌≡◌, ◌≢◌, ◌+◌, ◌-◌, ◌<◌, ◌≤◌, ◌⊎◌, ◌==◌, ℕ, zero, suc, Bool, true, false, List, [], ◌∷◌, ◌++◌, length, map, take, Option, Some, None, slice_get, refl, sym, ap, subst, ◌∙◌, arith, inl, inr, eq-eqb, ne_eqb}
use Rattle.std.specs.Prelude.{All, Contains, find, max, ◌&&◌}
use Rattle.std.proofs.lemmas.Bool.{and_parts, eqb-true, and_from}
use Rattle.std.proofs.lemmas.List.{length-map, length_push, take-append-le}
use Rattle.std.proofs.lemmas.List.Elements.{All-cons, All-nil}
use Rattle.std.proofs.lemmas.Option.{slice_get_within, get_or_from_slice_get}
use Rattle.std.proofs.Math.Seq.{take-append_seam, take-suc}
use mathlib.Core.Logic.{dite}
use native.Mathlib.Decide.{ℕ_discrete, dec_lt}
use Rattle.tenant_core.specs.Called.{first_of}
use Rattle.tenant_core.specs.Closing.{IsPeriod, moment_of_last, state_at_end, state_before_roll}
use Rattle.tenant_core.specs.Governed.{roll_left, roll_made}
use Rattle.tenant_core.specs.Limits.{max_tenants}
use Rattle.tenant_core.specs.Periods.{next_opening, roll_record}
use Rattle.tenant_core.specs.State.{State, clock_of, opened}
use Rattle.tenant_core.specs.declared.command.Command.TheVariants as command
use Rattle.tenant_core.specs.declared.faults.CommandFault.{CommandFault}
use Rattle.tenant_core.specs.declared.journal.Record.{Record}
use Rattle.tenant_core.specs.declared.opening.Opening.{Opening}
use Rattle.tenant_core.specs.declared.period.PeriodParts.{PeriodParts}
use Rattle.floor_core.specs.Causes.{BringsBytes, AreCaused, ArePlaced, AreRun, Cause, Entered, book_opened, left_from, made_from}
use Rattle.floor_core.specs.World.{no_book, put}
use Rattle.joint_order.specs.Orders.{TakesOn, list_at, none, one_more_at, point}
use Rattle.joint_order.specs.declared.point.ListPoint.{ListPoint}
use Rattle.receipts.specs.Audits.{AreJoined, AreMatched, IsComplete, journal_place, points_of, shown_record, records_before}
use Rattle.receipts.specs.Layout.{AreOfRolls}
use Rattle.receipts.specs.Runs.{AreOfRun, IsLast, entered_in, in_order, led_by, taken_in}
use Rattle.receipts.specs.declared.receipt.Receipt.{Receipt}
use Rattle.receipts.proofs.Causes.{Explains, FrameLaws, explained_call}
use Rattle.receipts.proofs.Joins.{ends_next, is_element, is_read, one_there}
use Rattle.receipts.proofs.Lays.{before_later, before_more, none_first}
use Rattle.receipts.proofs.Naming.{point_from, points_at, same_entry}

-- ---- the records of one period

-- a record of a list with one more is the last, or one of the others
push_cases : {X : Type 0} (xs : List X) (k : ℕ) (y z : X) → slice_get (xs ++ y ∷ []) k ≡ Some z
    → ((k ≡ length xs) × (y ≡ z)) ⊎ ((k < length xs) × (slice_get xs k ≡ Some z))
push_cases {X = X} [] zero y z e = inl (refl, one_there (y ∷ []) 0 y z refl e)
push_cases {X = X} [] (suc k) y z e = let below = slice_get_within (y ∷ []) (suc k) z e in absurd (omega arith)
push_cases {X = X} (x ∷ xs) zero y z e = inr (omega arith, e)
push_cases {X = X} (x ∷ xs) (suc k) y z e = elim (push_cases xs k y z e) [
  | inl last ↦ inl (ap suc last.0, last.1)
  | inr before ↦ inr (omega arith, before.1)
]

-- the records of a period are those before the roll, and the roll's
ends_with_roll : (p : PeriodParts) → IsPeriod p → p.records ≡ (state_before_roll p).records ++ roll_record (moment_of_last p.records) ∷ []
ends_with_roll p kept = ap (λ (q : PeriodParts). q.records) kept.closed

-- so there is one more than before it
some_records : (p : PeriodParts) → IsPeriod p → length p.records ≡ length (state_before_roll p).records + 1
some_records p kept = ap length (ends_with_roll p kept) ∙ length_push (state_before_roll p).records (roll_record (moment_of_last p.records))

-- what follows the record of that number of a period: the next one, or the next period
abbrev Follows : (p : PeriodParts) → ℕ → State → Type 0
Follows p n s =
    ((n + 1 < length p.records) × (s ≡ first_of (n + 1) (state_at_end p))) ⊎ ((n + 1 ≡ length p.records) × (s ≡ opened p.ending))

-- a cause makes the record in the state of those before it, and leaves what follows
record IsExplained (p : PeriodParts) (n : ℕ) (x : Record) : Type 0 where
  cause : Cause
  brings : BringsBytes cause
  made : made_from (first_of n (state_at_end p)) cause ≡ Some x
  left : Follows p n (left_from (first_of n (state_at_end p)) cause)

-- the record before the roll
inside_explained : FrameLaws → (p : PeriodParts) (n : ℕ) (x : Record) → IsPeriod p → n < length (state_before_roll p).records
    → slice_get (state_before_roll p).records n ≡ Some x → IsExplained p n x
inside_explained laws p n x kept below at =
    let s : State = state_before_roll p in
    let many = some_records p kept in
    let roll : Record = roll_record (moment_of_last p.records) in
    let same : take n p.records ≡ take n s.records = ap (take n) (ends_with_roll p kept) ∙ take-append-le n s.records (roll ∷ []) (omega arith) in
    let here : first_of n (state_at_end p) ≡ first_of n s = ap (λ (rs : List Record). record { opening = p.opening; records = rs }) same in
    let explains : Explains (first_of n s) x = explained_call laws (first_of n s) x (kept.sound.calls n x at) in
    let next : take (n + 1) p.records ≡ take (n + 1) s.records = ap (take (n + 1)) (ends_with_roll p kept) ∙ take-append-le (n + 1) s.records (roll ∷ []) (omega arith) in
    let one : n + 1 ≡ suc n = omega arith in
    let more : take (n + 1) s.records ≡ take n s.records ++ x ∷ [] =
    ap (λ (k : ℕ). take k s.records) one ∙ take-suc s.records n x below ∙ ap (λ (y : Record). take n s.records ++ y ∷ []) (get_or_from_slice_get s.records n x x at) in
    let left : left_from (first_of n s) explains.cause ≡ first_of (n + 1) (state_at_end p) =
    explains.left ∙ ap (λ (rs : List Record). record { opening = p.opening; records = rs }) (sym (next ∙ more)) in
    record {
      cause = explains.cause;
      brings = explains.brings;
      made = ap (λ (z : State). made_from z explains.cause) here ∙ explains.made;
      left = inl (omega arith, ap (λ (z : State). left_from z explains.cause) here ∙ left);
    }

-- the roll's
roll_explained : (p : PeriodParts) (n : ℕ) (x : Record) → IsPeriod p → n ≡ length (state_before_roll p).records
    → roll_record (moment_of_last p.records) ≡ x → IsExplained p n x
roll_explained p n x kept last is =
    let s : State = state_before_roll p in
    let now : ℕ = moment_of_last p.records in
    let many = some_records p kept in
    let whole : take n p.records ≡ s.records =
    ap (λ (k : ℕ). take k p.records) last ∙ (ap (take (length s.records)) (ends_with_roll p kept) ∙ take-append_seam s.records (roll_record now ∷ [])) in
    let here : first_of n (state_at_end p) ≡ s = ap (λ (rs : List Record). record { opening = p.opening; records = rs }) whole in
    let cause : Cause = Cause.Order now command.Roll in
    let made : made_from s cause ≡ Some (roll_record now) = ap (λ (o : Option CommandFault). roll_made o now) kept.free in
    let ending : p.ending ≡ next_opening s (max (clock_of s) now) = ap (λ (q : PeriodParts). q.ending) kept.closed in
    let left : left_from s cause ≡ opened p.ending =
    ap (λ (o : Option CommandFault). roll_left s o now) kept.free ∙ ap opened (sym ending) in
    record {
      cause = cause;
      brings = tt;
      made = ap (λ (z : State). made_from z cause) here ∙ (made ∙ ap Some is);
      left = inr (omega arith, ap (λ (z : State). left_from z cause) here ∙ left);
    }

-- each record of a period
record_explained : FrameLaws → (p : PeriodParts) (n : ℕ) (x : Record) → IsPeriod p → slice_get p.records n ≡ Some x → IsExplained p n x
record_explained laws p n x kept at =
    elim (push_cases (state_before_roll p).records n (roll_record (moment_of_last p.records)) x
    (subst (λ (rs : List Record). slice_get rs n ≡ Some x) (ends_with_roll p kept) at)) [
      | inl last ↦ roll_explained p n x kept last.0 last.1
      | inr before ↦ inside_explained laws p n x kept before.0 before.1
    ]

-- ---- the periods of a tenant

-- periods of one tenant and one number are one
same_period : (periods : List PeriodParts) (p q : PeriodParts) → AreJoined periods → Contains periods p → Contains periods q
    → p.opening.tenant ≡ q.opening.tenant → p.opening.period ≡ q.opening.period → p ≡ q
same_period periods p q joined has_p has_q tenant number =
    let at_p = is_read periods p has_p in
    let at_q = is_read periods q has_q in
    let place : at_p.0 ≡ at_q.0 = joined.once at_p.0 at_q.0 p q at_p.1 at_q.1 (tenant, number) in
    one_there periods at_q.0 p q (subst (λ k. slice_get periods k ≡ Some p) place at_p.1) at_q.1

-- a period is what a roll closed
is_kept : (periods : List PeriodParts) (p : PeriodParts) → AreOfRolls periods → Contains periods p → IsPeriod p
is_kept periods p kept has = let at = is_read periods p has in kept at.0 p at.1

-- a period's records come before those of the tenant's later numbers
come_before : (periods : List PeriodParts) (p : PeriodParts) (m : ℕ) → Contains periods p → p.opening.period < m
    → records_before periods p.opening.tenant p.opening.period + length p.records ≤ records_before periods p.opening.tenant m
come_before periods p m has less =
    let at = is_read periods p has in
    before_later periods p.opening.tenant p.opening.period p at.0 m at.1 (refl, refl) less

-- one period ends in the state that the other opens
record LeadsTo (periods : List PeriodParts) (p q : PeriodParts) : Type 0 where
  has : Contains periods p
  ends : p.ending ≡ q.opening
  tenant : p.opening.tenant ≡ q.opening.tenant
  number : p.opening.period + 1 ≡ q.opening.period

-- one leads to each that is not its tenant's first
led_by_one : (periods : List PeriodParts) (q : PeriodParts) → AreOfRolls periods → AreJoined periods → Contains periods q → q.opening.period ≢ 0
    → (p : PeriodParts) × LeadsTo periods p q
led_by_one periods q kept joined has later = elim (joined.led q has) [
  | inl first ↦ absurd (later first)
  | inr led ↦
      let p : PeriodParts = led.0 in
      let next = ends_next p (is_kept periods p kept led.1) in (
        p,
        record {
          has = led.1;
          ends = led.2;
          tenant = sym next.0 ∙ ap (λ (o : Opening). o.tenant) led.2;
          number = sym next.1 ∙ ap (λ (o : Opening). o.period) led.2;
        },
      )
]

-- the place behind a record of a tenant's journal is that of the next one of its period, or the first of the next period
abbrev NextPlace : (p q : PeriodParts) → (n k : ℕ) → Type 0
NextPlace p q n k = ((p ≡ q) × (k ≡ n + 1)) ⊎ ((n + 1 ≡ length p.records) × (k ≡ 0) × (p.ending ≡ q.opening))

next_place : (periods : List PeriodParts) (p q : PeriodParts) (n k : ℕ) → AreOfRolls periods → AreJoined periods → Contains periods p → Contains periods q
    → q.opening.tenant ≡ p.opening.tenant → n < length p.records → k < length q.records
    → records_before periods p.opening.tenant p.opening.period + n + 1 ≡ records_before periods p.opening.tenant q.opening.period + k → NextPlace p q n k
next_place periods p q n (suc k) kept joined has_p has_q tenant below_n below_k same =
    let at_p = is_read periods p has_p in
    let at_q = is_read periods q has_q in
    let one = same_entry periods p.opening.tenant p.opening.period q.opening.period at_p.0 at_q.0 n k p q at_p.1 at_q.1 (refl, refl) (tenant, refl)
    below_n (omega arith) (omega arith) in
    let number = one.1 in
    inl (same_period periods p q joined has_p has_q (sym tenant) one.0, omega arith)
next_place periods p q n zero kept joined has_p has_q tenant below_n below_k same =
    let t : ℕ = p.opening.tenant in
    let none = none_first periods t in
    let later : q.opening.period ≢ 0 = λ e.
    let first : records_before periods t q.opening.period ≡ 0 = ap (records_before periods t) e ∙ none in
    absurd (omega arith) in
    let led = led_by_one periods q kept joined has_q later in
    let o : PeriodParts = led.0 in
    let before = led.1 in
    let number = before.number in
    let some = some_records o (is_kept periods o kept before.has) in
    let own : o.opening.tenant ≡ t = before.tenant ∙ tenant in
    let o_before_q : records_before periods t o.opening.period + length o.records ≤ records_before periods t q.opening.period =
    subst (λ u. records_before periods u o.opening.period + length o.records ≤ records_before periods u q.opening.period) own
    (come_before periods o q.opening.period before.has (omega arith)) in
    dite (ℕ_discrete p.opening.period o.opening.period)
    (λ alike.
    let one : p ≡ o = same_period periods p o joined has_p before.has (sym own) alike in
    let long : length p.records ≡ length o.records = ap (λ (x : PeriodParts). length x.records) one in
    let there : records_before periods t p.opening.period ≡ records_before periods t o.opening.period = ap (records_before periods t) alike in
    inr (omega arith, refl, ap (λ (x : PeriodParts). x.ending) one ∙ before.ends))
    (λ apart. dite (dec_lt p.opening.period o.opening.period)
    (λ less. let first = come_before periods p o.opening.period has_p less in absurd (omega arith))
    (λ more. let first = before_more periods t q.opening.period p.opening.period (omega arith) in absurd (omega arith)))

-- ---- the books, where so many records of each tenant were made

-- each book stands where its tenant's journal does
record Stand (periods : List PeriodParts) (books : ℕ → State) (done : ℕ → ℕ) : Type 0 where
  inside : (p : PeriodParts) (k : ℕ) → Contains periods p → k < length p.records
      → done p.opening.tenant ≡ records_before periods p.opening.tenant p.opening.period + k
      → books p.opening.tenant ≡ first_of k (state_at_end p)
  behind : (p : PeriodParts) → Contains periods p → IsLast periods p
      → records_before periods p.opening.tenant p.opening.period + length p.records ≤ done p.opening.tenant
      → books p.opening.tenant ≡ opened p.ending

-- what was put is there, and all else as it was; so with what was counted
put_here : {A : Type 0} (f : ℕ → A) (k n : ℕ) (v : A) → n ≡ k → put f k v n ≡ v
put_here {A = A} f k n v same = rw (eq-eqb n k same) refl

put_elsewhere : {A : Type 0} (f : ℕ → A) (k n : ℕ) (v : A) → n ≢ k → put f k v n ≡ f n
put_elsewhere {A = A} f k n v other = rw (ne_eqb n k other) refl

more_here : (f : ℕ → ℕ) (k n : ℕ) → n ≡ k → one_more_at f k n ≡ f n + 1
more_here f k n same = rw (eq-eqb n k same) refl

more_elsewhere : (f : ℕ → ℕ) (k n : ℕ) → n ≢ k → one_more_at f k n ≡ f n
more_elsewhere f k n other = rw (ne_eqb n k other) refl

-- they stand there after the next record of a tenant
stand_on : (periods : List PeriodParts) (books : ℕ → State) (done : ℕ → ℕ) (t : ℕ) (p : PeriodParts) (n : ℕ) (s : State) → AreOfRolls periods → AreJoined periods
    → Stand periods books done → Contains periods p → p.opening.tenant ≡ t → n < length p.records
    → done t ≡ records_before periods t p.opening.period + n → Follows p n s → Stand periods (put books t s) (one_more_at done t)
stand_on periods books done t p n s kept joined stand has own below at follows = record {
  inside = λ q k has_q below_q there. dite (ℕ_discrete q.opening.tenant t)
      (λ same.
      let tenant : q.opening.tenant ≡ p.opening.tenant = same ∙ sym own in
      let now : done t + 1 ≡ records_before periods t q.opening.period + k =
      subst (λ u. done u + 1 ≡ records_before periods u q.opening.period + k) same (sym (more_here done t q.opening.tenant same) ∙ there) in
      let e : records_before periods t p.opening.period + n + 1 ≡ records_before periods t q.opening.period + k = omega arith in
      let place = next_place periods p q n k kept joined has has_q tenant below below_q
      (subst (λ u. records_before periods u p.opening.period + n + 1 ≡ records_before periods u q.opening.period + k) (sym own) e) in
      put_here books t q.opening.tenant s same ∙ goes q k below_q place follows)
      (λ other.
      put_elsewhere books t q.opening.tenant s other
      ∙ stand.inside q k has_q below_q (sym (more_elsewhere done t q.opening.tenant other) ∙ there));
  behind = λ q has_q last enough. dite (ℕ_discrete q.opening.tenant t)
      (λ same.
      let tenant : q.opening.tenant ≡ p.opening.tenant = same ∙ sym own in
      let now : records_before periods t q.opening.period + length q.records ≤ done t + 1 =
      subst (λ u. records_before periods u q.opening.period + length q.records ≤ done u + 1) same
      (subst (λ m. records_before periods q.opening.tenant q.opening.period + length q.records ≤ m) (more_here done t q.opening.tenant same) enough) in
      put_here books t q.opening.tenant s same ∙ ends q has_q tenant (last p has (sym tenant)) now follows)
      (λ other.
      put_elsewhere books t q.opening.tenant s other
      ∙ stand.behind q has_q last
      (subst (λ m. records_before periods q.opening.tenant q.opening.period + length q.records ≤ m) (more_elsewhere done t q.opening.tenant other) enough));
}
  where
    goes : (q : PeriodParts) (k : ℕ) → k < length q.records → NextPlace p q n k → Follows p n s → s ≡ first_of k (state_at_end q)
    goes q k below_q (inl (same, next)) (inl (more, is)) =
        is ∙ (ap (λ (j : ℕ). first_of j (state_at_end p)) (sym next) ∙ ap (λ (x : PeriodParts). first_of k (state_at_end x)) same)
    goes q k below_q (inl (same, next)) (inr (full, is)) =
        let long : length p.records ≡ length q.records = ap (λ (x : PeriodParts). length x.records) same in absurd (omega arith)
    goes q k below_q (inr (full, first, begins)) (inl (more, is)) = absurd (omega arith)
    goes q k below_q (inr (full, first, begins)) (inr (also, is)) =
        is ∙ (ap opened begins ∙ ap (λ (j : ℕ). first_of j (state_at_end q)) (sym first))

    before_it : (q : PeriodParts) → Contains periods q → p.opening.period < q.opening.period
        → records_before periods t q.opening.period + length q.records ≤ done t + 1 → s ≡ opened q.ending
    before_it q has_q less enough =
        let some = some_records q (is_kept periods q kept has_q) in
        let first : records_before periods t p.opening.period + length p.records ≤ records_before periods t q.opening.period =
        subst (λ u. records_before periods u p.opening.period + length p.records ≤ records_before periods u q.opening.period) own
        (come_before periods p q.opening.period has less) in
        absurd (omega arith)

    ends : (q : PeriodParts) → Contains periods q → q.opening.tenant ≡ p.opening.tenant → p.opening.period ≤ q.opening.period
        → records_before periods t q.opening.period + length q.records ≤ done t + 1 → Follows p n s → s ≡ opened q.ending
    ends q has_q tenant no_later enough (inl (more, is)) = dite (ℕ_discrete p.opening.period q.opening.period)
        (λ alike.
        let one : p ≡ q = same_period periods p q joined has has_q (sym tenant) alike in
        let long : length p.records ≡ length q.records = ap (λ (x : PeriodParts). length x.records) one in
        let there : records_before periods t p.opening.period ≡ records_before periods t q.opening.period = ap (records_before periods t) alike in
        absurd (omega arith))
        (λ apart. before_it q has_q (omega arith) enough)
    ends q has_q tenant no_later enough (inr (full, is)) = dite (ℕ_discrete p.opening.period q.opening.period)
        (λ alike.
        let one : p ≡ q = same_period periods p q joined has has_q (sym tenant) alike in
        is ∙ ap (λ (x : PeriodParts). opened x.ending) one)
        (λ apart. before_it q has_q (omega arith) enough)

-- ---- from openings on

-- what a tenant without periods begins with
abbrev nothing_of : ℕ → Opening
nothing_of t = record no_book.opening { tenant = t }

-- the opening of a period, if there is one
abbrev opening_or : ℕ → Option PeriodParts → Opening
opening_or t None = nothing_of t
opening_or t (Some p) = p.opening

-- the period is the tenant's first
abbrev is_first : ℕ → PeriodParts → Bool
is_first t p = (p.opening.tenant == t) && (p.opening.period == 0)

-- what a tenant begins with
abbrev begins_with : List PeriodParts → ℕ → Opening
begins_with periods t = opening_or t (find (is_first t) periods)

-- of so many tenants from a number on
unfoldable openings_from : List PeriodParts → (tenant count : ℕ) → List Opening
openings_from periods t zero = []
openings_from periods t (suc count) = begins_with periods t ∷ openings_from periods (t + 1) count

-- so many
openings_many : (periods : List PeriodParts) (t count : ℕ) → length (openings_from periods t count) ≡ count
unfolding openings_from
openings_many periods t zero = refl
openings_many periods t (suc count) = ap suc (openings_many periods (t + 1) count)

-- which stand at their numbers
opening_there : (periods : List PeriodParts) (t count k : ℕ) → k < count → slice_get (openings_from periods t count) k ≡ Some (begins_with periods (t + k))
unfolding openings_from
opening_there periods t zero k below = absurd (omega arith)
opening_there periods t (suc count) zero below =
    let same : t ≡ t + 0 = omega arith in
    ap (λ (u : ℕ). Some (begins_with periods u)) same
opening_there periods t (suc count) (suc k) below =
    let same : t + 1 + k ≡ t + suc k = omega arith in
    opening_there periods (t + 1) count k (omega arith) ∙ ap (λ (u : ℕ). Some (begins_with periods u)) same

-- and are their tenants'
found_first : (t : ℕ) (periods : List PeriodParts) → (opening_or t (find (is_first t) periods)).tenant ≡ t
found_first t [] = refl
found_first t (p ∷ ps) = by (is_first t p) refl (found_first t ps)
  where
    by : (b : Bool) → is_first t p ≡ b → (opening_or t (find (is_first t) ps)).tenant ≡ t → (opening_or t (find (is_first t) (p ∷ ps))).tenant ≡ t
    by true e others = rw e (eqb-true _ _ (and_parts (p.opening.tenant == t) (p.opening.period == 0) e).0)
    by false e others = rw e others

not_both : (b : Bool) → b ≡ true → b ≡ false → ⊥
not_both b e f = absurd cc

-- the one element that passes is found
find_one : (t : ℕ) (periods : List PeriodParts) (p : PeriodParts) → Contains periods p → is_first t p ≡ true
    → ((q : PeriodParts) → Contains periods q → is_first t q ≡ true → q ≡ p) → find (is_first t) periods ≡ Some p
find_one t [] p has is once = let below = has.1 in absurd (omega arith)
find_one t (x ∷ xs) p has is once =
    by (is_first t x) refl (λ has_p. find_one t xs p has_p is (λ q has_q. once q (behind q has_q)))
  where
    further : (k : ℕ) → slice_get (x ∷ xs) k ≡ Some p → is_first t x ≡ false → Contains xs p
    further zero at e =
        let same : x ≡ p = one_there (x ∷ xs) 0 x p refl at in
        absurd (not_both (is_first t x) (ap (is_first t) same ∙ is) e)
    further (suc k) at e = is_element xs k p at

    behind : (q : PeriodParts) → Contains xs q → Contains (x ∷ xs) q
    behind q has_q = let at = is_read xs q has_q in is_element (x ∷ xs) (suc at.0) q at.1

    by : (b : Bool) → is_first t x ≡ b → (Contains xs p → find (is_first t) xs ≡ Some p) → find (is_first t) (x ∷ xs) ≡ Some p
    by true e others = rw e (ap Some (once x (is_element (x ∷ xs) 0 x refl) e))
    by false e others = let at = is_read (x ∷ xs) p has in rw e (others (further at.0 at.1 e))

-- the opening of a tenant's first period is what the tenant begins with
first_begins : (periods : List PeriodParts) (p : PeriodParts) → AreJoined periods → Contains periods p → p.opening.period ≡ 0
    → begins_with periods p.opening.tenant ≡ p.opening
first_begins periods p joined has first =
    let t : ℕ = p.opening.tenant in
    let is : is_first t p ≡ true = and_from _ _ (eq-eqb p.opening.tenant t refl) (eq-eqb p.opening.period 0 first) in
    ap (opening_or t) (find_one t periods p has is (λ q has_q e.
    let parts = and_parts (q.opening.tenant == t) (q.opening.period == 0) e in
    same_period periods q p joined has_q has (eqb-true _ _ parts.0) (eqb-true _ _ parts.1 ∙ sym first)))

-- the tenant of a period is one of those
tenant_few : (periods : List PeriodParts) (p : PeriodParts) → AreOfRolls periods → Contains periods p → p.opening.tenant < max_tenants
tenant_few periods p kept has = (is_kept periods p kept has).sound.tenant

-- a tenant's first opening stands at its number
first_opening : (periods : List PeriodParts) (p : PeriodParts) → AreOfRolls periods → AreJoined periods → Contains periods p → p.opening.period ≡ 0
    → slice_get (openings_from periods 0 max_tenants) p.opening.tenant ≡ Some p.opening
first_opening periods p kept joined has first =
    let same : 0 + p.opening.tenant ≡ p.opening.tenant = omega arith in
    opening_there periods 0 max_tenants p.opening.tenant (tenant_few periods p kept has)
    ∙ (ap (λ (u : ℕ). Some (begins_with periods u)) same ∙ ap Some (first_begins periods p joined has first))

-- so does each tenant's
are_placed : (periods : List PeriodParts) → ArePlaced (openings_from periods 0 max_tenants)
are_placed periods t inside =
    let below : t < max_tenants = subst (λ n. t < n) (openings_many periods 0 max_tenants) inside in
    let same : 0 + t ≡ t = omega arith in
    let there : slice_get (openings_from periods 0 max_tenants) t ≡ Some (begins_with periods t) =
    opening_there periods 0 max_tenants t below ∙ ap (λ (u : ℕ). Some (begins_with periods u)) same in
    ap (λ (o : Option Opening). (book_opened o).opening.tenant) there ∙ found_first t periods

-- the books stand at the openings
stand_first : (periods : List PeriodParts) → AreOfRolls periods → AreJoined periods
    → Stand periods (λ t. book_opened (slice_get (openings_from periods 0 max_tenants) t)) none
stand_first periods kept joined = record {
  inside = λ p k has below at. dite (ℕ_discrete p.opening.period 0)
      (λ first.
      let zero_k : k ≡ 0 = omega arith in
      ap book_opened (first_opening periods p kept joined has first) ∙ ap (λ (j : ℕ). first_of j (state_at_end p)) (sym zero_k))
      (λ later.
      let led = led_by_one periods p kept joined has later in
      let some = some_records led.0 (is_kept periods led.0 kept led.1.has) in
      let number = led.1.number in
      let before : records_before periods p.opening.tenant led.0.opening.period + length led.0.records ≤ records_before periods p.opening.tenant p.opening.period =
      subst (λ u. records_before periods u led.0.opening.period + length led.0.records ≤ records_before periods u p.opening.period) led.1.tenant
      (come_before periods led.0 p.opening.period led.1.has (omega arith)) in
      absurd (omega arith));
  behind = λ p has last enough. let some = some_records p (is_kept periods p kept has) in absurd (omega arith);
}

-- ---- along the order

-- the receipts that were taken name records that were made
abbrev HaveMade : List PeriodParts → List (List Receipt) → (taken done : ℕ → ℕ) → Type 0
HaveMade periods lists taken done =
    (i k : ℕ) (r : Receipt) → k < taken i → slice_get (list_at lists i) k ≡ Some r → journal_place periods r < done r.tenant

-- the records are caused, and leave the last periods' endings
record Went (periods : List PeriodParts) (books : ℕ → State) (entries : List Entered) : Type 0 where
  left : ℕ → State
  caused : AreCaused books entries left
  few : All (λ (e : Entered). e.tenant < max_tenants) entries
  last : (p : PeriodParts) → Contains periods p → IsLast periods p → left p.opening.tenant ≡ opened p.ending

-- where all receipts were taken, each book stands as its tenant's last period ended
went_all : (periods : List PeriodParts) (lists : List (List Receipt)) (taken done : ℕ → ℕ) (books : ℕ → State) → AreOfRolls periods → AreMatched periods lists
    → Stand periods books done → HaveMade periods lists taken done → ((i : ℕ) → taken i ≡ length (list_at (points_of periods lists) i)) → Went periods books []
went_all periods lists taken done books kept matched stand made all = record {
  left = books;
  caused = λ t. refl;
  few = All-nil (λ (e : Entered). e.tenant < max_tenants);
  last = λ p has last.
      let some = some_records p (is_kept periods p kept has) in
      let found = matched.all p (length p.records - 1) has (omega arith) in
      let r : Receipt = found.0 in
      let among = found.1 in
      let many : length (list_at (points_of periods lists) among.0) ≡ length (list_at lists among.0) =
      ap length (points_at periods lists among.0) ∙ length-map (list_at lists among.0) (λ x. point x.tenant (journal_place periods x)) in
      let within = slice_get_within (list_at lists among.0) among.1 r among.2 in
      let taken_all = all among.0 in
      let below : records_before periods r.tenant r.period + r.number < done r.tenant = made among.0 among.1 r (omega arith) among.2 in
      let here : records_before periods p.opening.tenant r.period + r.number < done p.opening.tenant =
      subst (λ u. records_before periods u r.period + r.number < done u) (sym found.2.0) below in
      let there : records_before periods p.opening.tenant p.opening.period + r.number < done p.opening.tenant =
      subst (λ m. records_before periods p.opening.tenant m + r.number < done p.opening.tenant) (sym found.2.1) here in
      let number = found.3 in
      stand.behind p has last (omega arith);
}

-- the next receipt of a list names the next record of its tenant, which has a cause
record Takes (periods : List PeriodParts) (lists : List (List Receipt)) (taken done : ℕ → ℕ) (books : ℕ → State) (i group : ℕ) : Type 0 where
  r : Receipt
  tenant : group ≡ r.tenant
  read : slice_get (list_at lists i) (taken i) ≡ Some r
  place : journal_place periods r ≡ done r.tenant
  few : r.tenant < max_tenants
  cause : Cause
  brings : BringsBytes cause
  made : made_from (books r.tenant) cause ≡ Some (shown_record r)
  stand : Stand periods (put books r.tenant (left_from (books r.tenant) cause)) (one_more_at done r.tenant)

takes_one : FrameLaws → (periods : List PeriodParts) (lists : List (List Receipt)) (taken done : ℕ → ℕ) (books : ℕ → State) (i group : ℕ) → AreOfRolls periods
    → AreMatched periods lists → Stand periods books done
    → slice_get (list_at (points_of periods lists) i) (taken i) ≡ Some (point group (done group)) → Takes periods lists taken done books i group
takes_one laws periods lists taken done books i group kept matched stand at =
    let from = point_from (λ r. point r.tenant (journal_place periods r)) (list_at lists i) (taken i) (point group (done group))
    (subst (λ (ps : List ListPoint). slice_get ps (taken i) ≡ Some (point group (done group))) (points_at periods lists i) at) in
    let r : Receipt = from.0 in
    let tenant : r.tenant ≡ group = ap (λ (p : ListPoint). p.group) from.2 in
    let place : journal_place periods r ≡ done r.tenant = ap (λ (p : ListPoint). p.place) from.2 ∙ ap done (sym tenant) in
    let named = matched.right r (i, taken i, from.1) in
    let p : PeriodParts = named.0 in
    let has = named.1 in
    let own : p.opening.tenant ≡ r.tenant = named.2.0 in
    let number : p.opening.period ≡ r.period = named.2.1 in
    let below = slice_get_within p.records r.number (shown_record r) named.3 in
    let explained = record_explained laws p r.number (shown_record r) (is_kept periods p kept has) named.3 in
    let at_r : done r.tenant ≡ records_before periods r.tenant p.opening.period + r.number =
    sym place ∙ ap (λ (m : ℕ). records_before periods r.tenant m + r.number) (sym number) in
    let at_p : done p.opening.tenant ≡ records_before periods p.opening.tenant p.opening.period + r.number =
    subst (λ u. done u ≡ records_before periods u p.opening.period + r.number) (sym own) at_r in
    let book : books r.tenant ≡ first_of r.number (state_at_end p) =
    subst (λ u. books u ≡ first_of r.number (state_at_end p)) own (stand.inside p r.number has below at_p) in
    let s : State = left_from (books r.tenant) explained.cause in
    let follows : Follows p r.number s = subst (λ (b : State). Follows p r.number (left_from b explained.cause)) (sym book) explained.left in
    record {
      r = r;
      tenant = sym tenant;
      read = from.1;
      place = place;
      few = subst (λ u. u < max_tenants) own (tenant_few periods p kept has);
      cause = explained.cause;
      brings = explained.brings;
      made = ap (λ (b : State). made_from b explained.cause) book ∙ explained.made;
      stand = stand_on periods books done r.tenant p r.number s kept matched.joined stand has own below at_r follows;
    }

-- and then that record was made too
made_one : (periods : List PeriodParts) (lists : List (List Receipt)) (taken done : ℕ → ℕ) (i : ℕ) (r : Receipt) → HaveMade periods lists taken done
    → slice_get (list_at lists i) (taken i) ≡ Some r → journal_place periods r ≡ done r.tenant → HaveMade periods lists (one_more_at taken i) (one_more_at done r.tenant)
made_one periods lists taken done i r made read place j k q below at = dite (ℕ_discrete j i)
    (λ same.
    let now : k < taken j + 1 = subst (λ m. k < m) (more_here taken i j same) below in
    dite (ℕ_discrete k (taken j))
    (λ last.
    let here : slice_get (list_at lists i) (taken i) ≡ Some q = subst (λ u. slice_get (list_at lists u) (taken u) ≡ Some q) same
    (subst (λ m. slice_get (list_at lists j) m ≡ Some q) last at) in
    let one : r ≡ q = one_there (list_at lists i) (taken i) r q read here in
    let counts = more_here done r.tenant r.tenant refl in
    subst (λ (x : Receipt). journal_place periods x < one_more_at done r.tenant x.tenant) one (omega arith))
    (λ before. raised q (made j k q (omega arith) at)))
    (λ other. raised q (made j k q (subst (λ m. k < m) (more_elsewhere taken i j other) below) at))
  where
    raised : (q : Receipt) → journal_place periods q < done q.tenant → journal_place periods q < one_more_at done r.tenant q.tenant
    raised q less = dite (ℕ_discrete q.tenant r.tenant)
        (λ same. let more = more_here done r.tenant q.tenant same in omega arith)
        (λ other. subst (λ m. journal_place periods q < m) (sym (more_elsewhere done r.tenant q.tenant other)) less)

-- the receipts that are left are caused, one after another
goes_on : FrameLaws → (periods : List PeriodParts) (lists : List (List Receipt)) (order : List ℕ) (taken done : ℕ → ℕ) (books : ℕ → State) → AreOfRolls periods
    → AreMatched periods lists → Stand periods books done → HaveMade periods lists taken done → TakesOn (points_of periods lists) taken done order
    → Went periods books (map entered_in (taken_in lists taken order))
goes_on laws periods lists [] taken done books kept matched stand made takes = went_all periods lists taken done books kept matched stand made takes
goes_on laws periods lists (i ∷ order) taken done books kept matched stand made (group, at, rest) =
    let one = takes_one laws periods lists taken done books i group kept matched stand at in
    let r : Receipt = one.r in
    let s : State = left_from (books r.tenant) one.cause in
    let more = goes_on laws periods lists order (one_more_at taken i) (one_more_at done r.tenant) (put books r.tenant s) kept matched one.stand
    (made_one periods lists taken done i r made one.read one.place)
    (subst (λ u. TakesOn (points_of periods lists) (one_more_at taken i) (one_more_at done u) order) one.tenant rest) in
    let entries : List Entered = entered_in r ∷ map entered_in (taken_in lists (one_more_at taken i) order) in
    let whole : Went periods books entries = record {
      left = more.left;
      caused = (one.cause, one.brings, one.made, more.caused);
      few = All-cons (λ (e : Entered). e.tenant < max_tenants) (entered_in r) (map entered_in (taken_in lists (one_more_at taken i) order)) one.few more.few;
      last = more.last;
    } in
    subst (λ (o : Option Receipt). Went periods books (map entered_in (led_by o (taken_in lists (one_more_at taken i) order)))) (sym one.read) whole

-- ---- the law

-- what is caused is a run
abbrev pub RunLaw : Type 0
RunLaw = (openings : List Opening) (entries : List Entered) (left : ℕ → State)
    → ArePlaced openings → All (λ e. e.tenant < length openings) entries
    → AreCaused (λ t. book_opened (slice_get openings t)) entries left → AreRun openings entries left

pub complete_are_run : FrameLaws → RunLaw → (periods : List PeriodParts) (lists : List (List Receipt)) (order : List ℕ) → AreOfRolls periods
    → IsComplete periods lists order → AreOfRun periods lists order
complete_are_run laws runs periods lists order kept complete =
    let joined = complete.matched.joined in
    let openings : List Opening = openings_from periods 0 max_tenants in
    let went = goes_on laws periods lists order none none (λ t. book_opened (slice_get openings t)) kept complete.matched
    (stand_first periods kept joined) (λ i k r below at. absurd (omega arith)) complete.takes in
    record {
      openings = openings;
      left = went.left;
      first = λ p has first. first_opening periods p kept joined has first;
      last = went.last;
      run = runs openings (map entered_in (in_order lists order)) went.left (are_placed periods)
          (subst (λ n. All (λ (e : Entered). e.tenant < n) (map entered_in (in_order lists order))) (sym (openings_many periods 0 max_tenants)) went.few) went.caused;
    }
