-- What is handed out is complete: the receipts of an audited run beside the periods that it closed.
use Rattle.std.proofs.Common.{◌≡◌, ◌≢◌, ◌+◌, ◌<◌, ◌≤◌, ◌⊎◌, ◌==◌, ℕ, zero, suc, cond, Bool, true, false, List, [], ◌∷◌, ◌++◌, length, map, take, get_or, Option, Some, None, slice_get, refl, sym, ap, subst, ◌∙◌, arith, inl, inr, eq-eqb, ne_eqb}
use Rattle.std.specs.Prelude.{All, Contains, is_some, option_map, ◌&&◌, nat_lt, nat_le, if◌then◌else◌, filter, sum_by, unwrap_or, max, slice_index_or}
use Rattle.std.specs.List.{filter_map}
use Rattle.std.specs.List.Sorted.{IsPermutation}
use Rattle.std.proofs.lemmas.Bool.{eqb-true}
use Rattle.std.proofs.lemmas.Bool.Decides.{eqb_tells, nat_tests}
use Rattle.std.proofs.lemmas.List.{length-map, length_push, take_all}
use Rattle.std.proofs.lemmas.List.Elements.{All-contains, All-head, All-tail, Contains-append_cases, Contains-append_left, Contains-append_right}
use Rattle.std.proofs.lemmas.List.Filters.{length-filter_more}
use Rattle.std.proofs.lemmas.List.Sorted.{Contains-permutation, IsPermutation-sym, sum_by-IsPermutation}
use Rattle.std.proofs.lemmas.List.Sums.{sum_by-append, sum_by-cons}
use Rattle.std.proofs.lemmas.Option.{get_or_from_slice_get, slice_get_past, slice_get_within}
use mathlib.Core.Logic.{dite}
use native.Mathlib.Decide.{ℕ_discrete, dec_lt}
use Rattle.ilp_addr.specs.Timestamp.{last_moment}
use Rattle.tenant_core.specs.Periods.{closed, next_opening, roll_record, roll_refusal}
use Rattle.tenant_core.specs.Replay.{outcome_of}
use Rattle.tenant_core.specs.State.{State, clock_of, opened, opening_of, recorded}
use Rattle.tenant_core.specs.declared.journal.Entry.{Entry}
use Rattle.tenant_core.specs.declared.journal.Entry.TheVariants.{Decide, Answer, Tick, Change, Roll}
use Rattle.tenant_core.specs.declared.journal.Outcome.{Outcome}
use Rattle.tenant_core.specs.declared.journal.Outcome.TheVariants.{Rolled}
use Rattle.tenant_core.specs.declared.journal.Record.{Record}
use Rattle.tenant_core.specs.declared.opening.Opening.{Opening}
use Rattle.tenant_core.specs.declared.period.PeriodParts.{PeriodParts}
use Rattle.tenant_core.specs.declared.terms.TenantTerms.{TenantTerms}
use Rattle.floor_core.specs.World.{no_book}
use Rattle.one_list.specs.History.{IsNextStep, LeadTo, after_record}
use Rattle.one_list.specs.Steps.{of_tenant, of_worker}
use Rattle.one_list.specs.declared.step.Done.{Done}
use Rattle.one_list.specs.declared.step.Size.{Size}
use Rattle.joint_order.specs.Orders.{TakesOn, list_at, none, one_more_at, point}
use Rattle.joint_order.specs.declared.point.ListPoint.{ListPoint}
use Rattle.receipts.specs.Audits.{AreJoined, AreMatched, IsAmong, IsComplete, IsNumbered, NameOne, NamesRecord, journal_place, points_of, shown_record, records_before}
use Rattle.receipts.specs.declared.receipt.Receipt.{Receipt}
use Rattle.books_shared.specs.Complete.{AreClosedIn, AreSharesFrom, AreReceiptsOf, AreRolled, closed_at, periods_closed_by, closed_from}
use Rattle.books_shared.specs.Gathers.{shares_of}
use Rattle.books_shared.specs.Shares.{ShareView, receipt_told, receipts_in, receipts_told}
use Rattle.books_shared.specs.Traced.{AreInOrder, IsLedTo, IsListOf, book_among, openings_of}
use Rattle.books_shared.proofs.Counted.{all_there}
use Rattle.books_shared.proofs.Elements.{adds, is_element, is_read, one_there, point_at, point_from, points_at, read_there}
use Rattle.books_shared.proofs.Tracing.{opening_from}

-- ---- the elements of a list that pass a test

nothing : {A : Type 0} (k : ℕ) (x : A) → slice_get [] k ≡ Some x → ⊥
nothing {A = A} k x at = let below = slice_get_within [] k x at in absurd (omega arith)

-- how many of a list's first elements pass
abbrev seen : (Done → Bool) → List Done → ℕ → ℕ
seen f log n = length (filter f (take n log))

passes_first : (f : Done → Bool) (x : Done) (xs : List Done) → f x ≡ true → filter f (x ∷ xs) ≡ x ∷ filter f xs
passes_first f x xs e = ap (λ (b : Bool). cond b (x ∷ filter f xs) (filter f xs)) e

fails_first : (f : Done → Bool) (x : Done) (xs : List Done) → f x ≡ false → filter f (x ∷ xs) ≡ filter f xs
fails_first f x xs e = ap (λ (b : Bool). cond b (x ∷ filter f xs) (filter f xs)) e

-- it stands in the list, behind so many others that pass
record IsSeen (f : Done → Bool) (log : List Done) (k : ℕ) (e : Done) : Type 0 where
  at : ℕ
  there : slice_get log at ≡ Some e
  passes : f e ≡ true
  before : seen f log at ≡ k

seen_first : (f : Done → Bool) (x : Done) (xs : List Done) (e : Done) → ((j : ℕ) → slice_get (filter f xs) j ≡ Some e → IsSeen f xs j e)
    → (b : Bool) → f x ≡ b → (k : ℕ) → slice_get (filter f (x ∷ xs)) k ≡ Some e → IsSeen f (x ∷ xs) k e
seen_first f x xs e others true is zero at =
    let same : x ≡ e = one_there (x ∷ filter f xs) 0 x e refl (subst (λ (l : List Done). slice_get l 0 ≡ Some e) (passes_first f x xs is) at) in
    record { at = 0; there = ap (λ (d : Done). Some d) same; passes = ap f (sym same) ∙ is; before = refl }
seen_first f x xs e others true is (suc j) at =
    let later = others j (subst (λ (l : List Done). slice_get l (suc j) ≡ Some e) (passes_first f x xs is) at) in
    record {
      at = suc later.at;
      there = later.there;
      passes = later.passes;
      before = ap length (passes_first f x (take later.at xs) is) ∙ ap suc later.before;
    }
seen_first f x xs e others false is k at =
    let later = others k (subst (λ (l : List Done). slice_get l k ≡ Some e) (fails_first f x xs is) at) in
    record {
      at = suc later.at;
      there = later.there;
      passes = later.passes;
      before = ap length (fails_first f x (take later.at xs) is) ∙ later.before;
    }

from_kept : (f : Done → Bool) (log : List Done) (k : ℕ) (e : Done) → slice_get (filter f log) k ≡ Some e → IsSeen f log k e
from_kept f [] k e at = absurd (nothing k e at)
from_kept f (x ∷ xs) k e at = seen_first f x xs e (λ j there. from_kept f xs j e there) (f x) refl k at

to_later : (f : Done → Bool) (x : Done) (xs : List Done) (m : ℕ) (e : Done) (b : Bool) → f x ≡ b → slice_get (filter f xs) (seen f xs m) ≡ Some e
    → slice_get (filter f (x ∷ xs)) (seen f (x ∷ xs) (suc m)) ≡ Some e
to_later f x xs m e true is rest =
    subst (λ (l : List Done). slice_get l (seen f (x ∷ xs) (suc m)) ≡ Some e) (sym (passes_first f x xs is))
    (subst (λ (k : ℕ). slice_get (x ∷ filter f xs) k ≡ Some e) (sym (ap length (passes_first f x (take m xs) is))) rest)
to_later f x xs m e false is rest =
    subst (λ (l : List Done). slice_get l (seen f (x ∷ xs) (suc m)) ≡ Some e) (sym (fails_first f x xs is))
    (subst (λ (k : ℕ). slice_get (filter f xs) k ≡ Some e) (sym (ap length (fails_first f x (take m xs) is))) rest)

to_kept : (f : Done → Bool) (log : List Done) (m : ℕ) (e : Done) → slice_get log m ≡ Some e → f e ≡ true → slice_get (filter f log) (seen f log m) ≡ Some e
to_kept f [] m e at passes = absurd (nothing m e at)
to_kept f (x ∷ xs) zero e at passes =
    let same : x ≡ e = one_there (x ∷ xs) 0 x e refl at in
    subst (λ (l : List Done). slice_get l 0 ≡ Some e) (sym (passes_first f x xs (ap f same ∙ passes))) (ap (λ (d : Done). Some d) same)
to_kept f (x ∷ xs) (suc m) e at passes = to_later f x xs m e (f x) refl (to_kept f xs m e at passes)

more_later : (f : Done → Bool) (x : Done) (xs : List Done) (m n : ℕ) (b : Bool) → f x ≡ b → seen f xs m < seen f xs n
    → seen f (x ∷ xs) (suc m) < seen f (x ∷ xs) (suc n)
more_later f x xs m n true is less =
    let low : seen f (x ∷ xs) (suc m) ≡ suc (seen f xs m) = ap length (passes_first f x (take m xs) is) in
    let high : seen f (x ∷ xs) (suc n) ≡ suc (seen f xs n) = ap length (passes_first f x (take n xs) is) in
    omega arith
more_later f x xs m n false is less =
    let low : seen f (x ∷ xs) (suc m) ≡ seen f xs m = ap length (fails_first f x (take m xs) is) in
    let high : seen f (x ∷ xs) (suc n) ≡ seen f xs n = ap length (fails_first f x (take n xs) is) in
    omega arith

seen_more : (f : Done → Bool) (log : List Done) (m : ℕ) (e : Done) → slice_get log m ≡ Some e → f e ≡ true → (n : ℕ) → m < n → seen f log m < seen f log n
seen_more f [] m e at passes n less = absurd (nothing m e at)
seen_more f (x ∷ xs) m e at passes zero less = absurd (omega arith)
seen_more f (x ∷ xs) zero e at passes (suc n) less =
    let same : x ≡ e = one_there (x ∷ xs) 0 x e refl at in
    let high : seen f (x ∷ xs) (suc n) ≡ suc (seen f xs n) = ap length (passes_first f x (take n xs) (ap f same ∙ passes)) in
    omega arith
seen_more f (x ∷ xs) (suc m) e at passes (suc n) less = more_later f x xs m n (f x) refl (seen_more f xs m e at passes n (omega arith))

-- two that pass, behind as many others, are one
one_place : (f : Done → Bool) (log : List Done) (m n : ℕ) (e d : Done) → slice_get log m ≡ Some e → slice_get log n ≡ Some d → f e ≡ true → f d ≡ true
    → seen f log m ≡ seen f log n → m ≡ n
one_place f log m n e d at_m at_n pass_e pass_d same = dite (dec_lt m n)
    (λ less. let more = seen_more f log m e at_m pass_e n less in absurd (omega arith))
    (λ not_less. dite (dec_lt n m)
    (λ less. let more = seen_more f log n d at_n pass_d m less in absurd (omega arith))
    (λ not_more. omega arith))

none_pass : (f : Done → Bool) (log : List Done) → ((m : ℕ) (e : Done) → slice_get log m ≡ Some e → f e ≡ false) → filter f log ≡ []
none_pass f [] fails = refl
none_pass f (x ∷ xs) fails = fails_first f x xs (fails 0 x refl) ∙ none_pass f xs (λ m e at. fails (suc m) e at)

-- ---- what an entry adds to a book

push_there : {A : Type 0} (xs : List A) (k : ℕ) (x y : A) → slice_get xs k ≡ Some x → slice_get (xs ++ y ∷ []) k ≡ Some x
push_there {A = A} [] k x y at = absurd (nothing k x at)
push_there {A = A} (z ∷ zs) zero x y at = at
push_there {A = A} (z ∷ zs) (suc k) x y at = push_there zs k x y at

last_there : {A : Type 0} (xs : List A) (k : ℕ) (y : A) → k ≡ length xs → slice_get (xs ++ y ∷ []) k ≡ Some y
last_there {A = A} [] zero y e = refl
last_there {A = A} [] (suc k) y e = absurd (omega arith)
last_there {A = A} (z ∷ zs) zero y e = absurd (omega arith)
last_there {A = A} (z ∷ zs) (suc k) y e = last_there zs k y (omega arith)

-- a record that closes no period
record IsPlain (s : State) (r : Record) : Type 0 where
  none : closed_at r.entry s ≡ []
  goes : after_record s r ≡ recorded s (Some r)

-- a roll's
record IsRoll (s : State) (r : Record) : Type 0 where
  now : ℕ
  closes : closed_at r.entry s ≡ closed s now ∷ []
  goes : after_record s r ≡ opened (next_opening s (max (clock_of s) now))
  made : r ≡ roll_record now

rolled_so : (a b : Bool) (o : Outcome) → (if a then (if b then None else Some Rolled) else None) ≡ Some o → Rolled ≡ o
rolled_so true true o e = absurd cc
rolled_so true false o e = cc
rolled_so false b o e = absurd cc

record_cases : (s : State) (x : Entry) (o : Outcome) → outcome_of s x ≡ Some o
    → IsPlain s (record { entry = x; outcome = o }) ⊎ IsRoll s (record { entry = x; outcome = o })
record_cases s (Decide d) o e = inl (record { none = refl; goes = refl })
record_cases s (Answer a) o e = inl (record { none = refl; goes = refl })
record_cases s (Tick t) o e = inl (record { none = refl; goes = refl })
record_cases s (Change c) o e = inl (record { none = refl; goes = refl })
record_cases s (Roll x) o e =
    let is : Rolled ≡ o = rolled_so (nat_le x.now last_moment) (is_some (roll_refusal s)) o e in
    inr (record { now = x.now; closes = refl; goes = refl; made = ap (λ (v : Outcome). record { entry = Roll x; outcome = v }) (sym is) })

-- ---- the periods that a tenant's steps closed

both_false : (a b : Bool) (n : ℕ) → b ≡ false → (if a && b then n else 0) ≡ 0
both_false true true n e = absurd cc
both_false true false n e = refl
both_false false b n e = refl

-- a period of that number, or of a later one, has no entries before it
adds_nothing : (t n : ℕ) (p : PeriodParts) → n ≤ p.opening.period → adds t n p ≡ 0
adds_nothing t n p most =
    let test : nat_lt p.opening.period n ≡ false = grind (arith, nat_tests) in
    both_false (p.opening.tenant == t) (nat_lt p.opening.period n) (length p.records) test

adds_whole : (t n : ℕ) (p : PeriodParts) → p.opening.tenant ≡ t → p.opening.period < n → adds t n p ≡ length p.records
adds_whole t n p tenant less =
    let same : (p.opening.tenant == t) ≡ true = eq-eqb p.opening.tenant t tenant in
    let test : nat_lt p.opening.period n ≡ true = grind (arith, nat_tests) in
    ap (λ (b : Bool). if b && nat_lt p.opening.period n then length p.records else 0) same
    ∙ ap (λ (b : Bool). if true && b then length p.records else 0) test

no_sum : {A : Type 0} (f : A → ℕ) (xs : List A) → ((k : ℕ) (x : A) → slice_get xs k ≡ Some x → f x ≡ 0) → sum_by f xs ≡ 0
no_sum {A = A} f [] none = refl
no_sum {A = A} f (x ∷ xs) none =
    let here : f x ≡ 0 = none 0 x refl in
    let others = no_sum f xs (λ k y at. none (suc k) y at) in
    omega (arith, sum_by-cons f x xs)

-- a step's record stands in a period of its number, at its number
record IsPlaced (ps : List PeriodParts) (e : Done) : Type 0 where
  k : ℕ
  p : PeriodParts
  at : slice_get ps k ≡ Some p
  period : p.opening.period ≡ e.period
  made : slice_get p.records e.number ≡ Some e.made

-- a record of a period is that of a step
record IsStepOf (steps : List Done) (p : PeriodParts) (n : ℕ) : Type 0 where
  i : ℕ
  e : Done
  at : slice_get steps i ≡ Some e
  period : e.period ≡ p.opening.period
  number : e.number ≡ n

-- the periods that steps of a tenant closed, from a state on, where all is closed in the end
record Told (t : ℕ) (s : State) (steps : List Done) (ps : List PeriodParts) : Type 0 where
  numbered : (k : ℕ) (p : PeriodParts) → slice_get ps k ≡ Some p → IsNumbered t (s.opening.period + k) p
  begins : (p : PeriodParts) → slice_get ps 0 ≡ Some p → p.opening ≡ s.opening
  joined : (k : ℕ) (p q : PeriodParts) → slice_get ps k ≡ Some p → slice_get ps (suc k) ≡ Some q → p.ending ≡ q.opening
  first : 0 < length s.records → (p : PeriodParts) × (slice_get ps 0 ≡ Some p)
  keeps : (p : PeriodParts) (k : ℕ) (x : Record) → slice_get ps 0 ≡ Some p → slice_get s.records k ≡ Some x → slice_get p.records k ≡ Some x
  placed : (i : ℕ) (e : Done) → slice_get steps i ≡ Some e → IsPlaced ps e
  place : (i : ℕ) (e : Done) → slice_get steps i ≡ Some e → records_before ps t e.period + e.number ≡ i + length s.records
  all : (k n : ℕ) (p : PeriodParts) → slice_get ps k ≡ Some p → n < length p.records
      → ((k ≡ 0) × (n < length s.records)) ⊎ IsStepOf steps p n

-- no step
told_none : (t : ℕ) (s : State) → s.records ≡ [] → Told t s [] []
told_none t s rolled = record {
  numbered = λ k p at. absurd (nothing k p at);
  begins = λ p at. absurd (nothing 0 p at);
  joined = λ k p q at there. absurd (nothing k p at);
  first = λ some. let none : length s.records ≡ 0 = ap length rolled in absurd (omega arith);
  keeps = λ p k x at kept. absurd (nothing 0 p at);
  placed = λ i e at. absurd (nothing i e at);
  place = λ i e at. absurd (nothing i e at);
  all = λ k n p at below. absurd (nothing k p at);
}

-- a step that closes none comes before
told_plain : (t : ℕ) (s : State) (e : Done) (es : List Done) (ps : List PeriodParts) → IsNextStep s e → Told t (recorded s (Some e.made)) es ps
    → Told t s (e ∷ es) ps
told_plain t s e es ps step rest = record {
  numbered = rest.numbered;
  begins = rest.begins;
  joined = rest.joined;
  first = λ some. rest.first (omega (arith, length_push s.records e.made));
  keeps = λ p k x at kept. rest.keeps p k x at (push_there s.records k x e.made kept);
  placed = placed;
  place = place;
  all = all;
}
  where
    many : length (s.records ++ e.made ∷ []) ≡ length s.records + 1
    many = length_push s.records e.made

    here : IsPlaced ps e
    here =
        let has = rest.first (omega (arith, many)) in
        let numbers = (rest.numbered 0 has.0 has.1).1 in
        let period = step.period in
        record {
          k = 0;
          p = has.0;
          at = has.1;
          period = omega arith;
          made = rest.keeps has.0 e.number e.made has.1 (last_there s.records e.number e.made step.number);
        }

    placed : (i : ℕ) (d : Done) → slice_get (e ∷ es) i ≡ Some d → IsPlaced ps d
    placed zero d at = subst (λ (x : Done). IsPlaced ps x) (one_there (e ∷ es) 0 e d refl at) here
    placed (suc i) d at = rest.placed i d at

    first_place : records_before ps t e.period + e.number ≡ length s.records
    first_place =
        let none : records_before ps t e.period ≡ 0 = no_sum (adds t e.period) ps (λ k p at.
        let numbers = (rest.numbered k p at).1 in
        let period = step.period in
        adds_nothing t e.period p (omega arith)) in
        let number = step.number in
        omega arith

    place : (i : ℕ) (d : Done) → slice_get (e ∷ es) i ≡ Some d → records_before ps t d.period + d.number ≡ i + length s.records
    place zero d at =
        let zero_more : 0 + length s.records ≡ length s.records = omega arith in
        subst (λ (x : Done). records_before ps t x.period + x.number ≡ 0 + length s.records) (one_there (e ∷ es) 0 e d refl at) (first_place ∙ sym zero_more)
    place (suc i) d at = let later = rest.place i d at in omega (arith, many)

    all : (k n : ℕ) (p : PeriodParts) → slice_get ps k ≡ Some p → n < length p.records
        → ((k ≡ 0) × (n < length s.records)) ⊎ IsStepOf (e ∷ es) p n
    all k n p at below = elim (rest.all k n p at below) [
      | inl kept ↦ dite (dec_lt n (length s.records))
          (λ less. inl (kept.0, less))
          (λ not_less.
          let number = step.number in
          let period = step.period in
          let first = kept.0 in
          let within : n < length s.records + 1 = subst (λ m. n < m) many kept.1 in
          let numbers = (rest.numbered k p at).1 in
          inr (record { i = 0; e = e; at = refl; period = omega arith; number = omega arith }))
      | inr is ↦ inr (record { i = suc is.i; e = is.e; at = is.at; period = is.period; number = is.number })
    ]

-- a roll comes before
told_roll : (t : ℕ) (s : State) (e : Done) (es : List Done) (ps : List PeriodParts) (now : ℕ) → s.opening.tenant ≡ t → IsNextStep s e → e.made ≡ roll_record now
    → Told t (opened (next_opening s (max (clock_of s) now))) es ps → Told t s (e ∷ es) (closed s now ∷ ps)
told_roll t s e es ps now tenant step is_roll rest = record {
  numbered = numbered;
  begins = λ p at. ap (λ (q : PeriodParts). q.opening) (sym (one_there (closed s now ∷ ps) 0 (closed s now) p refl at));
  joined = joined;
  first = λ some. (closed s now, refl);
  keeps = λ p k x at kept. subst (λ (q : PeriodParts). slice_get q.records k ≡ Some x) (one_there (closed s now ∷ ps) 0 (closed s now) p refl at)
      (push_there s.records k x (roll_record now) kept);
  placed = placed;
  place = place;
  all = all;
}
  where
    numbered : (k : ℕ) (p : PeriodParts) → slice_get (closed s now ∷ ps) k ≡ Some p → IsNumbered t (s.opening.period + k) p
    numbered zero p at =
        subst (λ (q : PeriodParts). IsNumbered t (s.opening.period + 0) q) (one_there (closed s now ∷ ps) 0 (closed s now) p refl at) (tenant, omega arith)
    numbered (suc k) p at = let later = rest.numbered k p at in let period = later.1 in (later.0, omega arith)

    joined : (k : ℕ) (p q : PeriodParts) → slice_get (closed s now ∷ ps) k ≡ Some p → slice_get (closed s now ∷ ps) (suc k) ≡ Some q → p.ending ≡ q.opening
    joined zero p q at there =
        ap (λ (x : PeriodParts). x.ending) (sym (one_there (closed s now ∷ ps) 0 (closed s now) p refl at)) ∙ sym (rest.begins q there)
    joined (suc k) p q at there = rest.joined k p q at there

    many : length (s.records ++ roll_record now ∷ []) ≡ length s.records + 1
    many = length_push s.records (roll_record now)

    here : IsPlaced (closed s now ∷ ps) e
    here = record {
      k = 0;
      p = closed s now;
      at = refl;
      period = sym step.period;
      made = last_there s.records e.number (roll_record now) step.number ∙ ap (λ (r : Record). Some r) (sym is_roll);
    }

    placed : (i : ℕ) (d : Done) → slice_get (e ∷ es) i ≡ Some d → IsPlaced (closed s now ∷ ps) d
    placed zero d at = subst (λ (x : Done). IsPlaced (closed s now ∷ ps) x) (one_there (e ∷ es) 0 e d refl at) here
    placed (suc i) d at =
        let later = rest.placed i d at in
        record { k = suc later.k; p = later.p; at = later.at; period = later.period; made = later.made }

    first_place : records_before (closed s now ∷ ps) t e.period + e.number ≡ length s.records
    first_place =
        let none : records_before (closed s now ∷ ps) t e.period ≡ 0 = no_sum (adds t e.period) (closed s now ∷ ps) (λ k p at.
        let numbers = (numbered k p at).1 in
        let period = step.period in
        adds_nothing t e.period p (omega arith)) in
        let number = step.number in
        omega arith

    place : (i : ℕ) (d : Done) → slice_get (e ∷ es) i ≡ Some d → records_before (closed s now ∷ ps) t d.period + d.number ≡ i + length s.records
    place zero d at =
        let zero_more : 0 + length s.records ≡ length s.records = omega arith in
        subst (λ (x : Done). records_before (closed s now ∷ ps) t x.period + x.number ≡ 0 + length s.records) (one_there (e ∷ es) 0 e d refl at)
        (first_place ∙ sym zero_more)
    place (suc i) d at =
        let later : records_before ps t d.period + d.number ≡ i + 0 = rest.place i d at in
        let stands = rest.placed i d at in
        let numbers = (rest.numbered stands.k stands.p stands.at).1 in
        let period = stands.period in
        let whole : adds t d.period (closed s now) ≡ length (s.records ++ roll_record now ∷ []) = adds_whole t d.period (closed s now) tenant (omega arith) in
        let sum : records_before (closed s now ∷ ps) t d.period ≡ adds t d.period (closed s now) + records_before ps t d.period =
        sum_by-cons (adds t d.period) (closed s now) ps in
        omega (arith, many, sum, whole, later)

    last_of_all : (n : ℕ) → n < length s.records + 1 → ((◌≡◌ {A = ℕ} 0 0) × (n < length s.records)) ⊎ IsStepOf (e ∷ es) (closed s now) n
    last_of_all n within = dite (dec_lt n (length s.records))
        (λ less. inl (refl, less))
        (λ not_less.
        let number = step.number in
        inr (record { i = 0; e = e; at = refl; period = step.period; number = omega arith }))

    all : (k n : ℕ) (p : PeriodParts) → slice_get (closed s now ∷ ps) k ≡ Some p → n < length p.records
        → ((k ≡ 0) × (n < length s.records)) ⊎ IsStepOf (e ∷ es) p n
    all zero n p at below =
        let same : p ≡ closed s now = one_there (closed s now ∷ ps) 0 p (closed s now) at refl in
        let within : n < length (s.records ++ roll_record now ∷ []) = subst (λ (q : PeriodParts). n < length q.records) same below in
        subst (λ (q : PeriodParts). ((◌≡◌ {A = ℕ} 0 0) × (n < length s.records)) ⊎ IsStepOf (e ∷ es) q n) (sym same)
        (last_of_all n (subst (λ m. n < m) many within))
    all (suc k) n p at below = elim (rest.all k n p at below) [
      | inl kept ↦ let none : n < 0 = kept.1 in absurd (omega arith)
      | inr is ↦ inr (record { i = suc is.i; e = is.e; at = is.at; period = is.period; number = is.number })
    ]

-- the periods that a tenant's steps closed
told : (t : ℕ) (s u : State) (steps : List Done) → s.opening.tenant ≡ t → u.records ≡ [] → LeadTo s steps u → Told t s steps (periods_closed_by s steps)
told t s u [] tenant rolled led = told_none t s (ap (λ (z : State). z.records) led ∙ rolled)
told t s u (e ∷ es) tenant rolled led =
    let r : Record = e.made in
    let others : (after_record s r).opening.tenant ≡ t → Told t (after_record s r) es (periods_closed_by (after_record s r) es) =
    λ own. told t (after_record s r) u es own rolled led.1 in
    let later : List PeriodParts = periods_closed_by (after_record s r) es in
    elim (record_cases s r.entry r.outcome led.0.made) [
      | inl plain ↦
          let rest : Told t (recorded s (Some r)) es later =
          subst (λ (z : State). Told t z es later) plain.goes (others (ap (λ (z : State). z.opening.tenant) plain.goes ∙ tenant)) in
          subst (λ (l : List PeriodParts). Told t s (e ∷ es) (l ++ later)) (sym plain.none) (told_plain t s e es later led.0 rest)
      | inr roll ↦
          let rest : Told t (opened (next_opening s (max (clock_of s) roll.now))) es later =
          subst (λ (z : State). Told t z es later) roll.goes (others (ap (λ (z : State). z.opening.tenant) roll.goes ∙ tenant)) in
          subst (λ (l : List PeriodParts). Told t s (e ∷ es) (l ++ later)) (sym roll.closes)
          (told_roll t s e es later roll.now tenant led.0 roll.made rest)
    ]

-- ---- the periods of all tenants in a row

-- those of one tenant
abbrev own : List Done → ℕ → Opening → List PeriodParts
own log t o = periods_closed_by (opened o) (of_tenant t log)

-- what a tenant's steps closed, where its first opening is that
abbrev IsOwn : List Done → ℕ → Opening → Type 0
IsOwn log t o = Told t (opened o) (of_tenant t log) (own log t o)

-- so of all tenants from a number on
abbrev Each : List Done → ℕ → List Opening → Type 0
Each log from openings = (t : ℕ) (o : Opening) → slice_get openings t ≡ Some o → IsOwn log (from + t) o

each_first : (log : List Done) (from : ℕ) (o : Opening) (os : List Opening) → Each log from (o ∷ os) → IsOwn log from o
each_first log from o os each =
    let same : from + 0 ≡ from = omega arith in
    subst (λ u. IsOwn log u o) same (each 0 o refl)

each_behind : (log : List Done) (from : ℕ) (o : Opening) (os : List Opening) → Each log from (o ∷ os) → Each log (from + 1) os
each_behind log from o os each t q at =
    let same : from + suc t ≡ (from + 1) + t = omega arith in
    subst (λ u. IsOwn log u q) same (each (suc t) q at)

-- a number that only periods of one tenant have
abbrev IsOf : ℕ → (PeriodParts → ℕ) → Type 0
IsOf tenant f = (p : PeriodParts) → p.opening.tenant ≢ tenant → f p ≡ 0

other_none : (log : List Done) (f : PeriodParts → ℕ) (tenant t : ℕ) (o : Opening) → IsOf tenant f → t ≢ tenant → IsOwn log t o → sum_by f (own log t o) ≡ 0
other_none log f tenant t o only other is = no_sum f (own log t o) (λ k p at. only p (λ same. other (sym (is.numbered k p at).0 ∙ same)))

row_none : (log : List Done) (f : PeriodParts → ℕ) (tenant from : ℕ) (os : List Opening) → IsOf tenant f → tenant < from → Each log from os
    → sum_by f (closed_from from os log) ≡ 0
row_none log f tenant from [] only less each = refl
row_none log f tenant from (o ∷ os) only less each =
    let here : sum_by f (own log from o) ≡ 0 = other_none log f tenant from o only (λ e. absurd (omega arith)) (each_first log from o os each) in
    let others : sum_by f (closed_from (from + 1) os log) ≡ 0 = row_none log f tenant (from + 1) os only (omega arith) (each_behind log from o os each) in
    omega (arith, sum_by-append f (own log from o) (closed_from (from + 1) os log))

-- it adds up over all periods to what it does over the tenant's
row_sum : (log : List Done) (f : PeriodParts → ℕ) (tenant from : ℕ) (os : List Opening) (t : ℕ) (o : Opening) → IsOf tenant f → Each log from os
    → from + t ≡ tenant → slice_get os t ≡ Some o → sum_by f (closed_from from os log) ≡ sum_by f (own log tenant o)
row_sum log f tenant from [] t o only each is at = absurd (nothing t o at)
row_sum log f tenant from (q ∷ os) zero o only each is at =
    let same : q ≡ o = one_there (q ∷ os) 0 q o refl at in
    let first : from ≡ tenant = omega arith in
    let others : sum_by f (closed_from (from + 1) os log) ≡ 0 = row_none log f tenant (from + 1) os only (omega arith) (each_behind log from q os each) in
    let here : sum_by f (own log from q) ≡ sum_by f (own log tenant o) =
    ap (λ (u : ℕ). sum_by f (own log u q)) first ∙ ap (λ (z : Opening). sum_by f (own log tenant z)) same in
    omega (arith, sum_by-append f (own log from q) (closed_from (from + 1) os log))
row_sum log f tenant from (q ∷ os) (suc t) o only each is at =
    let here : sum_by f (own log from q) ≡ 0 = other_none log f tenant from q only (λ e. absurd (omega arith)) (each_first log from q os each) in
    let others : sum_by f (closed_from (from + 1) os log) ≡ sum_by f (own log tenant o) =
    row_sum log f tenant (from + 1) os t o only (each_behind log from q os each) (omega arith) at in
    omega (arith, sum_by-append f (own log from q) (closed_from (from + 1) os log))

-- the period is one that a tenant's steps closed
record IsOneOf (log : List Done) (from : ℕ) (openings : List Opening) (p : PeriodParts) : Type 0 where
  t : ℕ
  o : Opening
  opens : slice_get openings t ≡ Some o
  has : Contains (own log (from + t) o) p

row_has : (log : List Done) (from : ℕ) (os : List Opening) (p : PeriodParts) → Contains (closed_from from os log) p → IsOneOf log from os p
row_has log from [] p has = let at = is_read [] p has in absurd (nothing at.0 p at.1)
row_has log from (o ∷ os) p has = elim (Contains-append_cases (own log from o) (closed_from (from + 1) os log) p has) [
  | inl here ↦
      let same : from ≡ from + 0 = omega arith in
      record { t = 0; o = o; opens = refl; has = subst (λ u. Contains (own log u o) p) same here }
  | inr behind ↦
      let later = row_has log (from + 1) os p behind in
      let same : (from + 1) + later.t ≡ from + suc later.t = omega arith in
      record { t = suc later.t; o = later.o; opens = later.opens; has = subst (λ u. Contains (own log u later.o) p) same later.has }
]

has_row : (log : List Done) (from : ℕ) (os : List Opening) (t : ℕ) (o : Opening) (p : PeriodParts) → slice_get os t ≡ Some o
    → Contains (own log (from + t) o) p → Contains (closed_from from os log) p
has_row log from [] t o p at has = absurd (nothing t o at)
has_row log from (q ∷ os) zero o p at has =
    let same : from + 0 ≡ from = omega arith in
    let is : q ≡ o = one_there (q ∷ os) 0 q o refl at in
    Contains-append_left (own log from q) (closed_from (from + 1) os log) p
    (subst (λ (z : Opening). Contains (own log from z) p) (sym is) (subst (λ u. Contains (own log u o) p) same has))
has_row log from (q ∷ os) (suc t) o p at has =
    let same : from + suc t ≡ (from + 1) + t = omega arith in
    Contains-append_right (own log from q) (closed_from (from + 1) os log) p
    (has_row log (from + 1) os t o p at (subst (λ u. Contains (own log u o) p) same has))

-- ---- each period stands once

-- 1 for a period of that tenant and number
abbrev counts : ℕ → ℕ → PeriodParts → ℕ
counts t n p = if (p.opening.tenant == t) && (p.opening.period == n) then 1 else 0

counts_one : (t n : ℕ) (p : PeriodParts) → IsNumbered t n p → counts t n p ≡ 1
counts_one t n p numbered =
    ap (λ (b : Bool). if b && (p.opening.period == n) then 1 else 0) (eq-eqb p.opening.tenant t numbered.0)
    ∙ ap (λ (b : Bool). if true && b then 1 else 0) (eq-eqb p.opening.period n numbered.1)

counts_at_most : (b : Bool) → (if b then 1 else 0) ≤ 1
counts_at_most true = omega arith
counts_at_most false = omega arith

few : (t n from : ℕ) (ps : List PeriodParts) → ((k : ℕ) (p : PeriodParts) → slice_get ps k ≡ Some p → p.opening.period ≡ from + k) → sum_by (counts t n) ps ≤ 1
few t n from [] numbered = omega arith
few t n from (p ∷ ps) numbered =
    let first = numbered 0 p refl in
    let sum = sum_by-cons (counts t n) p ps in
    let behind : (k : ℕ) (q : PeriodParts) → slice_get ps k ≡ Some q → q.opening.period ≡ (from + 1) + k =
    λ k q at. let is = numbered (suc k) q at in omega arith in
    dite (ℕ_discrete from n)
    (λ same.
    let others : sum_by (counts t n) ps ≡ 0 = no_sum (counts t n) ps (λ k q at.
    both_false (q.opening.tenant == t) (q.opening.period == n) 1 (ne_eqb q.opening.period n (λ e. let is = behind k q at in absurd (omega arith)))) in
    let one : counts t n p ≤ 1 = counts_at_most ((p.opening.tenant == t) && (p.opening.period == n)) in
    omega arith)
    (λ other.
    let none : counts t n p ≡ 0 =
    both_false (p.opening.tenant == t) (p.opening.period == n) 1 (ne_eqb p.opening.period n (λ e. absurd (omega arith))) in
    let others : sum_by (counts t n) ps ≤ 1 = few t n (from + 1) ps behind in
    omega arith)

part_of_sum : {A : Type 0} (f : A → ℕ) (xs : List A) (k : ℕ) (x : A) → slice_get xs k ≡ Some x → f x ≤ sum_by f xs
part_of_sum {A = A} f [] k x at = absurd (nothing k x at)
part_of_sum {A = A} f (y ∷ ys) zero x at =
    let same : f y ≡ f x = ap f (one_there (y ∷ ys) 0 y x refl at) in
    omega (arith, sum_by-cons f y ys)
part_of_sum {A = A} f (y ∷ ys) (suc k) x at = let rest = part_of_sum f ys k x at in omega (arith, sum_by-cons f y ys)

one_counted : {A : Type 0} (f : A → ℕ) (xs : List A) (j k : ℕ) (x y : A) → sum_by f xs ≤ 1 → slice_get xs j ≡ Some x → slice_get xs k ≡ Some y
    → f x ≡ 1 → f y ≡ 1 → j ≡ k
one_counted {A = A} f [] j k x y most at_j at_k one_x one_y = absurd (nothing j x at_j)
one_counted {A = A} f (z ∷ zs) zero zero x y most at_j at_k one_x one_y = refl
one_counted {A = A} f (z ∷ zs) zero (suc k) x y most at_j at_k one_x one_y =
    let first : f z ≡ f x = ap f (one_there (z ∷ zs) 0 z x refl at_j) in
    let part = part_of_sum f zs k y at_k in
    absurd (omega (arith, sum_by-cons f z zs))
one_counted {A = A} f (z ∷ zs) (suc j) zero x y most at_j at_k one_x one_y =
    let first : f z ≡ f y = ap f (one_there (z ∷ zs) 0 z y refl at_k) in
    let part = part_of_sum f zs j x at_j in
    absurd (omega (arith, sum_by-cons f z zs))
one_counted {A = A} f (z ∷ zs) (suc j) (suc k) x y most at_j at_k one_x one_y =
    let least : sum_by f zs ≤ 1 = omega (arith, sum_by-cons f z zs) in
    ap suc (one_counted f zs j k x y least at_j at_k one_x one_y)

-- ---- the periods that are handed out

-- all that is known of what is handed out
record Handed (openings : List Opening) (log : List Done) (periods : List PeriodParts) (lists : List (List Receipt)) : Type 0 where
  each : (t : ℕ) (o : Opening) → slice_get openings t ≡ Some o → IsOwn log t o
  zero_first : (t : ℕ) (o : Opening) → slice_get openings t ≡ Some o → o.period ≡ 0
  opens : (m : ℕ) (e : Done) → slice_get log m ≡ Some e → (o : Opening) × (slice_get openings e.tenant ≡ Some o)
  moved : IsPermutation (closed_from 0 openings log) periods
  own_lists : (w : ℕ) → list_at lists w ≡ receipts_told (of_worker w log)

-- the period is the tenant's of that number
record IsClosed (openings : List Opening) (log : List Done) (p : PeriodParts) : Type 0 where
  o : Opening
  opens : slice_get openings p.opening.tenant ≡ Some o
  k : ℕ
  at : slice_get (own log p.opening.tenant o) k ≡ Some p
  number : p.opening.period ≡ k

from_nothing : (log : List Done) (openings : List Opening) → ((t : ℕ) (o : Opening) → slice_get openings t ≡ Some o → IsOwn log t o) → Each log 0 openings
from_nothing log openings each t o at = let same : t ≡ 0 + t = omega arith in subst (λ u. IsOwn log u o) same (each t o at)

is_closed : (openings : List Opening) (log : List Done) (periods : List PeriodParts) (lists : List (List Receipt)) (p : PeriodParts)
    → Handed openings log periods lists → Contains periods p → IsClosed openings log p
is_closed openings log periods lists p h has =
    let row : Contains (closed_from 0 openings log) p =
    Contains-permutation periods (closed_from 0 openings log) p (IsPermutation-sym (closed_from 0 openings log) periods h.moved) has in
    let one = row_has log 0 openings p row in
    let same : 0 + one.t ≡ one.t = omega arith in
    let at = is_read (own log one.t one.o) p (subst (λ u. Contains (own log u one.o) p) same one.has) in
    let numbered = (h.each one.t one.o one.opens).numbered at.0 p at.1 in
    let tenant : one.t ≡ p.opening.tenant = sym numbered.0 in
    let first = h.zero_first one.t one.o one.opens in
    let number = numbered.1 in
    record {
      o = one.o;
      opens = subst (λ u. slice_get openings u ≡ Some one.o) tenant one.opens;
      k = at.0;
      at = subst (λ u. slice_get (own log u one.o) at.0 ≡ Some p) tenant at.1;
      number = omega arith;
    }

handed_out : (openings : List Opening) (log : List Done) (periods : List PeriodParts) (lists : List (List Receipt)) (t k : ℕ) (o : Opening) (p : PeriodParts)
    → Handed openings log periods lists → slice_get openings t ≡ Some o → slice_get (own log t o) k ≡ Some p → Contains periods p
handed_out openings log periods lists t k o p h opens at =
    let same : t ≡ 0 + t = omega arith in
    Contains-permutation (closed_from 0 openings log) periods p h.moved
    (has_row log 0 openings t o p opens (subst (λ u. Contains (own log u o) p) same (is_element (own log t o) k p at)))

-- what adds up over all periods does over the tenant's
sum_own : (openings : List Opening) (log : List Done) (periods : List PeriodParts) (lists : List (List Receipt)) (f : PeriodParts → ℕ) (t : ℕ) (o : Opening)
    → Handed openings log periods lists → IsOf t f → slice_get openings t ≡ Some o → sum_by f periods ≡ sum_by f (own log t o)
sum_own openings log periods lists f t o h only opens =
    let same : 0 + t ≡ t = omega arith in
    sum_by-IsPermutation f (closed_from 0 openings log) periods h.moved
    ∙ row_sum log f t 0 openings t o only (from_nothing log openings h.each) same opens

-- a tenant's journal is that of its own periods
before_own : (openings : List Opening) (log : List Done) (periods : List PeriodParts) (lists : List (List Receipt)) (t n : ℕ) (o : Opening)
    → Handed openings log periods lists → slice_get openings t ≡ Some o → records_before periods t n ≡ records_before (own log t o) t n
before_own openings log periods lists t n o h opens =
    sum_own openings log periods lists (adds t n) t o h
    (λ p other. ap (λ (b : Bool). if b && nat_lt p.opening.period n then length p.records else 0) (ne_eqb p.opening.tenant t other)) opens

-- the periods are joined
handed_joined : (openings : List Opening) (log : List Done) (periods : List PeriodParts) (lists : List (List Receipt))
    → Handed openings log periods lists → AreJoined periods
handed_joined openings log periods lists h = record {
  once = λ j k p q at_j at_k numbered.
      let t : ℕ = q.opening.tenant in
      let n : ℕ = q.opening.period in
      let is = is_closed openings log periods lists q h (is_element periods k q at_k) in
      let told_so : IsOwn log t is.o = h.each t is.o is.opens in
      let all : sum_by (counts t n) periods ≡ sum_by (counts t n) (own log t is.o) =
      sum_own openings log periods lists (counts t n) t is.o h
      (λ x other. ap (λ (b : Bool). if b && (x.opening.period == n) then 1 else 0) (ne_eqb x.opening.tenant t other)) is.opens in
      let most : sum_by (counts t n) (own log t is.o) ≤ 1 = few t n is.o.period (own log t is.o) (λ i x at. (told_so.numbered i x at).1) in
      one_counted (counts t n) periods j k p q (omega arith) at_j at_k (counts_one t n p numbered) (counts_one t n q (refl, refl));
  led = λ q has.
      let is = is_closed openings log periods lists q h has in
      by q is is.k refl;
}
  where
    by : (q : PeriodParts) → (is : IsClosed openings log q) → (k : ℕ) → is.k ≡ k
        → (q.opening.period ≡ 0) ⊎ ((p : PeriodParts) × Contains periods p × (p.ending ≡ q.opening))
    by q is zero e = inl (is.number ∙ e)
    by q is (suc j) e =
        let t : ℕ = q.opening.tenant in
        let ps : List PeriodParts = own log t is.o in
        let at : slice_get ps (suc j) ≡ Some q = subst (λ k. slice_get ps k ≡ Some q) e is.at in
        let below = slice_get_within ps (suc j) q at in
        let p : PeriodParts = slice_index_or ps j q in
        let there : slice_get ps j ≡ Some p = read_there ps j q (omega arith) in
        inr (p, handed_out openings log periods lists t j is.o p h is.opens there, (h.each t is.o is.opens).joined j p q there at)

-- ---- the receipts

abbrev is_tenant : ℕ → Done → Bool
is_tenant t e = e.tenant == t

abbrev is_worker : ℕ → Done → Bool
is_worker w e = e.worker == w

-- where a step of the list stands in the periods
record Stands (openings : List Opening) (log : List Done) (periods : List PeriodParts) (m : ℕ) (e : Done) : Type 0 where
  p : PeriodParts
  has : Contains periods p
  numbered : IsNumbered e.tenant e.period p
  made : slice_get p.records e.number ≡ Some e.made
  place : journal_place periods (receipt_told e) ≡ seen (is_tenant e.tenant) log m

step_stands : (openings : List Opening) (log : List Done) (periods : List PeriodParts) (lists : List (List Receipt)) (m : ℕ) (e : Done)
    → Handed openings log periods lists → slice_get log m ≡ Some e → Stands openings log periods m e
step_stands openings log periods lists m e h at =
    let t : ℕ = e.tenant in
    let has = h.opens m e at in
    let o : Opening = has.0 in
    let is : IsOwn log t o = h.each t o has.1 in
    let i : ℕ = seen (is_tenant t) log m in
    let kept : slice_get (of_tenant t log) i ≡ Some e = to_kept (is_tenant t) log m e at (eq-eqb t t refl) in
    let placed = is.placed i e kept in
    let place : records_before (own log t o) t e.period + e.number ≡ i + 0 = is.place i e kept in
    let same = before_own openings log periods lists t e.period o h has.1 in
    let numbered = is.numbered placed.k placed.p placed.at in
    record {
      p = placed.p;
      has = handed_out openings log periods lists t placed.k o placed.p h has.1 placed.at;
      numbered = (numbered.0, placed.period);
      made = placed.made;
      place = omega arith;
    }

-- a receipt is that of a step
record IsTold (log : List Done) (i k : ℕ) (r : Receipt) : Type 0 where
  e : Done
  m : ℕ
  at : slice_get log m ≡ Some e
  is : receipt_told e ≡ r
  worker : e.worker ≡ i
  before : seen (is_worker i) log m ≡ k

is_told : (openings : List Opening) (log : List Done) (periods : List PeriodParts) (lists : List (List Receipt)) (i k : ℕ) (r : Receipt)
    → Handed openings log periods lists → slice_get (list_at lists i) k ≡ Some r → IsTold log i k r
is_told openings log periods lists i k r h at =
    let from = point_from receipt_told (of_worker i log) k r (subst (λ (l : List Receipt). slice_get l k ≡ Some r) (h.own_lists i) at) in
    let is = from_kept (is_worker i) log k from.0 from.1 in
    record { e = from.0; m = is.at; at = is.there; is = from.2; worker = eqb-true from.0.worker i is.passes; before = is.before }

-- the receipt of a step is the next one of its worker's
told_there : (openings : List Opening) (log : List Done) (periods : List PeriodParts) (lists : List (List Receipt)) (m : ℕ) (e : Done)
    → Handed openings log periods lists → slice_get log m ≡ Some e → slice_get (list_at lists e.worker) (seen (is_worker e.worker) log m) ≡ Some (receipt_told e)
told_there openings log periods lists m e h at =
    let w : ℕ = e.worker in
    subst (λ (l : List Receipt). slice_get l (seen (is_worker w) log m) ≡ Some (receipt_told e)) (sym (h.own_lists w))
    (point_at receipt_told (of_worker w log) (seen (is_worker w) log m) e (to_kept (is_worker w) log m e at (eq-eqb w w refl)))

one_step : (openings : List Opening) (log : List Done) (periods : List PeriodParts) (lists : List (List Receipt)) (m n : ℕ) (e d : Done)
    → Handed openings log periods lists → slice_get log m ≡ Some e → slice_get log n ≡ Some d → NameOne (receipt_told e) (receipt_told d) → m ≡ n
one_step openings log periods lists m n e d h at_m at_n one =
    let tenant : e.tenant ≡ d.tenant = one.0 in
    let at_e = (step_stands openings log periods lists m e h at_m).place in
    let at_d = (step_stands openings log periods lists n d h at_n).place in
    let here : journal_place periods (receipt_told e) ≡ journal_place periods (receipt_told d) =
    ap (λ (u : ℕ). records_before periods u e.period + e.number) tenant
    ∙ (ap (λ (u : ℕ). records_before periods d.tenant u + e.number) one.1 ∙ ap (λ (u : ℕ). records_before periods d.tenant d.period + u) one.2) in
    let same : seen (is_tenant e.tenant) log m ≡ seen (is_tenant e.tenant) log n =
    sym at_e ∙ (here ∙ (at_d ∙ ap (λ (u : ℕ). seen (is_tenant u) log n) (sym tenant))) in
    one_place (is_tenant e.tenant) log m n e d at_m at_n (eq-eqb e.tenant e.tenant refl) (eq-eqb d.tenant e.tenant (sym tenant)) same

handed_matched : (openings : List Opening) (log : List Done) (periods : List PeriodParts) (lists : List (List Receipt))
    → Handed openings log periods lists → AreMatched periods lists
handed_matched openings log periods lists h = record {
  joined = handed_joined openings log periods lists h;
  right = right;
  once = once;
  all = all;
}
  where
    right : (r : Receipt) → IsAmong lists r → NamesRecord periods r (shown_record r)
    right r (i, k, at) =
        let is = is_told openings log periods lists i k r h at in
        let stands = step_stands openings log periods lists is.m is.e h is.at in
        subst (λ (x : Receipt). NamesRecord periods x (shown_record x)) is.is (stands.p, stands.has, stands.numbered, stands.made)

    once : (i k j l : ℕ) (r s : Receipt) → slice_get (list_at lists i) k ≡ Some r → slice_get (list_at lists j) l ≡ Some s
        → NameOne r s → (i ≡ j) × (k ≡ l)
    once i k j l r s at_r at_s one =
        let a = is_told openings log periods lists i k r h at_r in
        let b = is_told openings log periods lists j l s h at_s in
        let named : NameOne (receipt_told a.e) (receipt_told b.e) =
        subst (λ (x : Receipt). NameOne x (receipt_told b.e)) (sym a.is) (subst (λ (x : Receipt). NameOne r x) (sym b.is) one) in
        let place : a.m ≡ b.m = one_step openings log periods lists a.m b.m a.e b.e h a.at b.at named in
        let same : a.e ≡ b.e = one_there log b.m a.e b.e (subst (λ m. slice_get log m ≡ Some a.e) place a.at) b.at in
        let worker : i ≡ j = sym a.worker ∙ (ap (λ (x : Done). x.worker) same ∙ b.worker) in
        (worker, sym a.before ∙ (ap (λ (u : ℕ). seen (is_worker u) log a.m) worker ∙ (ap (λ (m : ℕ). seen (is_worker j) log m) place ∙ b.before)))

    all : (p : PeriodParts) (n : ℕ) → Contains periods p → n < length p.records
        → (r : Receipt) × IsAmong lists r × IsNumbered r.tenant r.period p × (r.number ≡ n)
    all p n has below =
        let is = is_closed openings log periods lists p h has in
        let t : ℕ = p.opening.tenant in
        elim ((h.each t is.o is.opens).all is.k n p is.at below) [
          | inl none ↦ let before : n < 0 = none.1 in absurd (omega arith)
          | inr step ↦
              let there = from_kept (is_tenant t) log step.i step.e step.at in
              let e : Done = step.e in
              let tenant : e.tenant ≡ t = eqb-true e.tenant t there.passes in (
                receipt_told e,
                (e.worker, seen (is_worker e.worker) log there.at, told_there openings log periods lists there.at e h there.there),
                (sym tenant, sym step.period),
                step.number,
              )
        ]

-- ---- the order

abbrev one_if : Bool → ℕ
one_if b = cond b 1 0

-- one more step is counted for its worker, or its tenant
counted_on : (key : Done → ℕ) (log : List Done) (m : ℕ) (e : Done) → slice_get log m ≡ Some e → (counted : ℕ → ℕ)
    → ((n : ℕ) → counted n ≡ seen (λ d. key d == n) log m) → (n : ℕ) → one_more_at counted (key e) n ≡ seen (λ d. key d == n) log (m + 1)
counted_on key log m e at counted so n =
    let f : Done → Bool = λ d. key d == n in
    let read : get_or log m e ≡ e = get_or_from_slice_get log m e e at in
    let next : seen f log (m + 1) ≡ seen f log m + one_if (f (get_or log m e)) = length-filter_more f log m e (slice_get_within log m e at) in
    let has : counted n ≡ seen f log m = so n in
    let test : one_if (f (get_or log m e)) ≡ one_if (key e == n) = ap (λ (x : Done). one_if (f x)) read in
    dite (ℕ_discrete n (key e))
    (λ same.
    let more : one_more_at counted (key e) n ≡ counted n + 1 = ap (λ (b : Bool). if b then counted n + 1 else counted n) (eq-eqb n (key e) same) in
    let one : one_if (key e == n) ≡ 1 = ap one_if (eq-eqb (key e) n (sym same)) in
    omega arith)
    (λ other.
    let still : one_more_at counted (key e) n ≡ counted n = ap (λ (b : Bool). if b then counted n + 1 else counted n) (ne_eqb n (key e) other) in
    let none : one_if (key e == n) ≡ 0 = ap one_if (ne_eqb (key e) n (λ is. other (sym is))) in
    omega arith)

-- the rest of the list
record IsRest (log : List Done) (m : ℕ) (rest : List Done) : Type 0 where
  long : m + length rest ≡ length log
  at : (k : ℕ) (e : Done) → slice_get rest k ≡ Some e → slice_get log (m + k) ≡ Some e

rest_on : (log : List Done) (m : ℕ) (e : Done) (es : List Done) → IsRest log m (e ∷ es) → IsRest log (m + 1) es
rest_on log m e es rest = record {
  long = let long = rest.long in omega arith;
  at = λ k d at.
      let same : m + suc k ≡ (m + 1) + k = omega arith in
      subst (λ n. slice_get log n ≡ Some d) same (rest.at (suc k) d at);
}

takes_on : (openings : List Opening) (log : List Done) (periods : List PeriodParts) (lists : List (List Receipt)) (m : ℕ) (rest : List Done) (taken done : ℕ → ℕ)
    → Handed openings log periods lists → IsRest log m rest → ((w : ℕ) → taken w ≡ seen (is_worker w) log m) → ((t : ℕ) → done t ≡ seen (is_tenant t) log m)
    → TakesOn (points_of periods lists) taken done (map (λ e. e.worker) rest)
takes_on openings log periods lists m [] taken done h rest so_taken so_done = λ i.
    let long = rest.long in
    let whole : take m log ≡ log = take_all m log (omega arith) in
    let here : taken i ≡ length (of_worker i log) = so_taken i ∙ ap (λ (l : List Done). length (of_worker i l)) whole in
    let f : Receipt → ListPoint = λ r. point r.tenant (journal_place periods r) in
    let points : list_at (points_of periods lists) i ≡ map f (receipts_told (of_worker i log)) =
    points_at periods lists i ∙ ap (λ (l : List Receipt). map f l) (h.own_lists i) in
    here ∙ sym (ap length points ∙ (length-map (receipts_told (of_worker i log)) f ∙ length-map (of_worker i log) receipt_told))
takes_on openings log periods lists m (e ∷ es) taken done h rest so_taken so_done =
    let same : m + 0 ≡ m = omega arith in
    let at : slice_get log m ≡ Some e = subst (λ n. slice_get log n ≡ Some e) same (rest.at 0 e refl) in
    let w : ℕ = e.worker in
    let f : Receipt → ListPoint = λ r. point r.tenant (journal_place periods r) in
    let stands = step_stands openings log periods lists m e h at in
    let next : slice_get (list_at (points_of periods lists) w) (seen (is_worker w) log m) ≡ Some (f (receipt_told e)) =
    subst (λ (l : List ListPoint). slice_get l (seen (is_worker w) log m) ≡ Some (f (receipt_told e))) (sym (points_at periods lists w))
    (point_at f (list_at lists w) (seen (is_worker w) log m) (receipt_told e) (told_there openings log periods lists m e h at)) in
    let place : journal_place periods (receipt_told e) ≡ done e.tenant = stands.place ∙ sym (so_done e.tenant) in
    let taken_next : slice_get (list_at (points_of periods lists) w) (taken w) ≡ Some (point e.tenant (done e.tenant)) =
    subst (λ k. slice_get (list_at (points_of periods lists) w) k ≡ Some (point e.tenant (done e.tenant))) (sym (so_taken w))
    (next ∙ ap (λ (k : ℕ). Some (point e.tenant k)) place) in (
      e.tenant,
      taken_next,
      takes_on openings log periods lists (m + 1) es (one_more_at taken w) (one_more_at done e.tenant) h (rest_on log m e es rest)
          (counted_on (λ d. d.worker) log m e at taken so_taken)
          (counted_on (λ d. d.tenant) log m e at done so_done),
    )

handed_complete : (openings : List Opening) (log : List Done) (periods : List PeriodParts) (lists : List (List Receipt))
    → Handed openings log periods lists → IsComplete periods lists (map (λ e. e.worker) log)
handed_complete openings log periods lists h = record {
  matched = handed_matched openings log periods lists h;
  takes = takes_on openings log periods lists 0 log none none h whole (λ w. refl) (λ t. refl);
}
  where
    whole : IsRest log 0 log
    whole = record {
      long = omega arith;
      at = λ k e at. let same : k ≡ 0 + k = omega arith in subst (λ n. slice_get log n ≡ Some e) same at;
    }

-- ---- the law

ordered : (from : ℕ) (books : List (State × ℕ)) (t : ℕ) (d : State × ℕ) → AreInOrder from books → t < length books
    → (slice_index_or books t d).0.opening.tenant ≡ from + t
ordered from [] t d order below = absurd (omega arith)
ordered from (b ∷ bs) zero d order below = let first = order.0 in omega arith
ordered from (b ∷ bs) (suc t) d order below = let later = ordered (from + 1) bs t d order.1 (omega arith) in omega arith

-- a tenant's first opening is that of its number, and of period 0
opening_is : (setups : List TenantTerms) (start t : ℕ) (o : Opening) → slice_get (openings_of setups start) t ≡ Some o → (o.tenant ≡ t) × (o.period ≡ 0)
opening_is setups start t o at = by (slice_get setups t) (sym at ∙ opening_from (λ p. opening_of p.0 p.1 start) 0 setups t)
  where
    by : (x : Option TenantTerms) → ◌≡◌ {A = Option Opening} (Some o) (option_map (λ (y : TenantTerms). opening_of (0 + t) y start) x) → (o.tenant ≡ t) × (o.period ≡ 0)
    by None e = absurd cc
    by (Some y) e =
        let same : o ≡ opening_of (0 + t) y start = ap (λ (x : Option Opening). unwrap_or x o) e in
        let number : 0 + t ≡ t = omega arith in
        (ap (λ (x : Opening). x.tenant) same ∙ number, ap (λ (x : Opening). x.period) same)

-- the worker has one of the shares
record HasShare (shares : List ShareView) (w : ℕ) : Type 0 where
  s : ShareView
  has : Contains shares s
  worker : s.worker ≡ w

share_there : (w : ℕ) (shares : List ShareView) → 1 ≤ shares_of w shares → HasShare shares w
share_there w [] some = absurd (omega arith)
share_there w (x ∷ xs) some = elim (eqb_tells x.worker w) [
  | inl own ↦ record { s = x; has = is_element (x ∷ xs) 0 x refl; worker = own.1 }
  | inr other ↦
      let here : one_if (x.worker == w) ≡ 0 = ap one_if other.0 in
      let sum : shares_of w (x ∷ xs) ≡ one_if (x.worker == w) + shares_of w xs = sum_by-cons (λ (s : ShareView). one_if (s.worker == w)) x xs in
      let later = share_there w xs (omega arith) in
      let at = is_read xs later.s later.has in
      record { s = later.s; has = is_element (x ∷ xs) (suc at.0) later.s at.1; worker = later.worker }
]

-- the receipts that are handed out, where all is rolled, are complete with the periods, in the order of the list
pub complete : (size : Size) (setups : List TenantTerms) (start : ℕ) (books : List (State × ℕ)) (shares : List ShareView) (log : List Done)
    (periods : List PeriodParts) (lists : List (List Receipt)) → IsListOf size (openings_of setups start) books shares log → size.tenants ≡ length books
    → AreRolled books → AreClosedIn (openings_of setups start) log periods → AreReceiptsOf size.workers shares lists
    → IsComplete periods lists (map (λ e. e.worker) log)
complete size setups start books shares log periods lists list many rolled moved receipts =
    handed_complete openings log periods lists (record {
      each = λ t o at. dite (dec_lt t (length books)) (λ below. with_book t o at below) (λ not_below. with_none t o at (omega arith));
      zero_first = λ t o at. (opening_is setups start t o at).1;
      opens = λ m e at.
          let below : e.tenant < size.tenants = (among m e at).0 in
          ((led e.tenant (omega arith)).first, opens e.tenant (omega arith));
      moved = moved;
      own_lists = λ w. dite (dec_lt w size.workers) (λ below. with_share w below) (λ not_below. without_share w (omega arith));
    })
  where
    openings : List Opening
    openings = openings_of setups start

    among : (m : ℕ) (e : Done) → slice_get log m ≡ Some e → (e.tenant < size.tenants) × (e.worker < size.workers)
    among m e at = All-contains (λ (x : Done). (x.tenant < size.tenants) × (x.worker < size.workers)) log e list.others (is_element log m e at)

    number : (t : ℕ) → t < length books → (book_among books t).opening.tenant ≡ t
    number t below = let is = ordered 0 books t (no_book, 0) list.in_order below in omega arith

    led : (t : ℕ) → t < length books → IsLedTo openings (book_among books t) (of_tenant (book_among books t).opening.tenant log)
    led t below = list.tenants t (no_book, 0) below

    opens : (t : ℕ) (below : t < length books) → slice_get openings t ≡ Some (led t below).first
    opens t below = ap (slice_get openings) (sym (number t below)) ∙ (led t below).opens

    with_book : (t : ℕ) (o : Opening) → slice_get openings t ≡ Some o → t < length books → IsOwn log t o
    with_book t o at below =
        let is = led t below in
        let same : is.first ≡ o = one_there openings t is.first o (opens t below) at in
        told t (opened o) (book_among books t) (of_tenant t log) (opening_is setups start t o at).0 (rolled t (no_book, 0) below)
        (subst (λ (x : Opening). LeadTo (opened x) (of_tenant t log) (book_among books t)) same
        (subst (λ u. LeadTo (opened is.first) (of_tenant u log) (book_among books t)) (number t below) is.history))

    with_none : (t : ℕ) (o : Opening) → slice_get openings t ≡ Some o → length books ≤ t → IsOwn log t o
    with_none t o at past =
        let none : of_tenant t log ≡ [] = none_pass (is_tenant t) log (λ m e there.
        let below = (among m e there).0 in
        ne_eqb e.tenant t (λ same. absurd (omega arith))) in
        subst (λ (l : List Done). Told t (opened o) l (periods_closed_by (opened o) l)) (sym none) (told_none t (opened o) refl)

    with_share : (w : ℕ) → w < size.workers → list_at lists w ≡ receipts_told (of_worker w log)
    with_share w below =
        let one = ((all_there size.workers shares).0 receipts.there).1 w below in
        let share = share_there w shares (omega arith) in
        let own_list = All-contains (λ (s : ShareView). slice_get lists s.worker ≡ Some (receipts_told s.steps)) shares share.s receipts.own share.has in
        let steps = All-contains (λ (s : ShareView). of_worker s.worker log ≡ s.steps) shares share.s list.workers share.has in
        let read : slice_get lists w ≡ Some (receipts_told share.s.steps) =
        subst (λ u. slice_get lists u ≡ Some (receipts_told share.s.steps)) share.worker own_list in
        ap (λ (l : Option (List Receipt)). unwrap_or l []) read
        ∙ ap receipts_told (sym steps ∙ ap (λ u. of_worker u log) share.worker)

    without_share : (w : ℕ) → size.workers ≤ w → list_at lists w ≡ receipts_told (of_worker w log)
    without_share w past =
        let none : of_worker w log ≡ [] = none_pass (is_worker w) log (λ m e there.
        let below = (among m e there).1 in
        ne_eqb e.worker w (λ same. absurd (omega arith))) in
        let long = receipts.many in
        ap (λ (l : Option (List Receipt)). unwrap_or l []) (slice_get_past lists w (omega arith)) ∙ ap receipts_told (sym none)

-- ---- shares in order

numbered_at : (from : ℕ) (shares : List ShareView) (k : ℕ) (d : ShareView) → AreSharesFrom from shares → k < length shares
    → (slice_index_or shares k d).worker ≡ from + k
numbered_at from [] k d order below = absurd (omega arith)
numbered_at from (s ∷ ss) zero d order below = let first = order.0 in omega arith
numbered_at from (s ∷ ss) (suc k) d order below = let later = numbered_at (from + 1) ss k d order.1 (omega arith) in omega arith

none_before : (from w : ℕ) (shares : List ShareView) → AreSharesFrom from shares → w < from → shares_of w shares ≡ 0
none_before from w [] order less = refl
none_before from w (s ∷ ss) order less =
    let first = order.0 in
    let here : one_if (s.worker == w) ≡ 0 = ap one_if (ne_eqb s.worker w (λ same. absurd (omega arith))) in
    let others = none_before (from + 1) w ss order.1 (omega arith) in
    let sum : shares_of w (s ∷ ss) ≡ one_if (s.worker == w) + shares_of w ss = sum_by-cons (λ (x : ShareView). one_if (x.worker == w)) s ss in
    omega arith

one_share : (from w : ℕ) (shares : List ShareView) → AreSharesFrom from shares → from ≤ w → w < from + length shares → shares_of w shares ≡ 1
one_share from w [] order least below = absurd (omega arith)
one_share from w (s ∷ ss) order least below =
    let first = order.0 in
    let sum : shares_of w (s ∷ ss) ≡ one_if (s.worker == w) + shares_of w ss = sum_by-cons (λ (x : ShareView). one_if (x.worker == w)) s ss in
    dite (ℕ_discrete s.worker w)
    (λ same.
    let here : one_if (s.worker == w) ≡ 1 = ap one_if (eq-eqb s.worker w same) in
    let others = none_before (from + 1) w ss order.1 (omega arith) in
    omega arith)
    (λ other.
    let here : one_if (s.worker == w) ≡ 0 = ap one_if (ne_eqb s.worker w other) in
    let others = one_share (from + 1) w ss order.1 (omega arith) (omega arith) in
    omega arith)

-- audited shares have the receipts of all their steps
all_kept : (shares : List ShareView) → All (λ s. s.audited ≡ true) shares → filter_map receipts_in shares ≡ map (λ s. receipts_told s.steps) shares
all_kept [] audited = refl
all_kept (s ∷ ss) audited =
    let here : s.audited ≡ true = All-head (λ (x : ShareView). x.audited ≡ true) s ss audited in
    let others = all_kept ss (All-tail (λ (x : ShareView). x.audited ≡ true) s ss audited) in
    rw (here, others) refl

-- the receipts of audited shares that stand in the workers' order are the lists of their workers
pub kept_in_order : (shares : List ShareView) → AreSharesFrom 0 shares → All (λ s. s.audited ≡ true) shares
    → AreReceiptsOf (length shares) shares (filter_map receipts_in shares)
kept_in_order shares order audited = record {
  there = (all_there (length shares) shares).1 (refl, λ w below. one_share 0 w shares order (omega arith) (omega arith));
  many = ap length kept ∙ length-map shares (λ s. receipts_told s.steps);
  own = λ k d below.
      let s : ShareView = slice_index_or shares k d in
      let number : k ≡ s.worker = let is = numbered_at 0 shares k d order below in omega arith in
      let read : slice_get (map (λ (x : ShareView). receipts_told x.steps) shares) k ≡ Some (receipts_told s.steps) =
      point_at (λ (x : ShareView). receipts_told x.steps) shares k s (read_there shares k d below) in
      subst (λ n. slice_get (filter_map receipts_in shares) n ≡ Some (receipts_told s.steps)) number
      (subst (λ (l : List (List Receipt)). slice_get l k ≡ Some (receipts_told s.steps)) (sym kept) read);
}
  where
    kept : filter_map receipts_in shares ≡ map (λ s. receipts_told s.steps) shares
    kept = all_kept shares audited
