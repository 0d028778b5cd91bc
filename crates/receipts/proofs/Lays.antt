-- How entries are laid out.
use Rattle.std.proofs.Common.{◌≡◌, ◌≢◌, ℕ, zero, suc, ◌+◌, ◌-◌, ◌<◌, ◌≤◌, ◌==◌, ◌&&◌, if◌then◌else◌, nat_lt, eq-eqb, ne_eqb, Bool, true, false, List, [], ◌∷◌, ◌++◌, length, replicate, Option, Some, None, slice_get, slice_set, slice_index, option_and_then, unwrap_or, refl, sym, ap, subst, ◌∙◌, arith, inl, inr}
use Rattle.std.proofs.lemmas.Bool.Decides.{nat_tests}
use Rattle.std.proofs.lemmas.Option.{slice_get_within, slice_get_past}
use Rattle.std.proofs.lemmas.List.{length-append, length-replicate}
use Rattle.std.proofs.lemmas.List.Sums.{sum_by-cons}
use mathlib.Core.Logic.{dite}
use native.Mathlib.Decide.{ℕ_discrete, dec_lt}
use Rattle.tenant_core.specs.Limits.{max_period, max_tenants}
use Rattle.tenant_core.specs.declared.period.PeriodParts.{PeriodParts}
use Rattle.joint_order.specs.Orders.{list_at}
use Rattle.receipts.specs.Audits.{AreJoined, IsNumbered, records_before}
use Rattle.receipts.specs.Layout.{AreOfRolls, AreLaid, IsIndexUpTo, IsLaid, IsLaidTo, KeepsOthers, place_in}
use Rattle.receipts.specs.declared.index.Index.{Index}
use Rattle.receipts.proofs.Joins.{is_element, led_from, one_there}

-- what a period adds to the entries before a number
abbrev pub adds : ℕ → ℕ → PeriodParts → ℕ
adds t n p = if (p.opening.tenant == t) && nat_lt p.opening.period n then length p.records else 0

-- the first period, and the others
adds_first : (p : PeriodParts) (ps : List PeriodParts) (t n : ℕ) → records_before (p ∷ ps) t n ≡ adds t n p + records_before ps t n
adds_first p ps t n = sum_by-cons (adds t n) p ps

-- one of another tenant or number adds as much to the next number
adds_alike : (t n : ℕ) (p : PeriodParts) → ¬ (IsNumbered t n p) → adds t (n + 1) p ≡ adds t n p
adds_alike t n p other = dite (ℕ_discrete p.opening.tenant t)
    (λ tenant.
    let apart : p.opening.period ≢ n = λ e. other (tenant, e) in
    let same : nat_lt p.opening.period (n + 1) ≡ nat_lt p.opening.period n = alike p.opening.period n apart in
    ap (λ (b : Bool). if (p.opening.tenant == t) && b then length p.records else 0) same)
    (λ no.
    let test : (p.opening.tenant == t) ≡ false = ne_eqb p.opening.tenant t no in
    ap (λ (b : Bool). if b && nat_lt p.opening.period (n + 1) then length p.records else 0) test
    ∙ sym (ap (λ (b : Bool). if b && nat_lt p.opening.period n then length p.records else 0) test))
  where
    alike : (m k : ℕ) → m ≢ k → nat_lt m (k + 1) ≡ nat_lt m k
    alike m k apart = dite (dec_lt m k)
        (λ less. let a : nat_lt m (k + 1) ≡ true = grind (arith, nat_tests) in let b : nat_lt m k ≡ true = grind (arith, nat_tests) in a ∙ sym b)
        (λ more. let a : nat_lt m (k + 1) ≡ false = grind (arith, nat_tests) in let b : nat_lt m k ≡ false = grind (arith, nat_tests) in a ∙ sym b)

-- one of that number adds all its entries to the next number, and none to its own
adds_all : (t n : ℕ) (p : PeriodParts) → IsNumbered t n p → (adds t (n + 1) p ≡ length p.records) × (adds t n p ≡ 0)
adds_all t n p numbered =
    let tenant = numbered.0 in
    let number = numbered.1 in
    let same : (p.opening.tenant == t) ≡ true = eq-eqb p.opening.tenant t tenant in
    let below : nat_lt p.opening.period (n + 1) ≡ true = grind (arith, nat_tests) in
    let not_below : nat_lt p.opening.period n ≡ false = grind (arith, nat_tests) in (
      ap (λ (b : Bool). if b && nat_lt p.opening.period (n + 1) then length p.records else 0) same
          ∙ ap (λ (b : Bool). if true && b then length p.records else 0) below,
      ap (λ (b : Bool). if b && nat_lt p.opening.period n then length p.records else 0) same
          ∙ ap (λ (b : Bool). if true && b then length p.records else 0) not_below,
    )

-- where no period has the number, the next number has as many entries before it
none_adds : (periods : List PeriodParts) (t n : ℕ) → ((k : ℕ) (p : PeriodParts) → slice_get periods k ≡ Some p → ¬ (IsNumbered t n p))
    → records_before periods t (n + 1) ≡ records_before periods t n
none_adds [] t n none = refl
none_adds (p ∷ ps) t n none =
    let one = adds_alike t n p (none 0 p refl) in
    let now = adds_first p ps t n in
    let next = adds_first p ps t (n + 1) in
    let others = none_adds ps t n (λ k q at. none (suc k) q at) in
    omega arith

-- where one period has it, that one's more
pub one_adds : (periods : List PeriodParts) (t n k : ℕ) (p : PeriodParts) → slice_get periods k ≡ Some p → IsNumbered t n p
    → ((j : ℕ) (q : PeriodParts) → slice_get periods j ≡ Some q → IsNumbered t n q → j ≡ k)
    → records_before periods t (n + 1) ≡ records_before periods t n + length p.records
one_adds [] t n k p at numbered once = let below = slice_get_within [] k p at in absurd (omega arith)
one_adds (q ∷ qs) t n zero p at numbered once =
    let same : q ≡ p = one_there (q ∷ qs) 0 q p refl at in
    let P : PeriodParts → Type 0 = λ r. (adds t (n + 1) r ≡ length p.records) × (adds t n r ≡ 0) in
    let here = subst P (sym same) (adds_all t n p numbered) in
    let all = here.0 in
    let none = here.1 in
    let others = none_adds qs t n (λ j r there is. let e = once (suc j) r there is in absurd (omega arith)) in
    let now = adds_first q qs t n in
    let next = adds_first q qs t (n + 1) in
    omega arith
one_adds (q ∷ qs) t n (suc k) p at numbered once =
    let here = adds_alike t n q (λ is. let e = once 0 q refl is in absurd (omega arith)) in
    let others = one_adds qs t n k p at numbered (λ j r there is. let e = once (suc j) r there is in omega arith) in
    let now = adds_first q qs t n in
    let next = adds_first q qs t (n + 1) in
    omega arith

adds_more : (t n m : ℕ) (p : PeriodParts) → n ≤ m → adds t n p ≤ adds t m p
adds_more t n m p most = dite (ℕ_discrete p.opening.tenant t)
    (λ tenant.
    let same : (p.opening.tenant == t) ≡ true = eq-eqb p.opening.tenant t tenant in
    dite (dec_lt p.opening.period n)
    (λ less.
    let b : nat_lt p.opening.period m ≡ true = grind (arith, nat_tests) in
    let a : nat_lt p.opening.period n ≡ true = grind (arith, nat_tests) in
    let e : adds t m p ≡ length p.records
    = ap (λ (x : Bool). if x && nat_lt p.opening.period m then length p.records else 0) same
    ∙ ap (λ (x : Bool). if true && x then length p.records else 0) b in
    let f : adds t n p ≡ length p.records
    = ap (λ (x : Bool). if x && nat_lt p.opening.period n then length p.records else 0) same
    ∙ ap (λ (x : Bool). if true && x then length p.records else 0) a in
    omega arith)
    (λ not_less.
    let a : nat_lt p.opening.period n ≡ false = grind (arith, nat_tests) in
    let f : adds t n p ≡ 0
    = ap (λ (x : Bool). if x && nat_lt p.opening.period n then length p.records else 0) same
    ∙ ap (λ (x : Bool). if true && x then length p.records else 0) a in
    omega arith))
    (λ other.
    let test : (p.opening.tenant == t) ≡ false = ne_eqb p.opening.tenant t other in
    let f : adds t n p ≡ 0 = ap (λ (b : Bool). if b && nat_lt p.opening.period n then length p.records else 0) test in
    omega arith)

-- a later number has no fewer entries before it
pub before_more : (periods : List PeriodParts) (t n m : ℕ) → n ≤ m → records_before periods t n ≤ records_before periods t m
before_more [] t n m most = omega arith
before_more (p ∷ ps) t n m most =
    let one = adds_more t n m p most in
    let others = before_more ps t n m most in
    let now = adds_first p ps t n in
    let later = adds_first p ps t m in
    omega arith

-- a period's entries come before those of a later number
pub before_later : (periods : List PeriodParts) (t n : ℕ) (p : PeriodParts) (k m : ℕ) → slice_get periods k ≡ Some p → IsNumbered t n p
    → n < m → records_before periods t n + length p.records ≤ records_before periods t m
before_later [] t n p k m at numbered less = let below = slice_get_within [] k p at in absurd (omega arith)
before_later (q ∷ qs) t n p zero m at numbered less =
    let same : q ≡ p = one_there (q ∷ qs) 0 q p refl at in
    let P : PeriodParts → Type 0 = λ r. (adds t (n + 1) r ≡ length p.records) × (adds t n r ≡ 0) in
    let here = subst P (sym same) (adds_all t n p numbered) in
    let all = here.0 in
    let none = here.1 in
    let one = adds_more t (n + 1) m q (omega arith) in
    let others = before_more qs t n m (omega arith) in
    let now = adds_first q qs t n in
    let later = adds_first q qs t m in
    omega arith
before_later (q ∷ qs) t n p (suc k) m at numbered less =
    let one = adds_more t n m q (omega arith) in
    let others = before_later qs t n p k m at numbered less in
    let now = adds_first q qs t n in
    let later = adds_first q qs t m in
    omega arith

-- nothing comes before the first period
pub none_first : (periods : List PeriodParts) (t : ℕ) → records_before periods t 0 ≡ 0
none_first [] t = refl
none_first (p ∷ ps) t =
    let others = none_first ps t in
    let one : adds t 0 p ≡ 0 = by_tests (p.opening.tenant == t) (nat_lt p.opening.period 0) (grind (arith, nat_tests)) in
    let now = adds_first p ps t 0 in
    omega arith
  where
    by_tests : (a b : Bool) → b ≡ false → (if a && b then length p.records else 0) ≡ 0
    by_tests true b e = ap (λ (x : Bool). if true && x then length p.records else 0) e
    by_tests false b e = refl

-- the index finds one period at a number
only_there : (index : Index) (periods : List PeriodParts) (t n k : ℕ) → IsIndexUpTo index periods (length periods)
    → place_in index t n ≡ Some k → (j : ℕ) (q : PeriodParts) → slice_get periods j ≡ Some q → IsNumbered t n q → j ≡ k
only_there index periods t n k all place j q at numbered =
    let found = all.found j q (slice_get_within periods j q at) at in
    let P : ℕ → ℕ → Type 0 = λ u m. place_in index u m ≡ Some j in
    let there : place_in index t n ≡ Some j = subst (λ m. P t m) numbered.1 (subst (λ u. P u q.opening.period) numbered.0 found) in
    ap (λ (o : Option ℕ). unwrap_or o j) (sym there ∙ place)

-- ---- a tenant's periods

pub lays_first : (index : Index) (periods : List PeriodParts) (offsets : List ℕ) (t : ℕ) → length offsets ≡ length periods
    → IsLaidTo index periods offsets t 0 0
lays_first index periods offsets t wide = record {
  wide = wide;
  so_far = sym (none_first periods t);
  offset = λ n k below place. absurd (omega arith);
}

index_written : (xs : List ℕ) (i n : ℕ) → i < length xs → slice_index (slice_set xs i n) i ≡ n
index_written [] i n below = absurd (omega arith)
index_written (x ∷ xs) zero n below = refl
index_written (x ∷ xs) (suc i) n below = index_written xs i n (omega arith)

index_unwritten : (xs : List ℕ) (i j n : ℕ) → j ≢ i → slice_index (slice_set xs i n) j ≡ slice_index xs j
index_unwritten [] i j n other = refl
index_unwritten (x ∷ xs) zero zero n other = absurd (other refl)
index_unwritten (x ∷ xs) zero (suc j) n other = refl
index_unwritten (x ∷ xs) (suc i) zero n other = refl
index_unwritten (x ∷ xs) (suc i) (suc j) n other = index_unwritten xs i j n (λ e. other (ap suc e))

length_written : {A : Type 0} (xs : List A) (i : ℕ) (x : A) → length (slice_set xs i x) ≡ length xs
length_written {A = A} [] i y = refl
length_written {A = A} (x ∷ xs) zero y = refl
length_written {A = A} (x ∷ xs) (suc i) y = ap suc (length_written xs i y)

-- two numbers at which one place is found are one
same_number : (index : Index) (periods : List PeriodParts) (t n u m k : ℕ) → IsIndexUpTo index periods (length periods)
    → place_in index t n ≡ Some k → place_in index u m ≡ Some k → (t ≡ u) × (n ≡ m)
same_number index periods t n u m k all place other =
    let a = all.right t n k place in
    let b = all.right u m k other in
    let same : a.1.0 ≡ b.1.0 = one_there periods k a.1.0 b.1.0 a.1.1 b.1.1 in
    let P : PeriodParts → Type 0 = λ p. (t ≡ p.opening.tenant) × (n ≡ p.opening.period) in
    let q = subst P same (sym a.1.2.0, sym a.1.2.1) in
    (q.0 ∙ b.1.2.0, q.1 ∙ b.1.2.1)

pub lays_next : (index : Index) (periods : List PeriodParts) (offsets : List ℕ) (t n k total more : ℕ) (p : PeriodParts)
    → IsIndexUpTo index periods (length periods) → IsLaidTo index periods offsets t n total → place_in index t n ≡ Some k
    → slice_get periods k ≡ Some p → more ≡ total + length p.records → IsLaidTo index periods (slice_set offsets k total) t (n + 1) more
lays_next index periods offsets t n k total more p all laid place at sum = record {
  wide = length_written offsets k total ∙ laid.wide;
  so_far =
      let found = all.right t n k place in
      let same : found.1.0 ≡ p = one_there periods k found.1.0 p found.1.1 at in
      let P : PeriodParts → Type 0 = λ q. IsNumbered t n q in
      let adds_p = one_adds periods t n k p at (subst P same found.1.2) (only_there index periods t n k all place) in
      let before = laid.so_far in
      omega arith;
  offset = λ m j below found. dite (ℕ_discrete j k)
      (λ same.
      let P : ℕ → Type 0 = λ i. place_in index t m ≡ Some i in
      let numbers = same_number index periods t m t n k all (subst P same found) place in
      let within = slice_get_within periods k p at in
      let wide = laid.wide in
      let Q : ℕ → ℕ → Type 0 = λ i x. slice_index (slice_set offsets k total) i ≡ records_before periods t x in
      subst (λ x. Q j x) (sym numbers.1) (subst (λ i. Q i n) (sym same) (index_written offsets k total (omega arith) ∙ laid.so_far)))
      (λ other.
      let apart : m ≢ n = λ e.
      let P : ℕ → Type 0 = λ x. place_in index t x ≡ Some j in
      other (ap (λ (o : Option ℕ). unwrap_or o j) (sym (subst P e found) ∙ place)) in
      index_unwritten offsets k j total other ∙ laid.offset m j (omega arith) found);
}

pub keeps_others : (index : Index) (periods : List PeriodParts) (offsets : List ℕ) (t n k total : ℕ)
    → IsIndexUpTo index periods (length periods) → place_in index t n ≡ Some k → KeepsOthers index offsets (slice_set offsets k total) t
keeps_others index periods offsets t n k total all place = λ u m j other found.
    index_unwritten offsets k j total (λ same.
    let P : ℕ → Type 0 = λ i. place_in index u m ≡ Some i in
    other (same_number index periods u m t n k all (subst P same found) place).0)

pub keeps_none : (index : Index) (offsets : List ℕ) (t : ℕ) → KeepsOthers index offsets offsets t
keeps_none index offsets t = λ u m j other found. refl

pub keeps_both : (index : Index) (xs ys zs : List ℕ) (t : ℕ) → KeepsOthers index xs ys t → KeepsOthers index ys zs t → KeepsOthers index xs zs t
keeps_both index xs ys zs t first second = λ u m j other found. second u m j other found ∙ first u m j other found

-- behind a number that no period of a tenant has, none has one
no_hole : (index : Index) (periods : List PeriodParts) (t n d : ℕ) → AreOfRolls periods → AreJoined periods
    → IsIndexUpTo index periods (length periods) → place_in index t n ≡ None → (k : ℕ) → place_in index t (n + d) ≡ Some k → ⊥
no_hole index periods t n zero kept joined all none k found =
    let P : ℕ → Type 0 = λ m. place_in index t m ≡ Some k in
    let there : place_in index t n ≡ Some k = subst P (omega arith) found in
    let clash : ◌≡◌ {A = Option ℕ} None (Some k) = sym none ∙ there in
    cc
no_hole index periods t n (suc d) kept joined all none k found =
    let right = all.right t (n + suc d) k found in
    let q = right.1.0 in
    let numbered = right.1.2 in
    elim (joined.led q (is_element periods k q right.1.1)) [
      | inl first ↦ let number = numbered.1 in absurd (omega arith)
      | inr led ↦
          let number = numbered.1 in
          let before = led_from periods index led.0 q (n + d) kept all led.1 led.2 (omega arith) in
          let P : ℕ → Type 0 = λ u. place_in index u (n + d) ≡ Some before.0 in
          no_hole index periods t n d kept joined all none before.0 (subst P numbered.0 before.2)
    ]

-- where a tenant's periods end, all are laid out
pub all_laid : (index : Index) (periods : List PeriodParts) (offsets : List ℕ) (t n total : ℕ) → IsIndexUpTo index periods (length periods)
    → IsLaidTo index periods offsets t n total → ((m k : ℕ) → place_in index t m ≡ Some k → m < n) → IsLaid index periods offsets t total
all_laid index periods offsets t n total all laid ends = record {
  offset = λ m k found. laid.offset m k (ends m k found) found;
  room = λ m k p found at.
      let less = ends m k found in
      let right = all.right t m k found in
      let same : right.1.0 ≡ p = one_there periods k right.1.0 p right.1.1 at in
      let P : PeriodParts → Type 0 = λ q. IsNumbered t m q in
      let later = before_later periods t m p k n at (subst P same right.1.2) less in
      let sum = laid.so_far in
      omega arith;
}

pub ends_there : (index : Index) (periods : List PeriodParts) (t n : ℕ) → AreOfRolls periods → AreJoined periods
    → IsIndexUpTo index periods (length periods) → place_in index t n ≡ None → (m k : ℕ) → place_in index t m ≡ Some k → m < n
ends_there index periods t n kept joined all none m k found = dite (dec_lt m n)
    (λ less. less)
    (λ more.
    let P : ℕ → Type 0 = λ x. place_in index t x ≡ Some k in
    let there : place_in index t (n + (m - n)) ≡ Some k = subst P (omega arith) found in
    absurd (no_hole index periods t n (m - n) kept joined all none k there))

pub ends_last : (index : Index) (periods : List PeriodParts) (t n : ℕ) → AreOfRolls periods → IsIndexUpTo index periods (length periods)
    → max_period < n → (m k : ℕ) → place_in index t m ≡ Some k → m < n
ends_last index periods t n kept all past m k found =
    let right = all.right t m k found in
    let number = right.1.2.1 in
    let most = (kept k right.1.0 right.1.1).sound.period in
    omega arith

-- ---- all tenants

-- the index knows tenants below the most alone
pub tenant_below : (index : Index) (periods : List PeriodParts) (t n k : ℕ) → IsIndexUpTo index periods (length periods)
    → place_in index t n ≡ Some k → t < max_tenants
tenant_below index periods t n k all found = dite (dec_lt t max_tenants)
    (λ less. less)
    (λ more.
    let many = all.complete in
    let P : Option ℕ → Type 0 = λ o. ◌≡◌ {A = Option ℕ} o (Some k) in
    let past = slice_get_past index.places.items t (omega arith) in
    let none : place_in index t n ≡ None = ap (option_and_then _) past in
    let clash : ◌≡◌ {A = Option ℕ} None (Some k) = sym none ∙ found in
    absurd cc)

list_before : {A : Type 0} (xs : List (List A)) (x : List A) (i : ℕ) → i < length xs → list_at (xs ++ x ∷ []) i ≡ list_at xs i
list_before {A = A} [] x i below = absurd (omega arith)
list_before {A = A} (y ∷ ys) x zero below = refl
list_before {A = A} (y ∷ ys) x (suc i) below = list_before ys x i (omega arith)

list_last : {A : Type 0} (xs : List (List A)) (x : List A) → list_at (xs ++ x ∷ []) (length xs) ≡ x
list_last {A = A} [] x = refl
list_last {A = A} (y ∷ ys) x = list_last ys x

list_behind : {A : Type 0} (xs : List (List A)) (x : List A) (i : ℕ) → length xs < i → list_at (xs ++ x ∷ []) i ≡ []
list_behind {A = A} [] x zero past = absurd (omega arith)
list_behind {A = A} [] x (suc i) past = refl
list_behind {A = A} (y ∷ ys) x zero past = absurd (omega arith)
list_behind {A = A} (y ∷ ys) x (suc i) past = list_behind ys x i (omega arith)

abbrev pub none_yet : Option ℕ
none_yet = None

none_in_row : (n x i : ℕ) → ¬ (slice_get (replicate n none_yet) x ≡ Some (Some i))
none_in_row zero x i e = let below = slice_get_within [] x (Some i) e in absurd (omega arith)
none_in_row (suc n) zero i e = let f : ◌≡◌ {A = Option ℕ} None (Some i) = ap (λ (o : Option (Option ℕ)). unwrap_or o none_yet) e in cc
none_in_row (suc n) (suc x) i e = none_in_row n x i e

pub lays_none : (index : Index) (periods : List PeriodParts) (offsets : List ℕ) → length offsets ≡ length periods
    → AreLaid index periods offsets [] 0
lays_none index periods offsets wide = record {
  wide = wide;
  rows = refl;
  laid = λ t below. absurd (omega arith);
  empty = λ t x i e. let below = slice_get_within [] x (Some i) e in absurd (omega arith);
}

pub lays_one_more : (index : Index) (periods : List PeriodParts) (old new : List ℕ) (holders : List (List (Option ℕ))) (t total : ℕ)
    → AreLaid index periods old holders t → length new ≡ length periods → IsLaid index periods new t total → KeepsOthers index old new t
    → AreLaid index periods new (holders ++ replicate total none_yet ∷ []) (t + 1)
lays_one_more index periods old new holders t total all wide laid others = record {
  wide = wide;
  rows = let many = length-append holders (replicate total none_yet ∷ []) in let rows = all.rows in omega arith;
  laid = λ u below. dite (ℕ_discrete u t)
      (λ same.
      let rows = all.rows in
      let P : ℕ → Type 0 = λ x. IsLaid index periods new u (length (list_at (holders ++ replicate total none_yet ∷ []) x)) in
      let Q : ℕ → Type 0 = λ x. IsLaid index periods new x total in
      let R : List (Option ℕ) → Type 0 = λ row. IsLaid index periods new u (length row) in
      subst P (all.rows ∙ sym same) (subst R (sym (list_last holders (replicate total none_yet)))
      (let S : ℕ → Type 0 = λ n. IsLaid index periods new u n in subst S (sym (length-replicate total none_yet)) (subst Q (sym same) laid))))
      (λ other.
      let rows = all.rows in
      let was = all.laid u (omega arith) in
      let R : List (Option ℕ) → Type 0 = λ row. IsLaid index periods new u (length row) in
      subst R (sym (list_before holders (replicate total none_yet) u (omega arith))) (record {
        offset = λ n k found. others u n k other found ∙ was.offset n k found;
        room = was.room;
      }));
  empty = λ u x i e. dite (ℕ_discrete u t)
      (λ same.
      let R : List (Option ℕ) → Type 0 = λ row. slice_get row x ≡ Some (Some i) in
      let P : ℕ → Type 0 = λ y. slice_get (list_at (holders ++ replicate total none_yet ∷ []) y) x ≡ Some (Some i) in
      none_in_row total x i (subst R (list_last holders (replicate total none_yet)) (subst P (same ∙ sym all.rows) e)))
      (λ other. dite (dec_lt u t)
      (λ less.
      let rows = all.rows in
      let R : List (Option ℕ) → Type 0 = λ row. slice_get row x ≡ Some (Some i) in
      all.empty u x i (subst R (list_before holders (replicate total none_yet) u (omega arith)) e))
      (λ more.
      let rows = all.rows in
      let R : List (Option ℕ) → Type 0 = λ row. slice_get row x ≡ Some (Some i) in
      let there = subst R (list_behind holders (replicate total none_yet) u (omega arith)) e in
      let below = slice_get_within [] x (Some i) there in
      absurd (omega arith)));
}
