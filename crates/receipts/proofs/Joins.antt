-- Periods, one after another.
use Rattle.std.proofs.Common.{◌≡◌, ◌≢◌, ℕ, zero, suc, ◌+◌, ◌<◌, ◌≤◌, List, length, Option, Some, None, slice_get, unwrap_or, Contains, refl, sym, ap, subst, ◌∙◌, arith, inl, inr}
use Rattle.std.proofs.lemmas.Option.{get_or_from_slice_get, slice_get-get_or, slice_get_within}
use mathlib.Core.Logic.{dite}
use native.Mathlib.Decide.{ℕ_discrete}
use Rattle.tenant_core.specs.Closing.{IsPeriod}
use Rattle.tenant_core.specs.declared.period.PeriodParts.{PeriodParts}
use Rattle.receipts.specs.Audits.{AreJoined, HasGap, IsNumbered}
use Rattle.receipts.specs.Layout.{AreOfRolls, HasMapPerTenant, IsIndexUpTo, IsLedAt, place_in}
use Rattle.receipts.specs.declared.index.Index.{Index}

-- what is read is an element
pub is_element : {A : Type 0} (xs : List A) (k : ℕ) (x : A) → slice_get xs k ≡ Some x → Contains xs x
is_element {A = A} xs k x e = (k, slice_get_within xs k x e, get_or_from_slice_get xs k x x e)

-- an element is read
pub is_read : {A : Type 0} (xs : List A) (x : A) → Contains xs x → (k : ℕ) × (slice_get xs k ≡ Some x)
is_read {A = A} xs x c = (c.0, slice_get-get_or xs c.0 x c.1 ∙ ap Some c.2)

-- the ending of a period has the tenant's number, and the next number
pub ends_next : (p : PeriodParts) → IsPeriod p → (p.ending.tenant ≡ p.opening.tenant) × (p.ending.period ≡ p.opening.period + 1)
ends_next p kept =
    let P : PeriodParts → Type 0 = λ q. (q.ending.tenant ≡ p.opening.tenant) × (q.ending.period ≡ p.opening.period + 1) in
    subst P (sym kept.closed) (refl, refl)

-- where the index has nothing, nothing was noted; two that are found at one key are one
same_place : (a b : ℕ) → ◌≡◌ {A = Option ℕ} (Some a) (Some b) → a ≡ b
same_place a b e = ap (λ (o : Option ℕ). unwrap_or o a) e

-- the index with the period at that place
pub noted : (old new : Index) (periods : List PeriodParts) (k : ℕ) (p : PeriodParts) → IsIndexUpTo old periods k
    → slice_get periods k ≡ Some p → place_in old p.opening.tenant p.opening.period ≡ None
    → HasMapPerTenant new → place_in new p.opening.tenant p.opening.period ≡ Some k
    → ((t n : ℕ) → ¬ ((t ≡ p.opening.tenant) × (n ≡ p.opening.period)) → place_in new t n ≡ place_in old t n)
    → IsIndexUpTo new periods (k + 1)
noted old new periods k p was here free complete there others = record {
  complete = complete;
  found = λ j q below at. dite (ℕ_discrete j k)
      (λ same.
      let P : ℕ → Type 0 = λ i. slice_get periods i ≡ Some q in
      let one : q ≡ p = ap (λ (o : Option PeriodParts). unwrap_or o p) (sym (subst P same at) ∙ here) in
      let Q : PeriodParts → Type 0 = λ r. place_in new r.opening.tenant r.opening.period ≡ Some k in
      subst Q (sym one) there ∙ ap Some (sym same))
      (λ other.
      let old_place = was.found j q (omega arith) at in
      let apart : ¬ ((q.opening.tenant ≡ p.opening.tenant) × (q.opening.period ≡ p.opening.period))
      = λ e.
      let P : ℕ → ℕ → Type 0 = λ t n. place_in old t n ≡ Some j in
      let taken : place_in old p.opening.tenant p.opening.period ≡ Some j
      = subst (λ n. P p.opening.tenant n) e.1 (subst (λ t. P t q.opening.period) e.0 old_place) in
      let none : ◌≡◌ {A = Option ℕ} None (Some j) = sym free ∙ taken in
      cc in
      others q.opening.tenant q.opening.period apart ∙ old_place);
  right = λ t n j at. dite (ℕ_discrete t p.opening.tenant)
      (λ tenant. dite (ℕ_discrete n p.opening.period)
      (λ number.
      let P : ℕ → ℕ → Type 0 = λ u m. place_in new u m ≡ Some j in
      let here_too : place_in new p.opening.tenant p.opening.period ≡ Some j
      = subst (λ m. P p.opening.tenant m) number (subst (λ u. P u n) tenant at) in
      let one : k ≡ j = same_place k j (sym there ∙ here_too) in
      let G : ℕ → Type 0 = λ i. slice_get periods i ≡ Some p in
      ((let e = one in omega arith), (p, subst G one here, (sym tenant, sym number))))
      (λ other. further t n j at (λ e. other e.1)))
      (λ other. further t n j at (λ e. other e.0));
}
  where
    further : (t n j : ℕ) → place_in new t n ≡ Some j → ¬ ((t ≡ p.opening.tenant) × (n ≡ p.opening.period))
        → (j < k + 1) × ((q : PeriodParts) × (slice_get periods j ≡ Some q) × IsNumbered t n q)
    further t n j at apart =
        let r = was.right t n j (sym (others t n apart) ∙ at) in
        let below = r.0 in
        (omega arith, r.1)

-- a period whose tenant and number were noted stands twice
pub twice_there : (index : Index) (periods : List PeriodParts) (k j : ℕ) (q : PeriodParts) → IsIndexUpTo index periods k
    → slice_get periods k ≡ Some q → place_in index q.opening.tenant q.opening.period ≡ Some j → HasGap periods
twice_there index periods k j q was here at =
    let r = was.right q.opening.tenant q.opening.period j at in
    let below = r.0 in
    inl (j, k, r.1.0, q, (λ e. absurd (omega arith)), r.1.1, here, r.1.2)

-- a period that another leads to has it at the number before
pub led_from : (periods : List PeriodParts) (index : Index) (p q : PeriodParts) (m : ℕ) → AreOfRolls periods
    → IsIndexUpTo index periods (length periods) → Contains periods p → p.ending ≡ q.opening → q.opening.period ≡ m + 1
    → (k : ℕ) × (slice_get periods k ≡ Some p) × (place_in index q.opening.tenant m ≡ Some k)
led_from periods index p q m kept all there ends number =
    let at = is_read periods p there in
    let next = ends_next p (kept at.0 p at.1) in
    let below = slice_get_within periods at.0 p at.1 in
    let place = all.found at.0 p below at.1 in
    let tenant : p.opening.tenant ≡ q.opening.tenant = sym next.0 ∙ ap (λ o. o.tenant) ends in
    let period : p.opening.period + 1 ≡ q.opening.period = sym next.1 ∙ ap (λ o. o.period) ends in
    let number_is : p.opening.period ≡ m = omega arith in
    let P : ℕ → ℕ → Type 0 = λ t n. place_in index t n ≡ Some at.0 in
    (at.0, at.1, subst (λ n. P q.opening.tenant n) number_is (subst (λ t. P t p.opening.period) tenant place))

-- no period is there before one that is not the first
pub none_before : (index : Index) (periods : List PeriodParts) (k m : ℕ) (q : PeriodParts) → AreOfRolls periods
    → IsIndexUpTo index periods (length periods) → slice_get periods k ≡ Some q → q.opening.period ≡ m + 1
    → place_in index q.opening.tenant m ≡ None → HasGap periods
none_before index periods k m q kept all here number none =
    inr (
      q,
      is_element periods k q here,
      (λ e. absurd (omega arith)),
      λ p there ends.
          let at = led_from periods index p q m kept all there ends number in
          let clash : ◌≡◌ {A = Option ℕ} None (Some at.0) = sym none ∙ at.2 in
          cc,
    )

-- the one before it ends in another state
pub another_before : (index : Index) (periods : List PeriodParts) (k m j : ℕ) (q p : PeriodParts) → AreOfRolls periods
    → IsIndexUpTo index periods (length periods) → slice_get periods k ≡ Some q → q.opening.period ≡ m + 1
    → place_in index q.opening.tenant m ≡ Some j → slice_get periods j ≡ Some p → p.ending ≢ q.opening → HasGap periods
another_before index periods k m j q p kept all here number place before other =
    inr (
      q,
      is_element periods k q here,
      (λ e. absurd (omega arith)),
      λ r there ends.
          let at = led_from periods index r q m kept all there ends number in
          let same : j ≡ at.0 = same_place j at.0 (sym place ∙ at.2) in
          let P : ℕ → Type 0 = λ i. slice_get periods i ≡ Some p in
          let one : p ≡ r = ap (λ (o : Option PeriodParts). unwrap_or o p) (sym (subst P same before) ∙ at.1) in
          other (ap (λ (s : PeriodParts). s.ending) one ∙ ends),
    )

-- all are led and none stands twice
pub are_joined : (index : Index) (periods : List PeriodParts) → IsIndexUpTo index periods (length periods)
    → ((k : ℕ) → k < length periods → IsLedAt periods k) → AreJoined periods
are_joined index periods all led = record {
  once = λ j k p q at_p at_q numbered.
      let place_p = all.found j p (slice_get_within periods j p at_p) at_p in
      let place_q = all.found k q (slice_get_within periods k q at_q) at_q in
      let P : ℕ → ℕ → Type 0 = λ t n. place_in index t n ≡ Some j in
      let there : place_in index q.opening.tenant q.opening.period ≡ Some j
      = subst (λ n. P q.opening.tenant n) numbered.1 (subst (λ t. P t p.opening.period) numbered.0 place_p) in
      same_place j k (sym there ∙ place_q);
  led = λ q there.
      let at = is_read periods q there in
      led at.0 (slice_get_within periods at.0 q at.1) q at.1;
}

-- one more is kept
pub kept_more : (periods : List PeriodParts) (k : ℕ) (p : PeriodParts) → slice_get periods k ≡ Some p → IsPeriod p
    → ((j : ℕ) (q : PeriodParts) → j < k → slice_get periods j ≡ Some q → IsPeriod q)
    → (j : ℕ) (q : PeriodParts) → j < k + 1 → slice_get periods j ≡ Some q → IsPeriod q
kept_more periods k p here kept all j q below at = dite (ℕ_discrete j k)
    (λ same.
    let P : ℕ → Type 0 = λ i. slice_get periods i ≡ Some q in
    let one : p ≡ q = ap (λ (o : Option PeriodParts). unwrap_or o p) (sym here ∙ subst P same at) in
    subst IsPeriod one kept)
    (λ other. all j q (omega arith) at)

-- what is read at a place is the one there
pub one_there : {A : Type 0} (xs : List A) (k : ℕ) (x y : A) → slice_get xs k ≡ Some x → slice_get xs k ≡ Some y → x ≡ y
one_there {A = A} xs k x y at too = ap (λ (o : Option A). unwrap_or o x) (sym at ∙ too)

pub not_zero : (n : ℕ) → (n ≡ 0 → ⊥) → 1 ≤ n
not_zero zero is = absurd (is refl)
not_zero (suc n) is = omega arith
