-- Each move keeps the one list.
use Rattle.std.proofs.Common.{◌≡◌, ◌≢◌, ◌⊎◌, ◌≤◌, ◌<◌, ◌==◌, ℕ, zero, suc, ◌+◌, ◌-◌, List, [], ◌∷◌, ◌++◌, set, map, Bool, true, false, cond, not, refl, sym, ap, ◌∙◌, subst, ⊎_elim, inl, inr, arith}
use Rattle.std.specs.Prelude.{filter, sum_by, All, Option, Some, None}
use mathlib.Core.Option.{some, none, some-ne-none, some-injective}
use lib.ListN.{get_elem?}
use Rattle.atomic_table.specs.Table.{Allows, Enters, Splits, Joins, Me, State, keeps, step}
use Rattle.atomic_table.proofs.Lists.{at_set, at_snoc, set_again}
use Rattle.std.proofs.lemmas.List.Elements.{filter-append, All-append, All-cons, All-head, All-nil, All-tail, All-weaker}
use Rattle.std.proofs.lemmas.List.Sums.{sum_by-cons, sum_by-append}
use Rattle.std.proofs.lemmas.List.{append_assoc, append-nil}
use Rattle.std.proofs.lemmas.Bool.Decides.{nat_tests}
use Rattle.tenant_core.specs.Journals.{Recorded, last_of}
use Rattle.tenant_core.specs.declared.journal.Record.{Record}
use Rattle.one_list.specs.declared.step.Beginning.{Beginning}
use Rattle.one_list.specs.declared.step.Done.{Done}
use Rattle.one_list.specs.declared.step.Size.{Size}
use Rattle.one_list.specs.declared.rule.Claim.{Claim}
use Rattle.one_list.specs.Steps.{IsBeginning, Place, done, done_by, done_last, last_place, of_tenant}
use Rattle.one_list.specs.Rules.{new_claims, first_view, claim, concerns, IsRightClaim, AllFit, is_kind, speaks_of, claim_count, AreBelow, ChronicleInvariant, IsPartNumber, steps_by, claim_after, claims_after, Adds, LookShows, Meets, met_claims, first_claim, other_claims, claims_of, watching}

-- ---- sums over all views

module _ {A : Type 0} (f : A → ℕ) where
  -- the sum after a change of one
  pub sum_set : (xs : List A) (i : ℕ) (x y : A) → get_elem? xs i ≡ some x → sum_by f (set xs i y) + f x ≡ sum_by f xs + f y
  sum_set [] i x y e = absurd (some-ne-none x (sym e))
  sum_set (z ∷ zs) zero x y e = let same : f z ≡ f x = ap f (some-injective z x e) in omega (arith, sum_by-cons f y zs, sum_by-cons f z zs)
  sum_set (z ∷ zs) (suc i) x y e = omega (arith, sum_set zs i x y e, sum_by-cons f z (set zs i y), sum_by-cons f z zs)

  pub at_most_sum : (xs : List A) (i : ℕ) (x : A) → get_elem? xs i ≡ some x → f x ≤ sum_by f xs
  at_most_sum [] i x e = absurd (some-ne-none x (sym e))
  at_most_sum (z ∷ zs) zero x e = let same : f z ≡ f x = ap f (some-injective z x e) in omega (arith, sum_by-cons f z zs)
  at_most_sum (z ∷ zs) (suc i) x e = omega (arith, at_most_sum zs i x e, sum_by-cons f z zs)

  -- two of them are at most all
  pub two_of_sum : (xs : List A) (i j : ℕ) (x y : A) → get_elem? xs i ≡ some x → get_elem? xs j ≡ some y → j ≢ i → f x + f y ≤ sum_by f xs
  two_of_sum [] i j x y e h n = absurd (some-ne-none x (sym e))
  two_of_sum (z ∷ zs) zero zero x y e h n = absurd (n refl)
  two_of_sum (z ∷ zs) zero (suc j) x y e h n = let same : f z ≡ f x = ap f (some-injective z x e) in omega (arith, at_most_sum zs j y h, sum_by-cons f z zs)
  two_of_sum (z ∷ zs) (suc i) zero x y e h n = let same : f z ≡ f y = ap f (some-injective z y h) in omega (arith, at_most_sum zs i x e, sum_by-cons f z zs)
  two_of_sum (z ∷ zs) (suc i) (suc j) x y e h n = omega (arith, two_of_sum zs i j x y e h (λ s. n (ap suc s)), sum_by-cons f z zs)

-- ---- claims

fit-append : (log : List Done) (v w : List Claim) → AllFit log v → AllFit log w → AllFit log (v ++ w)
fit-append log [] w a b = b
fit-append log (c ∷ cs) w a b = (a.0, fit-append log cs w a.1 b)

-- a beginning is one of more steps too
begins_more : (log es : List Done) (b : Beginning) → IsBeginning log b → IsBeginning (log ++ es) b
begins_more log es b h =
    (h.0 ++ of_tenant b.tenant es, filter-append (λ (e : Done). e.tenant == b.tenant) log es ∙ (ap (λ l. l ++ of_tenant b.tenant es) h.1 ∙ append_assoc b.steps h.0 (of_tenant b.tenant es)))

met_more : (log es : List Done) (met : List Beginning) → All (IsBeginning log) met → All (IsBeginning (log ++ es)) met
met_more log es met all = All-weaker (IsBeginning log) (IsBeginning (log ++ es)) (λ b h. begins_more log es b h) met all

-- the claims, after more steps
all_after : (log es : List Done) (v : List Claim) → AllFit log v → AllFit (log ++ es) (map (claim_after es) v)
all_after log es [] f = tt
all_after log es (c ∷ cs) f = ((filter-append (concerns c) log es ∙ ap (λ l. l ++ filter (concerns c) es) f.0.0, met_more log es c.met f.0.1), all_after log es cs f.1)

-- a claim that the step does not concern
fits_else : (log : List Done) (e : Done) (c : Claim) → concerns c e ≡ false → IsRightClaim log c → IsRightClaim (log ++ e ∷ []) c
fits_else log e c n f = (filter-append (concerns c) log (e ∷ []) ∙ (ap (λ b. filter (concerns c) log ++ cond b (e ∷ []) []) n ∙ (append-nil _ ∙ f.0)), met_more log (e ∷ []) c.met f.1)

-- whom a claim concerns that concerns the step
owner : (c : Claim) (e : Done) → concerns c e ≡ true → (speaks_of true e.worker c ≡ true) ⊎ (speaks_of false e.tenant c ≡ true)
owner c e h = by c.of_worker refl
  where
    by : (b : Bool) → c.of_worker ≡ b → (speaks_of true e.worker c ≡ true) ⊎ (speaks_of false e.tenant c ≡ true)
    by true is = inl (grind (arith, nat_tests, is, h))
    by false is = inr (grind (arith, nat_tests, is, h))

counts-cons : (b : Bool) (n : ℕ) (c : Claim) (cs : List Claim) → claim_count b n (c ∷ cs) ≡ cond (speaks_of b n c) 1 0 + claim_count b n cs
counts-cons b n c cs = sum_by-cons _ c cs

count_after : (b : Bool) (n : ℕ) (es : List Done) (v : List Claim) → claim_count b n (map (claim_after es) v) ≡ claim_count b n v
count_after b n es [] = refl
count_after b n es (c ∷ cs) = counts-cons b n (claim_after es c) (map (claim_after es) cs) ∙ (ap (λ k. cond (speaks_of b n c) 1 0 + k) (count_after b n es cs) ∙ sym (counts-cons b n c cs))

counted : (b : Bool) (n : ℕ) (c : Claim) (cs : List Claim) → speaks_of b n c ≡ true → claim_count b n (c ∷ cs) ≡ 0 → ⊥
counted b n c cs is zeros = absurd (omega (arith, sym zeros ∙ (counts-cons b n c cs ∙ ap (λ t. cond t 1 0 + claim_count b n cs) is)))

rest_none : (b : Bool) (n : ℕ) (c : Claim) (cs : List Claim) → claim_count b n (c ∷ cs) ≡ 0 → claim_count b n cs ≡ 0
rest_none b n c cs zeros = omega (arith, sym zeros ∙ counts-cons b n c cs)

-- where nobody of the step is claimed, the claims stay right
all_else : (log : List Done) (e : Done) (v : List Claim) → claim_count true e.worker v ≡ 0 → claim_count false e.tenant v ≡ 0 → AllFit log v → AllFit (log ++ e ∷ []) v
all_else log e [] p q f = tt
all_else log e (c ∷ cs) p q f = (by (concerns c e) refl, all_else log e cs (rest_none true e.worker c cs p) (rest_none false e.tenant c cs q) f.1)
  where
    by : (b : Bool) → concerns c e ≡ b → IsRightClaim (log ++ e ∷ []) c
    by true is = absurd (⊎_elim (λ h. counted true e.worker c cs h p) (λ h. counted false e.tenant c cs h q) (owner c e is))
    by false is = fits_else log e c is f.0

-- the same for the step of a record, if there is one
none_else : (log : List Done) (w : ℕ) (at : Place) (m : Option Record) (v : List Claim) → claim_count true w v ≡ 0 → claim_count false at.tenant v ≡ 0 → AllFit log v → AllFit (log ++ done_by w at m) v
none_else log w at None v p q f = subst (λ l. AllFit l v) (sym (append-nil log)) f
none_else log w at (Some r) v p q f = all_else log (done w at r) v p q f

-- the step of a record is of that tenant by that worker
all_below : (size : Size) (log : List Done) (w : ℕ) (at : Place) (m : Option Record) → AreBelow size log → at.tenant < size.tenants → w < size.workers → AreBelow size (log ++ done_by w at m)
all_below size log w at None b p q = subst (AreBelow size) (sym (append-nil log)) b
all_below size log w at (Some r) b p q =
    let P : Done → Type 0 = λ e. (e.tenant < size.tenants) × (e.worker < size.workers) in
    All-append P log (done w at r ∷ []) b (All-cons P (done w at r) [] (p, q) (All-nil P))

-- ---- the views after a change of one

-- what the rule says of all views, where one of them changes and counts as many claims
fit_set : (log : List Done) (views : List (List Claim)) (id : ℕ) (w : List Claim) → ((j : ℕ) (u : List Claim) → j ≢ id → get_elem? views j ≡ some u → AllFit log u)
    → AllFit log w → (j : ℕ) (u : List Claim) → get_elem? (set views id w) j ≡ some u → AllFit log u
fit_set log views id w others mine j u e =
    ⊎_elim (λ (x : (j ≡ id) × (w ≡ u)). subst (AllFit log) x.1 mine) (λ (x : (j ≢ id) × (get_elem? views j ≡ some u)). others j u x.0 x.1) (at_set views id j w u e)

-- ---- a step

adds : (size : Size) (slots id word w t period : ℕ) (v : List Claim) (j : Recorded) (f : ℕ → ℕ) → steps_by v period j.records ≡ done_last w t period j.records → 0 < claim_count true w v → 0 < claim_count false t v
    → t < size.tenants → w < size.workers
    → Allows (λ (s : State Recorded (List Claim)). ChronicleInvariant size s.views) slots id (v, []) word f (Adds (step slots word 0 period (some j)) (v, []))
adds size slots id word w t period v j f by p q tenant worker s k homes at small =
    let m = last_of j.records in
    let place = last_place t period j.records in
    let es = done_by w place m in
    let u = map (claim_after es) v in
    let none_of : (b : Bool) (n : ℕ) → IsPartNumber size b n → 0 < claim_count b n v → (i : ℕ) (x : List Claim) → i ≢ id → get_elem? s.views i ≡ some x → claim_count b n x ≡ 0
    = λ b n a some_here i x apart there. omega (arith, k.once b n a, two_of_sum (claim_count b n) s.views id i v x at there apart) in (
      u,
      keeps,
      tt,
      record {
        log = k.log ++ es;
        fits = fit_set (k.log ++ es) s.views id u
            (λ i x apart there. none_else k.log w place m x (none_of true w worker p i x apart there) (none_of false t tt q i x apart there) (k.fits i x there))
            (all_after k.log es v (k.fits id v at));
        once = λ b n a. omega (arith, k.once b n a, sum_set (claim_count b n) s.views id v u at, count_after b n es v);
        below = all_below size k.log w place m k.below tenant worker;
      },
      ap (λ z. (map (claim_after z) v, [])) (sym by),
    )

self_equal : (n : ℕ) → (n == n) ≡ true
self_equal n = grind (arith, nat_tests)

-- a step of the worker and the tenant that are claimed
pub adds_as : (size : Size) (slots id word : ℕ) (me : Me Recorded (List Claim)) (worker tenant period : ℕ) (j : Recorded) (f : ℕ → ℕ) (ls js : List Done) (met : List Beginning)
    → me ≡ (claim true worker ls met ∷ claim false tenant js [] ∷ [], []) → tenant < size.tenants → worker < size.workers
    → Allows (λ (s : State Recorded (List Claim)). ChronicleInvariant size s.views) slots id me word f (Adds (step slots word 0 period (some j)) me)
adds_as size slots id word me worker tenant period j f ls js met is t w =
    let v = claim true worker ls met ∷ claim false tenant js [] ∷ [] in
    let here : 0 < claim_count true worker v = rw (self_equal worker) (omega arith) in
    let there : 0 < claim_count false tenant v = rw (self_equal tenant) (omega arith) in
    subst (λ (m : Me Recorded (List Claim)). Allows (λ (s : State Recorded (List Claim)). ChronicleInvariant size s.views) slots id m word f (Adds (step slots word 0 period (some j)) m)) (sym is)
    (adds size slots id word worker tenant period v j f refl here there t w)

-- what the step of a record made of both claims
both_by : (w : ℕ) (at : Place) (m : Option Record) (ls js : List Done) (met : List Beginning)
    → map (claim_after (done_by w at m)) (claim true w ls met ∷ claim false at.tenant js [] ∷ []) ≡ claim true w (ls ++ done_by w at m) met ∷ claim false at.tenant (js ++ done_by w at m) [] ∷ []
both_by w at None ls js met = refl
both_by w at (Some r) ls js met =
    λ i. claim true w (ls ++ cond (self_equal w i) (done w at r ∷ []) []) met ∷ claim false at.tenant (js ++ cond (self_equal at.tenant i) (done w at r ∷ []) []) [] ∷ []

both_after : (w t period : ℕ) (records : List Record) (ls js : List Done) (met : List Beginning)
    → map (claim_after (done_last w t period records)) (claim true w ls met ∷ claim false t js [] ∷ [])
    ≡ claim true w (ls ++ done_last w t period records) met ∷ claim false t (js ++ done_last w t period records) [] ∷ []
both_after w t period records ls js met = both_by w (last_place t period records) (last_of records) ls js met

-- both passes were put together, and the last record was told
pub after_add : (w t period : ℕ) (j : Recorded) (ls js : List Done) (met : List Beginning) (theirs mine both after : Me Recorded (List Claim)) → theirs ≡ (claim true w ls met ∷ [], []) → mine ≡ (claim false t js [] ∷ [], [])
    → both ≡ (theirs.0 ++ mine.0, theirs.1) → after ≡ (claims_after period (some j) both.0, both.1)
    → after ≡ (claim true w (ls ++ done_last w t period j.records) met ∷ claim false t (js ++ done_last w t period j.records) [] ∷ [], [])
after_add w t period j ls js met theirs mine both after a b joined told =
    let is : both ≡ (claim true w ls met ∷ claim false t js [] ∷ [], []) = joined ∙ (λ i. ((a i).0 ++ (b i).0, (a i).1)) in
    told ∙ (ap (λ (m : Me Recorded (List Claim)). (claims_after period (some j) m.0, m.1)) is ∙ (λ i. (both_after w t period j.records ls js met i, [])))

-- a look
pub looks_as : (size : Size) (slots id word : ℕ) (me : Me Recorded (List Claim)) (known : Size) → size ≡ known
    → Allows (λ (s : State Recorded (List Claim)). ChronicleInvariant size s.views) slots id me word (λ n. n) (LookShows known (step slots word 0 0 none) me)
looks_as size slots id word me known is s k homes at small =
    (me.0, keeps, tt, subst (λ l. ChronicleInvariant size l) (sym (set_again s.views id me.0 at)) k, ((k.log, k.fits id me.0 at, subst (λ (z : Size). AreBelow z k.log) is k.below, λ b n a. omega (arith, k.once b n (subst (λ (z : Size). IsPartNumber z b n) (sym is) a), at_most_sum (claim_count b n) s.views id me.0 at)), refl))

-- ---- a meeting

-- what is claimed of the tenant is the whole of its steps, and so a beginning of them
met_fit : (log : List Done) (w t : ℕ) (ls js : List Done) (met : List Beginning) → AllFit log (claim true w ls met ∷ claim false t js [] ∷ [])
    → AllFit log (met_claims (claim true w ls met ∷ claim false t js [] ∷ []))
met_fit log w t ls js met f =
    let b : Beginning = record { tenant = t; steps = js } in
    let whole : IsBeginning log b = ([], f.1.0.0 ∙ sym (append-nil js)) in
    ((f.0.0, All-append (IsBeginning log) met (b ∷ []) f.0.1 (All-cons (IsBeginning log) b [] whole (All-nil (IsBeginning log)))), f.1)

-- a worker and a tenant that are claimed meet
pub meets_as : (size : Size) (slots id word : ℕ) (me : Me Recorded (List Claim)) (known : Size) (w t : ℕ) (ls js : List Done) (met : List Beginning) → size ≡ known
    → me ≡ (claim true w ls met ∷ claim false t js [] ∷ [], [])
    → Allows (λ (s : State Recorded (List Claim)). ChronicleInvariant size s.views) slots id me word (λ n. n) (Meets known (step slots word 0 0 none) me)
meets_as size slots id word me known w t ls js met is claims =
    let v = claim true w ls met ∷ claim false t js [] ∷ [] in
    let u = met_claims v in
    subst (λ (m : Me Recorded (List Claim)). Allows (λ (s : State Recorded (List Claim)). ChronicleInvariant size s.views) slots id m word (λ n. n) (Meets known (step slots word 0 0 none) m)) (sym claims)
    (λ s k homes at small. (
      u,
      keeps,
      tt,
      record {
        log = k.log;
        fits = fit_set k.log s.views id u (λ i x apart there. k.fits i x there) (met_fit k.log w t ls js met (k.fits id v at));
        once = λ b n a. omega (arith, k.once b n a, sum_set (claim_count b n) s.views id v u at, counts-cons b n (claim true w ls met) (claim false t js [] ∷ []), counts-cons b n (claim true w ls (met ++ record { tenant = t; steps = js } ∷ [])) (claim false t js [] ∷ []));
        below = k.below;
      },
      ((k.log, k.fits id v at, subst (λ (z : Size). AreBelow z k.log) is k.below, λ b n a. omega (arith, k.once b n (subst (λ (z : Size). IsPartNumber z b n) (sym is) a), at_most_sum (claim_count b n) s.views id v at)), refl),
    ))

-- what a meeting made of two passes that were put together
pub after_meet : (w t : ℕ) (ls js : List Done) (met : List Beginning) (theirs mine both after : Me Recorded (List Claim)) → theirs ≡ (claim true w ls met ∷ [], []) → mine ≡ (claim false t js [] ∷ [], [])
    → both ≡ (theirs.0 ++ mine.0, theirs.1) → after ≡ (met_claims both.0, both.1)
    → after ≡ (claim true w ls (met ++ record { tenant = t; steps = js } ∷ []) ∷ claim false t js [] ∷ [], [])
after_meet w t ls js met theirs mine both after a b joined told =
    let is : both ≡ (claim true w ls met ∷ claim false t js [] ∷ [], []) = joined ∙ (λ i. ((a i).0 ++ (b i).0, (a i).1)) in
    told ∙ ap (λ (m : Me Recorded (List Claim)). (met_claims m.0, m.1)) is

-- ---- cut in two, and put together

pub joins : (size : Size) (id other : ℕ) (v w : List Claim) → Joins (λ (s : State Recorded (List Claim)). ChronicleInvariant size s.views) id v other w (v ++ w) []
joins size id other v w s k at apart there =
    let both = v ++ w in
    let there' : get_elem? s.views other ≡ some w = ⊎_elim (λ (x : (other ≡ id) × (both ≡ w)). absurd (apart x.0)) (λ (x : (other ≢ id) × (get_elem? s.views other ≡ some w)). x.1) (at_set s.views id other both w there) in
    record {
      log = k.log;
      fits = fit_set k.log (set s.views id both) other [] (λ j u _ e. fit_set k.log s.views id both (λ i y _ e'. k.fits i y e') (fit-append k.log v w (k.fits id v at) (k.fits other w there')) j u e) tt;
      once = λ b n a. omega (arith, k.once b n a, sum_set (claim_count b n) s.views id v both at, sum_set (claim_count b n) (set s.views id both) other w [] there, sum_by-append (λ c. cond (speaks_of b n c) 1 0) v w);
      below = k.below;
    }

-- a pass may be cut into parts whose claims are right and count as many
splits : (size : Size) (id : ℕ) (v left right : List Claim) → ((log : List Done) → AllFit log v → AllFit log left × AllFit log right)
    → ((b : Bool) (n : ℕ) → claim_count b n left + claim_count b n right ≡ claim_count b n v)
    → Splits (λ (s : State Recorded (List Claim)). ChronicleInvariant size s.views) id v left right
splits size id v left right fit counts s k at =
    let mine = fit k.log (k.fits id v at) in
    record {
      log = k.log;
      fits = λ j u e. ⊎_elim
          (λ was. fit_set k.log s.views id left (λ i y _ e'. k.fits i y e') mine.0 j u was)
          (λ (same : right ≡ u). subst (AllFit k.log) same mine.1)
          (at_snoc (set s.views id left) right u j e);
      once = λ b n a. omega (arith, k.once b n a, sum_set (claim_count b n) s.views id v left at, counts b n, sum_by-append (claim_count b n) (set s.views id left) (right ∷ []), sum_by-cons (claim_count b n) right []);
      below = k.below;
    }

fit_first : (log : List Done) (v : List Claim) → AllFit log v → AllFit log (other_claims v) × AllFit log (first_claim v)
fit_first log [] f = (tt, tt)
fit_first log (c ∷ cs) f = (f.1, (f.0, tt))

count_first : (b : Bool) (n : ℕ) (v : List Claim) → claim_count b n (other_claims v) + claim_count b n (first_claim v) ≡ claim_count b n v
count_first b n [] = refl
count_first b n (c ∷ cs) = omega (arith, counts-cons b n c cs, counts-cons b n c [])

pub splits_first : (size : Size) (id : ℕ) (v : List Claim) → Splits (λ (s : State Recorded (List Claim)). ChronicleInvariant size s.views) id v (other_claims v) (first_claim v)
splits_first size id v = splits size id v (other_claims v) (first_claim v) (λ log. fit_first log v) (λ b n. count_first b n v)

fit_by : (log : List Done) (c : Claim) (cs : List Claim) (b : Bool) → IsRightClaim log c → AllFit log cs → AllFit log (cond b (c ∷ cs) cs)
fit_by log c cs true f fs = (f, fs)
fit_by log c cs false f fs = fs

fit_kind : (log : List Done) (k : Bool) (v : List Claim) → AllFit log v → AllFit log (claims_of k v)
fit_kind log k [] f = tt
fit_kind log k (c ∷ cs) f = fit_by log c (claims_of k cs) (is_kind k c) f.0 (fit_kind log k cs f.1)

kinds_by : (b : Bool) (n : ℕ) (c : Claim) (cs : List Claim) (k : Bool) → claim_count b n (claims_of false cs) + claim_count b n (claims_of true cs) ≡ claim_count b n cs
    → claim_count b n (cond (not k) (c ∷ claims_of false cs) (claims_of false cs)) + claim_count b n (cond k (c ∷ claims_of true cs) (claims_of true cs)) ≡ claim_count b n (c ∷ cs)
kinds_by b n c cs true rest = omega (arith, counts-cons b n c cs, counts-cons b n c (claims_of true cs), rest)
kinds_by b n c cs false rest = omega (arith, counts-cons b n c cs, counts-cons b n c (claims_of false cs), rest)

count_kinds : (b : Bool) (n : ℕ) (v : List Claim) → claim_count b n (claims_of false v) + claim_count b n (claims_of true v) ≡ claim_count b n v
count_kinds b n [] = refl
count_kinds b n (c ∷ cs) = kinds_by b n c cs c.of_worker (count_kinds b n cs)

pub splits_kinds : (size : Size) (id : ℕ) (v : List Claim) → Splits (λ (s : State Recorded (List Claim)). ChronicleInvariant size s.views) id v (claims_of false v) (claims_of true v)
splits_kinds size id v = splits size id v (claims_of false v) (claims_of true v) (λ log f. (fit_kind log false v f, fit_kind log true v f)) (λ b n. count_kinds b n v)

-- ---- the start

new_fit : (b : Bool) (k n : ℕ) → AllFit [] (new_claims b k n)
new_fit b k zero = tt
new_fit b k (suc n) = ((refl, All-nil (IsBeginning [])), new_fit b (suc k) n)

-- no claims of the other kind, none below the first number, and one each
new_other : (b : Bool) (m k n : ℕ) → claim_count (not b) m (new_claims b k n) ≡ 0
new_other b m k zero = refl
new_other true m k (suc n) = omega (arith, counts-cons false m (claim true k [] []) (new_claims true (suc k) n), new_other true m (suc k) n)
new_other false m k (suc n) = omega (arith, counts-cons true m (claim false k [] []) (new_claims false (suc k) n), new_other false m (suc k) n)

is_of_same : (b : Bool) (m k : ℕ) → speaks_of b m (claim b k [] []) ≡ (k == m)
is_of_same true m k = refl
is_of_same false m k = refl

count_next : (b : Bool) (m k n : ℕ) → claim_count b m (new_claims b k (suc n)) ≡ cond (k == m) 1 0 + claim_count b m (new_claims b (suc k) n)
count_next b m k n = counts-cons b m (claim b k [] []) (new_claims b (suc k) n) ∙ ap (λ t. cond t 1 0 + claim_count b m (new_claims b (suc k) n)) (is_of_same b m k)

new_below : (b : Bool) (m k n : ℕ) → m < k → claim_count b m (new_claims b k n) ≡ 0
new_below b m k zero lt = refl
new_below b m k (suc n) lt =
    let apart : (k == m) ≡ false = grind (arith, nat_tests, lt) in
    omega (arith, count_next b m k n ∙ ap (λ t. cond t 1 0 + claim_count b m (new_claims b (suc k) n)) apart, new_below b m (suc k) n (omega arith))

once_by : (b : Bool) (m k n : ℕ) (t : Bool) → (k == m) ≡ t → claim_count b m (new_claims b (suc k) n) ≤ 1 → claim_count b m (new_claims b k (suc n)) ≤ 1
once_by b m k n true is rest =
    let same : k ≡ m = grind (arith, nat_tests, is) in
    omega (arith, count_next b m k n ∙ ap (λ t. cond t 1 0 + claim_count b m (new_claims b (suc k) n)) is, new_below b m (suc k) n (omega arith))
once_by b m k n false is rest = omega (arith, count_next b m k n ∙ ap (λ t. cond t 1 0 + claim_count b m (new_claims b (suc k) n)) is, rest)

new_once : (b : Bool) (m k n : ℕ) → claim_count b m (new_claims b k n) ≤ 1
new_once b m k zero = omega arith
new_once b m k (suc n) = once_by b m k n (k == m) refl (new_once b m (suc k) n)

first_once : (size : Size) (b : Bool) (m : ℕ) → claim_count b m (first_view size) ≤ 1
first_once size true m =
    omega (arith, sum_by-append (λ c. cond (speaks_of true m c) 1 0) (new_claims false 0 size.tenants) (new_claims true 0 size.workers), new_other false m 0 size.tenants, new_once true m 0 size.workers)
first_once size false m =
    omega (arith, sum_by-append (λ c. cond (speaks_of false m c) 1 0) (new_claims false 0 size.tenants) (new_claims true 0 size.workers), new_other true m 0 size.workers, new_once false m 0 size.tenants)

pub begins : (size : Size) → ChronicleInvariant size (first_view size ∷ [])
begins size =
    record {
      log = [];
      fits = fits;
      once = λ b m a. omega (arith, sum_by-cons (claim_count b m) (first_view size) [], first_once size b m);
      below = All-nil (λ e. (e.tenant < size.tenants) × (e.worker < size.workers));
    }
  where
    fits : (by : ℕ) (v : List Claim) → get_elem? (first_view size ∷ []) by ≡ some v → AllFit [] v
    fits zero v e = subst (AllFit []) (some-injective _ _ e) (fit-append [] _ _ (new_fit false 0 size.tenants) (new_fit true 0 size.workers))
    fits (suc by) v e = absurd (some-ne-none v (sym e))

-- a pass with no claim
pub enters : (size : Size) (slots word : ℕ) → Enters (λ (s : State Recorded (List Claim)). ChronicleInvariant size s.views) slots word (λ _ w. w ≡ [])
enters size slots word s k homes small = (
  [],
  record {
    log = k.log;
    fits = λ j u e. ⊎_elim (λ was. k.fits j u was) (λ (same : [] ≡ u). subst (AllFit k.log) same tt) (at_snoc s.views [] u j e);
    once = λ b n a. omega (arith, k.once b n a, sum_by-append (claim_count b n) s.views ([] ∷ []), sum_by-cons (claim_count b n) [] []);
    below = k.below;
  },
  refl,
)

-- a worker's steps are none if its number is that of no worker
none_by : (log : List Done) (n : ℕ) → All (λ e. e.worker < n) log → filter (λ e. e.worker == n) log ≡ []
none_by [] n below = refl
none_by (e ∷ es) n below =
    let apart : (e.worker == n) ≡ false = let least : e.worker < n = All-head (λ e. e.worker < n) e es below in grind (arith, nat_tests, least) in
    ap (λ (b : Bool). cond b (e ∷ filter (λ e. e.worker == n) es) (filter (λ e. e.worker == n) es)) apart
    ∙ none_by es n (All-tail (λ e. e.worker < n) e es below)

watch_right : (size : Size) (log : List Done) → AreBelow size log → AllFit log (watching size [])
watch_right size log below = (
  (
    none_by log size.workers (All-weaker (λ (e : Done). (e.tenant < size.tenants) × (e.worker < size.workers)) (λ e. e.worker < size.workers) (λ e both. both.1) log below),
    All-nil (IsBeginning log),
  ),
  tt,
)

-- it is counted under no part's number
watch_count : (size : Size) (b : Bool) (n : ℕ) → IsPartNumber size b n → claim_count b n (watching size []) ≡ 0
watch_count size false n a = refl
watch_count size true n a =
    let apart : (size.workers == n) ≡ false = let least : n < size.workers = a in grind (arith, nat_tests, least) in
    omega (arith, counts-cons true n (claim true size.workers [] []) [] ∙ ap (λ (t : Bool). cond t 1 0 + claim_count true n []) apart)

-- a pass of one who watches
pub watches : (size known : Size) (slots word : ℕ) → size ≡ known
    → Enters (λ (s : State Recorded (List Claim)). ChronicleInvariant size s.views) slots word (λ _ w. w ≡ watching known [])
watches size known slots word is s k homes small = (
  watching size [],
  record {
    log = k.log;
    fits = λ j u e. ⊎_elim (λ was. k.fits j u was) (λ (same : watching size [] ≡ u). subst (AllFit k.log) same (watch_right size k.log k.below)) (at_snoc s.views (watching size []) u j e);
    once = λ b n a. omega (arith, k.once b n a, watch_count size b n a, sum_by-append (claim_count b n) s.views (watching size [] ∷ []), sum_by-cons (claim_count b n) (watching size []) []);
    below = k.below;
  },
  ap (λ (z : Size). watching z []) is,
)

-- ---- parts that are handed out

-- the next claim, and the claims after it
pub next_claims : (b : Bool) (k n : ℕ) → k < n → new_claims b k (n - k) ≡ claim b k [] [] ∷ new_claims b (k + 1) (n - (k + 1))
next_claims b k n lt =
    let e : n - k ≡ suc (n - (k + 1)) = omega arith in
    let s : suc k ≡ k + 1 = omega arith in
    ap (new_claims b k) e ∙ ap (λ j. claim b k [] [] ∷ new_claims b j (n - (k + 1))) s

-- of claims of one kind
same_kind : (b : Bool) (k n : ℕ) → claims_of b (new_claims b k n) ≡ new_claims b k n
same_kind b k zero = refl
same_kind true k (suc n) = ap (λ l. claim true k [] [] ∷ l) (same_kind true (suc k) n)
same_kind false k (suc n) = ap (λ l. claim false k [] [] ∷ l) (same_kind false (suc k) n)

other_kind : (b : Bool) (k n : ℕ) → claims_of (not b) (new_claims b k n) ≡ []
other_kind b k zero = refl
other_kind true k (suc n) = other_kind true (suc k) n
other_kind false k (suc n) = other_kind false (suc k) n

pub tenants_of_first : (size : Size) → claims_of false (first_view size) ≡ new_claims false 0 size.tenants
tenants_of_first size = filter-append (is_kind false) (new_claims false 0 size.tenants) (new_claims true 0 size.workers) ∙ ((λ i. same_kind false 0 size.tenants i ++ other_kind true 0 size.workers i) ∙ append-nil _)

pub workers_of_first : (size : Size) → claims_of true (first_view size) ≡ new_claims true 0 size.workers
workers_of_first size = filter-append (is_kind true) (new_claims false 0 size.tenants) (new_claims true 0 size.workers) ∙ (λ i. other_kind false 0 size.tenants i ++ same_kind true 0 size.workers i)
