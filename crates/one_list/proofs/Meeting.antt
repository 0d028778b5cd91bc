-- A tenant's part and a worker's part agree.
use Rattle.std.proofs.Common.{◌≡◌, ◌==◌, ◌++◌, ℕ, Bool, true, false, cond, List, [], ◌∷◌, refl, sym, ap, ◌∙◌, subst}
use Rattle.std.specs.Prelude.{All, filter}
use Rattle.std.proofs.lemmas.List.Elements.{All-weaker}
use Rattle.one_list.specs.declared.step.Beginning.{Beginning}
use Rattle.one_list.specs.declared.step.Done.{Done}
use Rattle.one_list.specs.declared.step.Size.{Size}
use Rattle.one_list.specs.declared.rule.Claim.{Claim}
use Rattle.one_list.specs.Rules.{AreOfOneList, claim}
use Rattle.one_list.specs.Steps.{GoesOnFrom, IsBeginning, of_tenant, of_worker}

-- of two tests, either may come first
pub filter_both : {X : Type 0} (p q : X → Bool) (xs : List X) → filter p (filter q xs) ≡ filter q (filter p xs)
filter_both p q [] = refl
filter_both p q (x ∷ xs) = by (p x) (q x) refl refl (filter_both p q xs)
  where
    by : (a b : Bool) → p x ≡ a → q x ≡ b → filter p (filter q xs) ≡ filter q (filter p xs) → filter p (cond b (x ∷ filter q xs) (filter q xs)) ≡ filter q (cond a (x ∷ filter p xs) (filter p xs))
    by true true e f rest = rw (e, f) (ap (λ l. x ∷ l) rest)
    by true false e f rest = rw f rest
    by false true e f rest = rw e rest
    by false false e f rest = rest

-- of right claims, of a worker and of a tenant: what the worker did for the tenant is what the worker did of the tenant's steps
pub told_alike : (size : Size) (worker tenant : ℕ) (ls js : List Done) (met : List Beginning) (claims : List Claim) → claims ≡ claim true worker ls met ∷ claim false tenant js [] ∷ [] → AreOfOneList size claims
    → of_worker worker js ≡ of_tenant tenant ls
told_alike size worker tenant ls js met claims is told =
    let t = subst (AreOfOneList size) is told in
    ap (of_worker worker) (sym t.1.1.0.0) ∙ (filter_both (λ (e : Done). e.worker == worker) (λ (e : Done). e.tenant == tenant) t.0 ∙ ap (of_tenant tenant) t.1.0.0)

-- of right claims, of a worker and of a tenant: the tenant's steps go on from what the worker has met of them
pub met_before : (size : Size) (worker tenant : ℕ) (ls js : List Done) (met : List Beginning) (claims : List Claim)
    → claims ≡ claim true worker ls met ∷ claim false tenant js [] ∷ [] → AreOfOneList size claims → All (GoesOnFrom tenant js) met
met_before size worker tenant ls js met claims is told =
    let t = subst (AreOfOneList size) is told in
    All-weaker (IsBeginning t.0) (GoesOnFrom tenant js)
    (λ (b : Beginning) begun same. (begun.0, sym t.1.1.0.0 ∙ subst (λ (n : ℕ). of_tenant n t.0 ≡ b.steps ++ begun.0) same begun.1)) met t.1.0.1
