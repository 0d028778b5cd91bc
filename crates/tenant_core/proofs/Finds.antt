-- Items found by a key that no two of them have.
use Rattle.std.proofs.Common.{arith, ◌≡◌, ◌≢◌, ◌<◌, ℕ, zero, suc, List, [], ◌∷◌, length, get_or, find, Some, None, is_some, Bool, true, false, cond, ◌||◌, subst, ◌∙◌, refl}
use Rattle.std.specs.List.{list_any}
use Rattle.std.specs.Cmp.{IsTotalOrder}
use Rattle.std.specs.declared.cmp.Ordering.{Ordering}
use Rattle.std.specs.declared.cmp.Ordering.TheVariants.{Equal}
use Rattle.std.proofs.lemmas.Cmp.{tied_back}
use Rattle.std.proofs.lemmas.List.{get_or_read}
use Rattle.std.proofs.lemmas.Option.{slice_get-get_or}
use Rattle.tenant_core.specs.Index.{AreApart, key_at}

-- the first that passes
first_passes : {X : Type 0} (test : X → Bool) (xs : List X) (p : ℕ) (x : X) → p < length xs → x ≡ get_or xs p x → test x ≡ true → ((q : ℕ) (d : X) → q < p → test (get_or xs q d) ≡ false) → find test xs ≡ Some x
first_passes test [] p x l e t before = absurd (omega arith)
first_passes test (y ∷ xs) zero x l e t before = rw (← e) (rw t refl)
first_passes test (y ∷ xs) (suc p) x l e t before =
    rw (before 0 y (omega arith)) (first_passes test xs p x (omega arith) e t (λ q d h. before (suc q) d (omega arith)))

-- none passes
none_passes : {X : Type 0} (test : X → Bool) (xs : List X) → ((q : ℕ) (d : X) → q < length xs → test (get_or xs q d) ≡ false) → find test xs ≡ None
none_passes test [] all = refl
none_passes test (y ∷ xs) all = rw (all 0 y (omega arith)) (none_passes test xs (λ q d h. all (suc q) d (omega arith)))

-- the key at a place is that of the item there
pub key_at_is : {X K : Type 0} (key : X → K) (none : K) (xs : List X) (p : ℕ) (d : X) → p < length xs → key_at key none xs p ≡ key (get_or xs p d)
key_at_is key none xs p d h = rw (slice_get-get_or xs p d h) refl

-- an item is found where one passes
pub is_some_find : {X : Type 0} (test : X → Bool) (xs : List X) → list_any test xs ≡ is_some (find test xs)
is_some_find test [] = refl
is_some_find {X} test (x ∷ xs) = by (test x) (is_some_find test xs)
  where
    by : (b : Bool) → list_any test xs ≡ is_some (find test xs) → (b || list_any test xs) ≡ is_some (cond b (Some x) (find test xs))
    by true e = refl
    by false e = e

module _ {X K : Type 0} (cmp : K → K → Ordering) (o : IsTotalOrder cmp) (key : X → K) (k : K) (test : X → Bool) (says : (x : X) → test x ≡ true → cmp (key x) k ≡ Equal) where
  -- the test fails at an item of another key
  pub fails : (x : X) → cmp (key x) k ≢ Equal → test x ≡ false
  fails x differs = elim (test x) as (λ b. test x ≡ b → b ≡ false) [ true ↦ λ e. absurd (differs (says x e)) | false ↦ λ e. refl ] refl

  -- an item with the key that passes the test is the one that is found
  pub found : (xs : List X) (p : ℕ) (x : X) → AreApart cmp key xs → p < length xs → x ≡ get_or xs p x → cmp (key x) k ≡ Equal → test x ≡ true → find test xs ≡ Some x
  found xs p x apart l e same t = first_passes test xs p x l e t (λ q d h. fails (get_or xs q d) (λ tie.
      let here : x ≡ get_or xs p d = get_or_read xs p x l e d in
      apart q p d h l (o.congr (key (get_or xs q d)) k (key (get_or xs p d)) tie ∙ subst (λ y. cmp k (key y) ≡ Equal) here (tied_back o (key x) k same))))

  -- where no item has the key, none is found
  pub missing : (xs : List X) → ((p : ℕ) (d : X) → p < length xs → cmp (key (get_or xs p d)) k ≢ Equal) → find test xs ≡ None
  missing xs none = none_passes test xs (λ q d h. fails (get_or xs q d) (none q d h))
