-- Lists of counts, and shares that are all there.
use Rattle.std.proofs.Common.{◌≡◌, ◌≢◌, ℕ, suc, zero, ◌<◌, ◌≤◌, ◌+◌, Bool, true, false, cond, eqb, List, [], ◌∷◌, ◌++◌, length, length-append, replicate, get_or, set, refl, inl, inr, sym, ap, ◌∙◌, add-one, arith}
use Rattle.std.specs.Prelude.{◌&&◌, ◌||◌, ◌↔◌, IsTrue, nat_le}
use Rattle.std.specs.List.{list_any}
use Rattle.std.proofs.Math.Bool.{or-true, or_assoc, or_comm}
use Rattle.std.proofs.lemmas.Bool.{eqb-true, eq-eqb, le-leb, leb-false, leb-true, ne_eqb}
use Rattle.std.proofs.lemmas.Bool.Decides.{eqb_tells}
use Rattle.std.proofs.lemmas.List.Sums.{sum_by_push}
use Rattle.books_shared.specs.Gathers.{are_all_there, each_has_one, shares_of}
use Rattle.books_shared.specs.Shares.{ShareView, fresh, fresh_shares, has_full, max_count}

-- each of so many zeros is 0
pub get_or-zeros : (n t : ℕ) → get_or {A = ℕ} (replicate n 0) t 0 ≡ 0
get_or-zeros zero t = refl
get_or-zeros (suc n) zero = refl
get_or-zeros (suc n) (suc t) = get_or-zeros n t

or-false : (a b : Bool) → (a || b) ≡ false → (a ≡ false) × (b ≡ false)
or-false true b h = absurd cc
or-false false b h = (refl, h)

-- where no count is full, each is below the limit
pub none_full : (limit : ℕ) (counts : List ℕ) → 0 < limit → list_any (nat_le limit) counts ≡ false → (t : ℕ) → get_or counts t 0 < limit
none_full limit [] some h t = some
none_full limit (x ∷ xs) some h zero =
    let head : nat_le limit x ≡ false = (or-false (nat_le limit x) (list_any (nat_le limit) xs) h).0 in
    leb-false limit x head
none_full limit (x ∷ xs) some h (suc t) =
    none_full limit xs some (or-false (nat_le limit x) (list_any (nat_le limit) xs) h).1 t

-- what is full is full with more
full_more : (limit x n : ℕ) → nat_le limit x ≡ true → nat_le limit (x + n) ≡ true
full_more limit x n full = let there = leb-true limit x full in le-leb limit (x + n) (omega arith)

behind_own : (a b p : Bool) → (a ≡ true → p ≡ true) → (p || b) ≡ (a || b || p)
behind_own true b p own = rw (own refl) refl
behind_own false b p own = or_comm p b

-- a count that rises is full then, or one was full before, where one is full
full_risen : (limit : ℕ) (counts : List ℕ) (t n : ℕ) → t < length counts
    → list_any (nat_le limit) (set counts t (get_or counts t 0 + n)) ≡ (list_any (nat_le limit) counts || nat_le limit (get_or counts t 0 + n))
full_risen limit [] t n inside = absurd (omega arith)
full_risen limit (x ∷ xs) zero n inside =
    behind_own (nat_le limit x) (list_any (nat_le limit) xs) (nat_le limit (x + n)) (full_more limit x n)
full_risen limit (x ∷ xs) (suc t) n inside =
    ap (λ b. nat_le limit x || b) (full_risen limit xs t n (omega arith))
    ∙ sym (or_assoc (nat_le limit x) (list_any (nat_le limit) xs) (nat_le limit (get_or xs t 0 + n)))

or_nothing : (b : Bool) → (b || false) ≡ b
or_nothing true = refl
or_nothing false = refl

before_or_then : (a b c p q r : Bool) → (a || b || c || (p || (q || (r || false)))) ≡ (a || p || (b || q) || (c || r))
before_or_then true b c p q r = refl
before_or_then false true c p q r = rw (or-true p) refl
before_or_then false false true p q r = sym (or-true (p || q))
before_or_then false false false p q r = ap (λ b. p || (q || b)) (or_nothing r) ∙ sym (or_assoc p q r)

-- whether one of a share's counts is full is known after a call that counts so much, by what was known and those three
pub known_more : (entries unknown refused : List ℕ) (t e u r : ℕ) (spent now : Bool) → t < length entries → t < length unknown → t < length refused
    → spent ≡ (has_full entries || has_full unknown || has_full refused)
    → now ≡ has_full ((get_or entries t 0 + e) ∷ (get_or unknown t 0 + u) ∷ (get_or refused t 0 + r) ∷ [])
    → (spent || now)
    ≡ (has_full (set entries t (get_or entries t 0 + e)) || has_full (set unknown t (get_or unknown t 0 + u)) || has_full (set refused t (get_or refused t 0 + r)))
known_more entries unknown refused t e u r spent now in_entries in_unknown in_refused known then =
    rw (known, then, full_risen max_count entries t e in_entries, full_risen max_count unknown t u in_unknown, full_risen max_count refused t r in_refused)
    (before_or_then (has_full entries) (has_full unknown) (has_full refused) (nat_le max_count (get_or entries t 0 + e))
    (nat_le max_count (get_or unknown t 0 + u)) (nat_le max_count (get_or refused t 0 + r)))

pub fresh_shares-next : (audited : Bool) (n : ℕ) → fresh_shares audited (n + 1) ≡ fresh_shares audited n ++ fresh audited n ∷ []
fresh_shares-next audited n = rw add-one refl

pub each_has_one-next : (n : ℕ) (shares : List ShareView) → each_has_one (n + 1) shares ≡ (each_has_one n shares && eqb (shares_of n shares) 1)
each_has_one-next n shares = rw add-one refl

and-true : (a b : Bool) → (a && b) ≡ true → (a ≡ true) × (b ≡ true)
and-true true b h = (refl, h)
and-true false b h = absurd cc

one-each : (n : ℕ) (shares : List ShareView) → each_has_one n shares ≡ true → (worker : ℕ) → worker < n → shares_of worker shares ≡ 1
one-each zero shares h worker below = absurd (omega arith)
one-each (suc n) shares h worker below =
    let both = and-true (each_has_one n shares) (eqb (shares_of n shares) 1) h in
    elim (eqb_tells worker n) [
      | inl a ↦ rw a.1 (eqb-true (shares_of n shares) 1 both.1)
      | inr a ↦ let e = a.1 in one-each n shares both.0 worker (omega arith)
    ]

each-one : (n : ℕ) (shares : List ShareView) → ((worker : ℕ) → worker < n → shares_of worker shares ≡ 1) → each_has_one n shares ≡ true
each-one zero shares f = refl
each-one (suc n) shares f =
    rw (each-one n shares (λ worker below. f worker (omega arith)), eq-eqb (shares_of n shares) 1 (f n (omega arith))) refl

-- the shares are all there where there are as many as workers, and each worker has one
pub all_there : (workers : ℕ) (shares : List ShareView) → IsTrue (are_all_there workers shares)
    ↔ ((length shares ≡ workers) × ((worker : ℕ) → worker < workers → shares_of worker shares ≡ 1))
all_there workers shares = (
  (λ h.
      let both = and-true (eqb (length shares) workers) (each_has_one workers shares) h in
      (eqb-true (length shares) workers both.0, one-each workers shares both.1)),
  (λ h. rw (eq-eqb (length shares) workers h.0, each-one workers shares h.1) refl),
)

-- ---- the shares of new books

length-fresh : (audited : Bool) (n : ℕ) → length (fresh_shares audited n) ≡ n
length-fresh audited zero = refl
length-fresh audited (suc n) =
    let shorter = length-fresh audited n in omega (arith, length-append (fresh_shares audited n) (fresh audited n ∷ []))

pushed : (worker : ℕ) (shares : List ShareView) (s : ShareView)
    → shares_of worker (shares ++ s ∷ []) ≡ shares_of worker shares + cond (eqb s.worker worker) 1 0
pushed worker shares s = sum_by_push (λ (x : ShareView). cond (eqb x.worker worker) 1 0) shares s

none_above : (audited : Bool) (n worker : ℕ) → n ≤ worker → shares_of worker (fresh_shares audited n) ≡ 0
none_above audited zero worker above = refl
none_above audited (suc n) worker above =
    let other : n ≢ worker = omega arith in
    rw (pushed worker (fresh_shares audited n) (fresh audited n), ne_eqb n worker other, none_above audited n worker (omega arith)) refl

one_below : (audited : Bool) (n worker : ℕ) → worker < n → shares_of worker (fresh_shares audited n) ≡ 1
one_below audited zero worker below = absurd (omega arith)
one_below audited (suc n) worker below =
    elim (eqb_tells n worker) [
      | inl a ↦ rw (pushed worker (fresh_shares audited n) (fresh audited n), a.0, none_above audited n worker (let e = a.1 in omega arith)) refl
      | inr a ↦ rw (pushed worker (fresh_shares audited n) (fresh audited n), a.0, one_below audited n worker (let e = a.1 in omega arith)) refl
    ]

-- each worker has one of them
pub fresh_there : (audited : Bool) (workers : ℕ) → IsTrue (are_all_there workers (fresh_shares audited workers))
fresh_there audited workers =
    (all_there workers (fresh_shares audited workers)).1 (length-fresh audited workers, one_below audited workers)
