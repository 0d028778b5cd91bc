-- Lists and maps, read and written.
use Rattle.std.proofs.Common.{◌≡◌, ◌≢◌, ℕ, zero, suc, ◌<◌, List, [], ◌∷◌, length, map, Option, Some, None, slice_get, slice_set, slice_index_or, is_some, true, false, refl, sym, ap, subst, ◌∙◌, arith}
use Rattle.std.specs.declared.cmp.Ordering.{Ordering}
use Rattle.std.specs.declared.cmp.Ordering.TheVariants.{Less, Equal, Greater}
use Rattle.std.specs.Ordering.{nat_cmp, is_eq, MatchOrdering}
use Rattle.std.specs.Cmp.{ranks}
use Rattle.joint_order.specs.Orders.{list_at}

-- what was written there
pub written : {A : Type 0} (xs : List A) (i : ℕ) (y : A) → i < length xs → slice_get (slice_set xs i y) i ≡ Some y
written {A = A} [] i y below = absurd (omega arith)
written {A = A} (x ∷ xs) zero y below = refl
written {A = A} (x ∷ xs) (suc i) y below = written xs i y (omega arith)

-- elsewhere all is as it was
pub unwritten : {A : Type 0} (xs : List A) (i j : ℕ) (y : A) → j ≢ i → slice_get (slice_set xs i y) j ≡ slice_get xs j
unwritten {A = A} [] i j y other = refl
unwritten {A = A} (x ∷ xs) zero zero y other = absurd (other refl)
unwritten {A = A} (x ∷ xs) zero (suc j) y other = refl
unwritten {A = A} (x ∷ xs) (suc i) zero y other = refl
unwritten {A = A} (x ∷ xs) (suc i) (suc j) y other = unwritten xs i j y (λ e. other (ap suc e))

pub read_there : {A : Type 0} (xs : List A) (i : ℕ) (d : A) → i < length xs → slice_get xs i ≡ Some (slice_index_or xs i d)
read_there {A = A} [] i d below = absurd (omega arith)
read_there {A = A} (x ∷ xs) zero d below = refl
read_there {A = A} (x ∷ xs) (suc i) d below = read_there xs i d (omega arith)

-- two numbers that differ are not equal in their order
pub are_apart : (m n : ℕ) → n ≢ m → is_eq (nat_cmp m n) ≡ false
are_apart m n other = by_rank (nat_cmp m n) (ranks m n)
  where
    by_rank : (o : Ordering) → MatchOrdering o (m < n) (m ≡ n) (n < m) → is_eq o ≡ false
    by_rank Less r = refl
    by_rank Equal r = absurd (other (sym r))
    by_rank Greater r = refl

-- there is something where the test says so
pub is_there : {A : Type 0} (o : Option A) → is_some o ≡ true → (x : A) × (o ≡ Some x)
is_there {A = A} None e = absurd cc
is_there {A = A} (Some x) e = (x, refl)

-- there is nothing where the test says so
pub is_none_there : {A : Type 0} (o : Option A) → is_some o ≡ false → o ≡ None
is_none_there {A = A} None e = refl
is_none_there {A = A} (Some x) e = absurd cc

-- what is shown of elements, one of them written
pub shown_written : {A B : Type 0} (f : A → B) (xs : List A) (i : ℕ) (y : A) → map f (slice_set xs i y) ≡ slice_set (map f xs) i (f y)
shown_written {A = A} {B = B} f [] i y = refl
shown_written {A = A} {B = B} f (x ∷ xs) zero y = refl
shown_written {A = A} {B = B} f (x ∷ xs) (suc i) y = ap (λ l. f x ∷ l) (shown_written f xs i y)

pub shown_there : {A : Type 0} {B : Type 0} (f : A → List B) (xs : List A) (i : ℕ) (d : A) → i < length xs → list_at (map f xs) i ≡ f (slice_index_or xs i d)
shown_there {A = A} {B = B} f [] i d below = absurd (omega arith)
shown_there {A = A} {B = B} f (x ∷ xs) zero d below = refl
shown_there {A = A} {B = B} f (x ∷ xs) (suc i) d below = shown_there f xs i d (omega arith)

pub shown_length : {A B : Type 0} (f : A → B) (xs : List A) → length (map f xs) ≡ length xs
shown_length {A = A} {B = B} f [] = refl
shown_length {A = A} {B = B} f (x ∷ xs) = ap suc (shown_length f xs)

-- an element of a row was written
pub row_written : {A B : Type 0} (f : A → List B) (xs : List A) (shown : List (List B)) (i place : ℕ) (row new : A) (y : B)
    → map f xs ≡ shown → i < length shown → row ≡ slice_index_or xs i row → f new ≡ slice_set (f row) place y
    → map f (slice_set xs i new) ≡ slice_set shown i (slice_set (list_at shown i) place y)
row_written {A = A} {B = B} f xs shown i place row new y is below at written =
    let P : List (List B) → Type 0 = λ s. i < length s → map f (slice_set xs i new) ≡ slice_set s i (slice_set (list_at s i) place y) in
    let here : P (map f xs) = λ b.
    let many = shown_length f xs in
    let old : list_at (map f xs) i ≡ f row = shown_there f xs i row (omega arith) ∙ ap f (sym at) in
    shown_written f xs i new ∙ ap (λ (l : List B). slice_set (map f xs) i l) (written ∙ ap (λ (l : List B). slice_set l place y) (sym old)) in
    subst P is here below
