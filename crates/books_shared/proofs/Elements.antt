-- What is read of lists, of what is shown of them, and what a period adds to the entries before a number.
use Rattle.std.proofs.Common.{◌≡◌, ℕ, zero, suc, ◌<◌, List, [], ◌∷◌, length, map, Option, Some, None, slice_get, slice_index_or, unwrap_or, Contains, refl, sym, ap, subst, ◌∙◌}
use Rattle.std.specs.Prelude.{◌==◌, ◌&&◌, if◌then◌else◌, nat_lt, option_map}
use Rattle.std.proofs.lemmas.List.Elements.{Contains-get_or}
use Rattle.std.proofs.lemmas.Option.{get_or_from_slice_get, none-some, slice_get-get_or, slice_get-map, slice_get_within}
use Rattle.tenant_core.specs.declared.period.PeriodParts.{PeriodParts}
use Rattle.joint_order.specs.Orders.{list_at}
use Rattle.receipts.specs.Audits.{points_of}
use Rattle.receipts.specs.Layout.{points_in}
use Rattle.receipts.specs.declared.receipt.Receipt.{Receipt}

-- below the length there is an element
pub read_there : {A : Type 0} (xs : List A) (i : ℕ) (d : A) → i < length xs → slice_get xs i ≡ Some (slice_index_or xs i d)
read_there xs i d below = slice_get-get_or xs i d below

-- there is one element there
pub one_there : {A : Type 0} (xs : List A) (k : ℕ) (x y : A) → slice_get xs k ≡ Some x → slice_get xs k ≡ Some y → x ≡ y
one_there {A = A} xs k x y at too = ap (λ (o : Option A). unwrap_or o x) (sym at ∙ too)

-- what is read is an element
pub is_element : {A : Type 0} (xs : List A) (k : ℕ) (x : A) → slice_get xs k ≡ Some x → Contains xs x
is_element {A = A} xs k x e = subst (Contains xs) (get_or_from_slice_get xs k x x e) (Contains-get_or xs k x (slice_get_within xs k x e))

-- an element is read
pub is_read : {A : Type 0} (xs : List A) (x : A) → Contains xs x → (k : ℕ) × (slice_get xs k ≡ Some x)
is_read {A = A} xs x c = (c.0, read_there xs c.0 x c.1 ∙ ap Some c.2)

-- an element is shown
pub point_at : {A B : Type 0} (f : A → B) (xs : List A) (n : ℕ) (x : A) → slice_get xs n ≡ Some x → slice_get (map f xs) n ≡ Some (f x)
point_at {A = A} {B = B} f xs n x e = slice_get-map f xs n ∙ ap (λ (o : Option A). option_map f o) e

shown_from : {A B : Type 0} (f : A → B) (o : Option A) (y : B) → option_map f o ≡ Some y → (x : A) × (o ≡ Some x) × (f x ≡ y)
shown_from {A = A} {B = B} f None y e = absurd (none-some y e)
shown_from {A = A} {B = B} f (Some x) y e = (x, refl, ap (λ (o : Option B). unwrap_or o (f x)) e)

-- an element of what is shown is shown of an element
pub point_from : {A B : Type 0} (f : A → B) (xs : List A) (n : ℕ) (y : B) → slice_get (map f xs) n ≡ Some y → (x : A) × (slice_get xs n ≡ Some x) × (f x ≡ y)
point_from f xs n y e = shown_from f (slice_get xs n) y (sym (slice_get-map f xs n) ∙ e)

-- a list's points
pub points_at : (periods : List PeriodParts) (lists : List (List Receipt)) (i : ℕ) → list_at (points_of periods lists) i ≡ points_in periods (list_at lists i)
points_at periods [] i = refl
points_at periods (l ∷ ls) zero = refl
points_at periods (l ∷ ls) (suc i) = points_at periods ls i

-- what a period adds to the entries of a tenant before a number
abbrev pub adds : ℕ → ℕ → PeriodParts → ℕ
adds t n p = if (p.opening.tenant == t) && nat_lt p.opening.period n then length p.records else 0
