-- Lists of points, each a place of a group, and the orders in which they can be taken.
use Rattle.std.specs.Prelude.{◌≡◌, ◌≢◌, ℕ, ◌+◌, ◌<◌, ◌==◌, if◌then◌else◌, List, [], ◌∷◌, length, Option, Some, slice_get, slice_index, sum_by, unwrap_or, ⊤}
use Rattle.joint_order.specs.declared.point.ListPoint.{ListPoint}
use Rattle.joint_order.specs.declared.joining.Joined.{Joined}
use Rattle.joint_order.specs.declared.joining.Joined.TheVariants.{Order, Stuck}

-- the point of that place of that group
abbrev pub point : (group place : ℕ) → ListPoint
point group place = record { group = group; place = place }

-- the list of that number, and an empty one if there is none
abbrev pub list_at : {A : Type 0} → List (List A) → ℕ → List A
list_at lists i = unwrap_or (slice_get lists i) []

-- how many points there are
abbrev pub points_count : List (List ListPoint) → ℕ
points_count lists = sum_by (λ list. length list) lists

-- ---- orders

-- one more at that number
abbrev pub one_more_at : (ℕ → ℕ) → ℕ → ℕ → ℕ
one_more_at f i j = if j == i then f j + 1 else f j

-- the number of that place of a list, 0 past its end
abbrev pub at : List ℕ → ℕ → ℕ
at xs i = slice_index xs i

-- nothing of any list, or of any group
abbrev pub none : ℕ → ℕ
none i = 0

-- So many points of each list were taken, and so many of each group. Each number of the order takes the next point of
-- that list, which is the next one of its group. At the end none is left.
abbrev pub TakesOn : List (List ListPoint) → (taken done : ℕ → ℕ) → (order : List ℕ) → Type 0
TakesOn lists taken done [] = (i : ℕ) → taken i ≡ length (list_at lists i)
TakesOn lists taken done (i ∷ order) =
    (group : ℕ) × (slice_get (list_at lists i) (taken i) ≡ Some (point group (done group)))
    × TakesOn lists (one_more_at taken i) (one_more_at done group) order

-- the order takes all points, those of each list and those of each group one after the other
abbrev pub TakesEveryPoint : List (List ListPoint) → (order : List ℕ) → Type 0
TakesEveryPoint lists order = TakesOn lists none none order

-- ---- fronts

-- of each list so many points are taken, and this one is among them
abbrev pub IsTaken : List (List ListPoint) → (taken : ℕ → ℕ) → ListPoint → Type 0
IsTaken lists taken p = (i : ℕ) × (k : ℕ) × (k < taken i) × (slice_get (list_at lists i) k ≡ Some p)

-- The first points of each list, up to the front, are together the first ones of each group. A point is left, and no
-- list's next one is the next of its group.
pub record IsStuck (lists : List (List ListPoint)) (front : ℕ → ℕ) : Type 0 where
  pub done : ℕ → ℕ
  pub prefix : (group place : ℕ) → place < done group → IsTaken lists front (point group place)
  pub no_more : (group place : ℕ) → IsTaken lists front (point group place) → place < done group
  pub left : (i : ℕ) × (front i < length (list_at lists i))
  pub stands : (i group place : ℕ) → slice_get (list_at lists i) (front i) ≡ Some (point group place)
      → place ≢ done group

-- no point occurs at two places
abbrev pub AreDistinct : List (List ListPoint) → Type 0
AreDistinct lists =
    (i k j l : ℕ) (p : ListPoint) → slice_get (list_at lists i) k ≡ Some p → slice_get (list_at lists j) l ≡ Some p
    → (i ≡ j) × (k ≡ l)

-- ---- what is given, and what is found

-- of each group it is known which list holds the point of each place
pub record AreHeld (lists : List (List ListPoint)) (holders : List (List (Option ℕ))) : Type 0 where
  pub held : (i k : ℕ) (p : ListPoint) → slice_get (list_at lists i) k ≡ Some p
      → slice_get (list_at holders p.group) p.place ≡ Some (Some i)

-- an order was found, of which this holds
abbrev pub OnOrder : (List ℕ → Type 0) → Joined → Type 0
OnOrder P (Order order) = P order.items
OnOrder P (Stuck front) = ⊤

-- a front was found at which no list goes on, of which this holds
abbrev pub OnStuck : ((ℕ → ℕ) → Type 0) → Joined → Type 0
OnStuck P (Order order) = ⊤
OnStuck P (Stuck front) = P (at front.items)
