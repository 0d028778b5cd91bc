-- How an order is found: by taking a point that is the next one of its list and of its group, as long as there is one.
use Rattle.std.specs.Prelude.{◌≡◌, ◌≤◌, ◌<◌, ℕ, ◌+◌, ◌-◌, ◌^◌, ◌==◌, ◌&&◌, nat_lt, if◌then◌else◌, List, [], ◌∷◌, ◌++◌, length, Contains, IsSome}
use Rattle.std.specs.Prelude.{Option, Some, None, slice_get, slice_index, slice_set}
use Rattle.joint_order.specs.Orders.{IsTaken, at, list_at, none, one_more_at, point, points_count}
use Rattle.joint_order.specs.declared.point.ListPoint.{ListPoint}

-- the point, if it is the next one of its group
abbrev pub if_next : (done : List ℕ) → Option ListPoint → Option ListPoint
if_next done None = None
if_next done (Some p) =
    if nat_lt p.group (length done) && (slice_index done p.group == p.place) then Some p else None

-- the next point of a list, if it is the next one of its group
abbrev pub next_point : List ListPoint → (taken : ℕ) → (done : List ℕ) → Option ListPoint
next_point list taken done = if_next done (slice_get list taken)

-- the next point of the list of that number, if it is the next one of its group
abbrev pub next_at : List (List ListPoint) → (taken done : List ℕ) → ℕ → Option ListPoint
next_at lists taken done i = next_point (list_at lists i) (slice_index taken i) done

-- the inner value, if there is one
abbrev pub inner_of : {A : Type 0} → Option (Option A) → Option A
inner_of None = None
inner_of (Some o) = o

-- the number of the list that holds the point of that place, if there is one
abbrev pub holder_at : List (List (Option ℕ)) → (group place : ℕ) → Option ℕ
holder_at holders group place = inner_of (slice_get (list_at holders group) place)

-- each list has fewer than 2^63 elements
abbrev pub AreShort : {A : Type 0} → List (List A) → Type 0
AreShort lists = (i : ℕ) → length (list_at lists i) < 2 ^ 63

-- the next point of the list of that number is counted without going over
pub record CanCountPoint (taken done : List ℕ) (i : ℕ) (p : ListPoint) : Type 0 where
  pub list : i < length taken
  pub group : p.group < length done
  pub next : slice_index done p.group ≡ p.place
  pub taken_fits : slice_index taken i + 1 < 2 ^ 64
  pub place_fits : p.place + 1 < 2 ^ 64

-- an element or none, as a list
abbrev pub listed : {A : Type 0} → Option A → List A
listed None = []
listed (Some x) = x ∷ []

-- one more at that number
abbrev pub with_one_more : List ℕ → ℕ → List ℕ
with_one_more counts i = slice_set counts i (slice_index counts i + 1)

-- how many points were taken of each list and each group, in which order, and which lists remain to be looked at
pub record Progress : Type 0 where
  pub taken : List ℕ
  pub done : List ℕ
  pub order : List ℕ
  pub waiting : List ℕ

-- after a look at the list of that number: a next point that is also the next of its group is taken. Then this list
-- and the list that holds the next point of the group are looked at again
abbrev pub looked : List (List (Option ℕ)) → (number : ℕ) → Option ListPoint → Progress → Progress
looked holders i None g = g
looked holders i (Some p) g =
    record {
      taken = with_one_more g.taken i;
      done = with_one_more g.done p.group;
      order = g.order ++ i ∷ [];
      waiting = (g.waiting ++ i ∷ []) ++ listed (holder_at holders p.group (p.place + 1));
    }

-- points that were taken by that order lead from one state to the other
abbrev pub RunsByOrder : List (List ListPoint) → (taken done : ℕ → ℕ) → List ℕ → (taken' done' : ℕ → ℕ) → Type 0
RunsByOrder lists f d [] f' d' = (f' ≡ f) × (d' ≡ d)
RunsByOrder lists f d (i ∷ order) f' d' =
    (group : ℕ) × (slice_get (list_at lists i) (f i) ≡ Some (point group (d group)))
    × RunsByOrder lists (one_more_at f i) (one_more_at d group) order f' d'

-- how many points are left
abbrev pub points_left : List (List ListPoint) → (taken : List ℕ) → ℕ
points_left [] taken = 0
points_left (l ∷ ls) [] = 0
points_left (l ∷ ls) (n ∷ ns) = (length l - n) + points_left ls ns

-- how far the search has got
pub record IsGoing (lists : List (List ListPoint)) (holders : List (List (Option ℕ))) (g : Progress) : Type 0 where
  pub wide : length g.taken ≡ length lists
  pub all : length g.done ≡ length holders
  pub within : (i : ℕ) → at g.taken i ≤ length (list_at lists i)
  pub runs : RunsByOrder lists none none g.order (at g.taken) (at g.done)
  pub prefix : (group place : ℕ) → place < at g.done group → IsTaken lists (at g.taken) (point group place)
  pub no_more : (group place : ℕ) → IsTaken lists (at g.taken) (point group place) → place < at g.done group
  -- what is left and what was taken are all points
  pub counted : length g.order + points_left lists g.taken ≡ points_count lists
  -- a list that goes on remains to be looked at
  pub waits : (i : ℕ) → IsSome (next_at lists g.taken g.done i) → Contains g.waiting i
