-- The rule of the words: each is the sum of that count over what the seats know, and the four steps keep it.
use Rattle.std.specs.Prelude.{◌≡◌, ℕ, ◌+◌, ◌*◌, ◌^◌, ◌<◌, ◌≤◌, Bool, true, false, List, [], ◌∷◌, length, slice_index, slice_set, replicate}
use mathlib.Core.Option.{some}
use lib.ListN.{get_elem?}
use Rattle.atomic_table.specs.Seated.{TableId}
use Rattle.atomic_table.specs.Table.{State, Me, Step}
use Rattle.meters.specs.declared.kind.Kind.{Kind}
use Rattle.meters.specs.declared.rule.View.{View}
use Rattle.meters.specs.Counts.{count_in, both_rows}
use Rattle.meters.specs.Seats.{SeatState, max_splits}

-- what clients see of a seat of these meters with this view
abbrev pub seat_state : TableId → View → SeatState
seat_state id v = record { meters = id; counts = v.counts; splits = v.splits; joins = v.joins; first = v.first }

-- f of each view, added up
abbrev pub total : (View → ℕ) → List View → ℕ
total f [] = 0
total f (v ∷ vs) = f v + total f vs

-- what the seats have counted of a tenant and a kind, all together. A seat that another has joined adds nothing more:
-- its view is spent and has only zeros
abbrev pub word_total : ℕ → Kind → List View → ℕ
word_total tenant kind views = total (λ v. count_in tenant kind v.counts) views

-- the view of a new seat, which may be the first one
abbrev pub empty_view : Bool → View
empty_view first = record { counts = replicate 256 0; splits = 0; joins = 0; parts = 1; first = first }

-- the view of a seat that another has joined
abbrev pub spent_view : View
spent_view = record { counts = replicate 256 0; splits = 0; joins = 0; parts = 0; first = false }

-- the view with one more in the word at this place
abbrev pub raised_view : ℕ → View → View
raised_view i v = record v { counts = slice_set v.counts i (slice_index v.counts i + 1) }

-- the view after one more split
abbrev pub split_view : View → View
split_view v = record v { splits = v.splits + 1 }

-- the view after it has joined another
abbrev pub joined_view : View → View → View
joined_view v w = record v { counts = both_rows v.counts w.counts; joins = v.joins + 1; parts = v.parts + w.parts }

-- what one view keeps: it counts for `parts` seats, and each of its counts is at most 2^40 for each of these seats.
-- Only the first seat, at place 0, is split. It counts for more seats than it has joined
pub record IsSoundView (id : ℕ) (v : View) : Type 0 where
  pub long : length v.counts ≡ 256
  pub bounded : (i : ℕ) → slice_index v.counts i ≤ v.parts * 2 ^ 40
  pub leads : v.first ≡ true → id ≡ 0
  pub plain : v.first ≡ false → v.splits ≡ 0
  pub joined : v.first ≡ true → v.joins < v.parts

-- the rule: for each tenant and kind the word is the sum of that count over the views of all seats. No seat is lost:
-- the views count for one seat and one more for each split, and there are at most as many splits as allowed
pub record RuleHolds (tenants : ℕ) (s : State (Unit {0}) View) : Type 0 where
  pub long : length s.words ≡ 4 * tenants
  pub sums : (tenant : ℕ) (kind : Kind) → tenant < tenants → count_in tenant kind s.words ≡ word_total tenant kind s.views
  pub parts : total (λ v. v.parts) s.views ≡ 1 + total (λ v. v.splits) s.views
  pub few : total (λ v. v.splits) s.views ≤ max_splits
  pub sound : (id : ℕ) (v : View) → get_elem? s.views id ≡ some v → IsSoundView id v

-- a word is raised by one: the seat's count of it rises by one, and nothing else of what it knows changes
abbrev pub Raises : Step (Unit {0}) → Me (Unit {0}) View → ℕ → Me (Unit {0}) View → Type 0
Raises s v found w = w ≡ (raised_view s.word v.0, v.1)

-- a word is read: it is no less than the seat's own count, and the seat knows what it knew, with bounds of it and of the
-- word
abbrev pub Looks : Step (Unit {0}) → Me (Unit {0}) View → ℕ → Me (Unit {0}) View → Type 0
Looks s v found w =
    (w ≡ v) × (slice_index v.0.counts s.word ≤ found) × (v.0.parts ≤ max_splits + 1) × (found ≤ (max_splits + 1) * 2 ^ 40)
    × ((i : ℕ) → slice_index v.0.counts i ≤ v.0.parts * 2 ^ 40)
