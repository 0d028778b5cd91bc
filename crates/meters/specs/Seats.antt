-- What contracts see of meters, of their seats, and of their totals.
use Rattle.std.specs.Prelude.{ℕ, ◌+◌, List, Bool, replicate}
use Rattle.atomic_table.specs.Seated.{TableId}
use Rattle.meters.specs.declared.kind.Kind.{Kind}
use Rattle.meters.specs.Counts.{count_in, one_more, both_rows}

-- how often a first seat is split at most: so many threads may count, or read
abbrev pub max_splits : ℕ
max_splits = 4_098

-- meters: which they are, and for how many tenants they count
pub record MetersState : Type 0 where
  pub id : TableId
  pub tenants : ℕ

-- a seat: which meters it belongs to, what it has counted, how often it was split and has joined another, and whether
-- it came from `new`
pub record SeatState : Type 0 where
  pub meters : TableId
  pub counts : List ℕ
  pub splits : ℕ
  pub joins : ℕ
  pub first : Bool

-- totals: for how many tenants, and the counts
pub record TotalsState : Type 0 where
  pub tenants : ℕ
  pub counts : List ℕ

-- how many of a kind a seat has counted for a tenant
abbrev pub count_of : ℕ → Kind → SeatState → ℕ
count_of tenant kind seat = count_in tenant kind seat.counts

-- how many of a kind were counted for a tenant
abbrev pub total_of : ℕ → Kind → TotalsState → ℕ
total_of tenant kind totals = count_in tenant kind totals.counts

-- a seat of these meters that has counted nothing, was not split and has joined none
abbrev pub empty_seat : TableId → Bool → SeatState
empty_seat id first =
    record { meters = id; counts = replicate 256 0; splits = 0; joins = 0; first = first }

-- the seat with one more of a kind for a tenant, and nothing else changed
abbrev pub counted : ℕ → Kind → SeatState → SeatState
counted tenant kind seat = record seat { counts = one_more tenant kind seat.counts }

-- the seat after one more split
abbrev pub split_seat : SeatState → SeatState
split_seat seat = record seat { splits = seat.splits + 1 }

-- the seat after it has joined another: the counts of both
abbrev pub joined_seat : SeatState → SeatState → SeatState
joined_seat seat other = record seat { counts = both_rows seat.counts other.counts; joins = seat.joins + 1 }
