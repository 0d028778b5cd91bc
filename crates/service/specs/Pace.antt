-- How long a connection may do what, and when it gives up its thread.
use Rattle.std.specs.Prelude.{ℕ, ◌-◌, ◌==◌, ◌||◌, Bool, true, false, min, nat_le, nat_lt, if◌then◌else◌}
use Rattle.service.specs.declared.connection.pace.Rush.{Rush}
use Rattle.service.specs.declared.connection.pace.Rush.TheVariants.{Calm, Crowded, Stopping}
use Rattle.service.specs.declared.connection.pace.Activity.{Activity}
use Rattle.service.specs.declared.connection.pace.Activity.TheVariants.{Idle, First, Busy}

-- a stop comes first, then a crowd: so few milliseconds ago no further connection could be open, or the system refuses them
abbrev pub rush_of : (is_closed : Bool) → (since : ℕ) → (is_refused : Bool) → Rush
rush_of true since is_refused = Stopping
rush_of false since true = Crowded
rush_of false since false = if nat_lt since 250 then Crowded else Calm

-- for how many milliseconds in all: 30 seconds, twice that for a first request with the wait for it, and less in a crowd or if the
-- service stops
abbrev pub time_for : Activity → Rush → ℕ
time_for Idle Calm = 30000
time_for First Calm = 60000
time_for Busy Calm = 30000
time_for Idle Crowded = 250
time_for First Crowded = 250
time_for Busy Crowded = 1000
time_for Idle Stopping = 1
time_for First Stopping = 5000
time_for Busy Stopping = 5000

-- what is left of that; in a service that stops, only the milliseconds since the stop count
abbrev pub time_left : Activity → Rush → (spent stopping : ℕ) → ℕ
time_left activity Calm spent stopping = time_for activity Calm - spent
time_left activity Crowded spent stopping = time_for activity Crowded - spent
time_left activity Stopping spent stopping = time_for activity Stopping - stopping

-- at once only for 250 milliseconds, or for what is left if that is less
abbrev pub wait_of : Activity → Rush → (spent stopping : ℕ) → ℕ
wait_of activity rush spent stopping = min (time_left activity rush spent stopping) 250

-- only for others that wait: at once after an answer 400 or 401, and after a second in all
abbrev pub yields : Rush → (status served : ℕ) → Bool
yields Calm status served = false
yields Crowded status served = status == 400 || status == 401 || nat_le 1000 served
yields Stopping status served = false
