-- A breaker: when packets go on to a peer, and when the peer rests. Moments and times are in milliseconds.
use Rattle.std.specs.Prelude.{ℕ, ◌+◌, ◌-◌, ◌*◌, ◌^◌, ◌<◌, ◌≤◌, ◌==◌, Bool, true, false, Option, Some, None, min, nat_le, nat_lt, if◌then◌else◌}
use Rattle.breaker.specs.declared.breaker.Pass.{Pass}
use Rattle.breaker.specs.declared.breaker.Pass.TheVariants.{Usual, Trial}
use Rattle.breaker.specs.declared.breaker.Outcome.{Outcome}
use Rattle.breaker.specs.declared.breaker.Outcome.TheVariants.{Answered, Missed, Unknown}
use Rattle.breaker.specs.declared.breaker.State.{State}
use Rattle.breaker.specs.declared.breaker.State.TheVariants.{Closed, Resting, Trying}

-- so many packets in a row without an answer begin a rest
abbrev pub most_misses : ℕ
most_misses = 5

-- how long the first rest is, and the longest one
abbrev pub first_rest : ℕ
first_rest = 1_000

abbrev pub longest_rest : ℕ
longest_rest = 30_000

-- how long a trial may last, and how long after its time it counts as missed
abbrev pub trial_time : ℕ
trial_time = 1_000

abbrev pub trial_margin : ℕ
trial_margin = 1_000

-- for so long at least a peer could answer, if a miss says anything of it
abbrev pub least_time : ℕ
least_time = 500

-- a moment so much later; moments end at 2^64 - 1
abbrev pub later : (now by : ℕ) → ℕ
later now by = min (now + by) (2 ^ 64 - 1)

-- when a trial that begins then must have reported
abbrev pub trial_end : (now : ℕ) → ℕ
trial_end now = later now (trial_time + trial_margin)

-- the rest after a trial that was missed is twice as long, as far as it may be
abbrev pub longer : (rest : ℕ) → ℕ
longer rest = min (rest * 2) longest_rest

-- how long a packet with that pass waits for its answer that would otherwise wait so long
abbrev pub time_under : Pass → (time : ℕ) → ℕ
time_under Usual time = time
time_under (Trial until) time = min time trial_time

-- the rest that begins then
abbrev pub rested_from : (now rest : ℕ) → State
rested_from now rest = Resting (later now rest) rest

-- what holds of every breaker
abbrev pub IsBounded : State → Type 0
IsBounded (Closed misses) = misses < most_misses
IsBounded (Resting until rest) = (first_rest ≤ rest) × (rest ≤ longest_rest)
IsBounded (Trying until rest) = (first_rest ≤ rest) × (rest ≤ longest_rest)

-- whether packets go on as ever
abbrev pub is_closed : State → Bool
is_closed (Closed misses) = true
is_closed (Resting until rest) = false
is_closed (Trying until rest) = false

-- a trial that has not reported by its end counts as missed then
abbrev pub settled : (now : ℕ) → State → State
settled now (Closed misses) = Closed misses
settled now (Resting until rest) = Resting until rest
settled now (Trying until rest) = if nat_le until now then rested_from until (longer rest) else Trying until rest

-- the pass of a packet, where no trial is overdue: after a rest the first packet is the trial
abbrev pub settled_pass : (now : ℕ) → State → Option Pass
settled_pass now (Closed misses) = Some Usual
settled_pass now (Resting until rest) = if nat_le until now then Some (Trial (trial_end now)) else None
settled_pass now (Trying until rest) = None

abbrev pub settled_asked : (now : ℕ) → State → State
settled_asked now (Closed misses) = Closed misses
settled_asked now (Resting until rest) = if nat_le until now then Trying (trial_end now) rest else Resting until rest
settled_asked now (Trying until rest) = Trying until rest

-- the pass of a packet that is there then, and the breaker after it was asked for
abbrev pub pass_at : (now : ℕ) → State → Option Pass
pass_at now s = settled_pass now (settled now s)

abbrev pub asked_at : (now : ℕ) → State → State
asked_at now s = settled_asked now (settled now s)

-- whether a pass is that of the trial which reports until then
abbrev pub is_trial : (until : ℕ) → Pass → Bool
is_trial until Usual = false
is_trial until (Trial end) = end == until

-- a packet with that pass got no answer: while packets go on each one counts, and later only the trial
abbrev pub missed : Pass → (now : ℕ) → State → State
missed pass now (Closed misses) = if nat_lt (misses + 1) most_misses then Closed (misses + 1) else rested_from now first_rest
missed pass now (Resting until rest) = Resting until rest
missed pass now (Trying until rest) = if is_trial until pass then rested_from now (longer rest) else Trying until rest

-- nothing is known of a packet with that pass: if it was the trial, the next one is
abbrev pub abandoned : Pass → (now : ℕ) → State → State
abandoned pass now (Closed misses) = Closed misses
abandoned pass now (Resting until rest) = Resting until rest
abandoned pass now (Trying until rest) = if is_trial until pass then Resting now rest else Trying until rest

-- what became of a packet with that pass: an answer ends all rests and forgets all misses
abbrev pub learnt : Pass → Outcome → (now : ℕ) → State → State
learnt pass Answered now s = Closed 0
learnt pass Missed now s = missed pass now s
learnt pass Unknown now s = abandoned pass now s
