-- Buckets: how many packets may come, by windows. Credit is counted in thousandths of a packet.
use Rattle.std.specs.Prelude.{ℕ, ◌≡◌, ◌+◌, ◌-◌, ◌*◌, ◌≤◌, Bool, List, [], ◌∷◌, ◌++◌, length, min, nat_le}

-- what a packet costs
abbrev pub packet : ℕ
packet = 1_000

-- what a bucket for that many packets holds when it is full
abbrev pub full_bucket : ℕ → ℕ
full_bucket burst = packet * burst

-- a bucket that was not changed since `start`, when it had that credit: how many packets it holds, how much flows in
-- in a millisecond, and the clocks at which packets were admitted since
pub record Stretch : Type 0 where
  pub start : ℕ
  pub credit : ℕ
  pub burst : ℕ
  pub per_second : ℕ
  pub admitted : List ℕ

-- what flows in between two clocks
abbrev pub gained : ℕ → ℕ → ℕ → ℕ
gained per_second since now = per_second * (now - since)

-- each admitted packet begins a window: a bucket that was full just before it, plus what flowed in since, less that
-- packet and those after it. This is the least that one of these windows leaves, and at most a full bucket
abbrev pub windows_left : ℕ → ℕ → ℕ → List ℕ → ℕ
windows_left burst per_second now [] = full_bucket burst
windows_left burst per_second now (at ∷ ats) =
    min (full_bucket burst + gained per_second at now - packet * length (at ∷ ats))
    (windows_left burst per_second now ats)

-- the credit: what the stretch began with, what flowed in since, less its packets, or what a window leaves, if that is
-- less
abbrev pub credit_at : Stretch → ℕ → ℕ
credit_at b now =
    min (b.credit + gained b.per_second b.start now - packet * length b.admitted)
    (windows_left b.burst b.per_second now b.admitted)

-- a packet is admitted if the credit is at least a whole packet
abbrev pub is_admitted : Stretch → ℕ → Bool
is_admitted b now = nat_le packet (credit_at b now)

-- The same as a condition on windows: the stretch as a whole and the window of each admitted packet have room for one
-- packet more.
pub record IsAdmitted (b : Stretch) (now : ℕ) : Type 0 where
  pub some : 1 ≤ b.burst
  pub whole : packet * (length b.admitted + 1) ≤ b.credit + gained b.per_second b.start now
  pub windows : (before after : List ℕ) (at : ℕ) → b.admitted ≡ before ++ at ∷ after
      → packet * (length after + 2) ≤ full_bucket b.burst + gained b.per_second at now
