-- A bucket that keeps its credit, and the stretch that it has come from.
use Rattle.std.specs.Prelude.{ℕ, ◌≡◌, ◌+◌, ◌-◌, ◌≤◌, Bool, true, false, [], ◌∷◌, ◌++◌, min}
use Rattle.std.specs.Prelude.{All}
use Rattle.rate_bucket.specs.Bucket.{Stretch, packet, full_bucket, gained, credit_at}

-- what a bucket had at its last clock, in thousandths of a packet
pub record Level : Type 0 where
  pub burst : ℕ
  pub per_second : ℕ
  pub clock : ℕ
  pub credit : ℕ

-- what it has at a later clock: what flowed in since, as far as it fits
abbrev pub credit_by : Level → ℕ → ℕ
credit_by l now = min (l.credit + gained l.per_second l.clock now) (full_bucket l.burst)

-- the level after a packet that was admitted, and paid for, or was not
abbrev pub left_by : Bool → ℕ → Level → Level
left_by true now l = record l { clock = now; credit = credit_by l now - packet }
left_by false now l = l

-- the level after a change at that clock: the credit is cut to what the bucket can hold from then on
abbrev pub level_changed : ℕ → ℕ → ℕ → Level → Level
level_changed burst per_second now l =
    record {
      burst = burst;
      per_second = per_second;
      clock = now;
      credit = min (credit_by l now) (full_bucket burst);
    }

-- A bucket has come from that stretch: nothing of it is later than the bucket's clock, and from then on both have the same
-- credit.
pub record IsLevelOf (b : Stretch) (l : Level) : Type 0 where
  pub burst : b.burst ≡ l.burst
  pub per_second : b.per_second ≡ l.per_second
  pub begun : b.start ≤ l.clock
  pub admitted : All (λ at. at ≤ l.clock) b.admitted
  pub credit : (now : ℕ) → l.clock ≤ now → credit_at b now ≡ credit_by l now

-- the stretch with one admitted packet more
abbrev pub with_packet : ℕ → Stretch → Stretch
with_packet now b = record b { admitted = b.admitted ++ now ∷ [] }

-- the stretch after a packet that was admitted, or was not
abbrev pub taken : Bool → ℕ → Stretch → Stretch
taken true now b = with_packet now b
taken false now b = b

-- the stretch that a change begins: its credit is cut to what the bucket can hold from then on
abbrev pub changed : ℕ → ℕ → ℕ → Stretch → Stretch
changed burst per_second now b =
    record {
      start = now;
      credit = min (credit_at b now) (full_bucket burst);
      burst = burst;
      per_second = per_second;
      admitted = [];
    }

-- what holds of a bucket and its stretch
pub record RunningLaws : Type 0 where
  -- a bucket that had a credit has come from the stretch that begins with it
  pub begun : (start credit burst per_second : ℕ)
      → IsLevelOf
      (record { start = start; credit = credit; burst = burst; per_second = per_second; admitted = [] })
      (record { burst = burst; per_second = per_second; clock = start; credit = min credit (full_bucket burst) })
  -- a packet that is admitted is one of the stretch
  pub admitted : (b : Stretch) (l : Level) (now : ℕ) → IsLevelOf b l → l.clock ≤ now → packet ≤ credit_by l now
      → IsLevelOf (with_packet now b) (left_by true now l)
  -- a change begins a stretch
  pub changed : (b : Stretch) (l : Level) (burst per_second now : ℕ) → IsLevelOf b l → l.clock ≤ now
      → IsLevelOf (changed burst per_second now b) (level_changed burst per_second now l)
