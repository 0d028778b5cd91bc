-- What a book keeps for each of its peers, beside the records: a purse and a bucket, in the order of the peers.
use Rattle.std.specs.Prelude.{ℕ, ◌≡◌, ◌≤◌, ◌<◌, pos, ◌+ℤ◌, ◌-ℤ◌, List, All, length, sum_by, fold, drop, Option, Some, None}
use Rattle.std.specs.Prelude.{slice_get, slice_set, count_by, false, min, if◌then◌else◌}
use Rattle.money_core.specs.Account.{Account, is_past_ceiling, is_past_credit}
use Rattle.rate_bucket.specs.Bucket.{full_bucket}
use Rattle.rate_bucket.specs.Running.{Level, IsLevelOf}
use Rattle.tenant_core.specs.Bucket.{stretch_of}
use Rattle.tenant_core.specs.Holds.{holds_of, is_open, is_overdue, hold_ticked}
use Rattle.tenant_core.specs.HoldTables.{Table}
use Rattle.tenant_core.specs.Limits.{max_holds}
use Rattle.tenant_core.specs.Network.{peer_numbered}
use Rattle.tenant_core.specs.Present.{network_of}
use Rattle.tenant_core.specs.Purse.{base_of, held_from, held_for, taken_from, taken_for, settled_in, settled_out}
use Rattle.tenant_core.specs.State.{State, clock_of, later}
use Rattle.tenant_core.specs.declared.hold.Fate.TheVariants.{Held}
use Rattle.tenant_core.specs.declared.hold.Hold.{Hold}
use Rattle.tenant_core.specs.declared.peer.Peer.{Peer}

-- ---- purses

-- the purse of a peer of a state with these holds
abbrev pub purse_by : State → List Hold → Peer → Account
purse_by s hs p =
    record {
      balance =
          (base_of s p.number +ℤ pos (sum_by (taken_from p.number) hs)) -ℤ pos (sum_by (taken_for p.number) hs);
      held_in = sum_by (held_from p.number) hs;
      held_out = sum_by (held_for p.number) hs;
      ceiling = p.terms.limits.ceiling;
      credit = p.terms.limits.credit;
    }

-- the purse of a peer of a state: its balance, and what is held from it and for it, by the sums over the records
abbrev pub purse_of : State → Peer → Account
purse_of s p = purse_by s (holds_of s) p

-- the purse of a peer as a period finds it
abbrev pub opened_purse : Peer → Account
opened_purse p =
    record {
      balance = p.balance;
      held_in = 0;
      held_out = 0;
      ceiling = p.terms.limits.ceiling;
      credit = p.terms.limits.credit;
    }

-- ---- buckets

-- the bucket of a peer as a period finds it
abbrev pub opened_level : Peer → Level
opened_level p =
    record {
      burst = p.terms.bucket.burst;
      per_second = p.terms.bucket.per_second;
      clock = p.bucket.clock;
      credit = min p.bucket.credit (full_bucket p.terms.bucket.burst);
    }

-- a bucket follows from what a state's records say of a peer's, and its clock is not later than the state's
pub record IsLevel (s : State) (p : Peer) (l : Level) : Type 0 where
  pub stretch : IsLevelOf (stretch_of s p) l
  pub clock : l.clock ≤ clock_of s
  -- the peer's level was taken in this period, at the clock that the tenant had
  pub entries : p.bucket.entries ≤ length s.records
  pub told : fold later p.bucket.clock (drop p.bucket.entries s.records) ≡ clock_of s

-- so have the buckets of peers, each at its peer's place
pub record AreLevels (s : State) (peers : List Peer) (levels : List Level) : Type 0 where
  pub long : length levels ≡ length peers
  pub each : (place : ℕ) (p : Peer) (l : Level)
      → slice_get peers place ≡ Some p → slice_get levels place ≡ Some l → IsLevel s p l

-- ---- numbers

-- the records name no peer by a number that was not given yet
pub record IsNamed (s : State) : Type 0 where
  pub opening : s.opening.network.next_peer ≤ (network_of s).next_peer
  pub opened : All (λ p. p.number < s.opening.network.next_peer) s.opening.network.peers
  pub holds : All (λ h. (h.from < (network_of s).next_peer) × (h.to < (network_of s).next_peer)) (holds_of s)
  pub paid : (n : ℕ) → (network_of s).next_peer ≤ n → sum_by (settled_in n) s.records ≡ 0
  pub got : (n : ℕ) → (network_of s).next_peer ≤ n → sum_by (settled_out n) s.records ≡ 0

-- ---- what may be done

-- the hold that a Prepare begins is held, within the limits of both purses, and fewer than 1,024 await their answers
abbrev pub CanHold : State → List Hold → List Peer → Option Hold → Type 0
CanHold s hs peers None = Unit {0}
CanHold s hs peers (Some h) =
    ((p : Peer) → peer_numbered h.from peers ≡ Some p → is_past_ceiling (purse_by s hs p) h.amount ≡ false)
    × ((p : Peer) → peer_numbered h.to peers ≡ Some p → is_past_credit (purse_by s hs p) h.price ≡ false)
    × (count_by is_open hs < max_holds)
    × (h.fate ≡ Held)

-- the hold at that place was marked, which was overdue at that clock, or nothing was, since it was not
abbrev pub OneTicked : ℕ → ℕ → ℕ → Table → Table → Type 0
OneTicked count place clock old new =
    (h : Hold) → slice_get old.holds place ≡ Some h
    → (count ≡ (if is_overdue clock h then 1 else 0))
    × (new ≡ record old { holds = slice_set old.holds place (hold_ticked clock h) })
