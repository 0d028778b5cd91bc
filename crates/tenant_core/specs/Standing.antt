-- What the checks of a packet see of a book.
use Rattle.std.specs.Prelude.{ℕ, ◌≡◌, ◌<◌, ◌≤◌, length, map, false, Some}
use Rattle.money_core.specs.Account.{is_past_ceiling, is_past_credit}
use Rattle.tenant_core.specs.Holds.{holds_of, open_holds}
use Rattle.tenant_core.specs.Limits.{max_holds}
use Rattle.tenant_core.specs.Network.{peer_numbered}
use Rattle.tenant_core.specs.Present.{network_of}
use Rattle.tenant_core.specs.Routing.{Way}
use Rattle.tenant_core.specs.Running.{purse_of, IsLevel, AreLevels}
use Rattle.tenant_core.specs.Sound.{IsSound}
use Rattle.tenant_core.specs.State.{State}
use Rattle.tenant_core.specs.declared.judge.Onward.{Onward}
use Rattle.tenant_core.specs.declared.judge.Party.{Party}
use Rattle.tenant_core.specs.declared.judge.Standing.{Standing}
use Rattle.tenant_core.specs.declared.peer.Peer.{Peer}
use Rattle.tenant_core.specs.declared.verdict.Verdict.{Verdict}
use Rattle.tenant_core.specs.declared.verdict.Verdict.TheVariants.{Forward}

-- the state that is shown
abbrev pub state_shown : Standing → State
state_shown t = record { opening = t.opening.now; records = t.journal.now.records }

-- what is shown is a state within its limits, with the purses and buckets that a book keeps beside it
pub record IsShown (t : Standing) : Type 0 where
  pub sound : IsSound (state_shown t)
  pub network : t.network.now ≡ network_of (state_shown t)
  pub holds : t.holds.now.holds ≡ holds_of (state_shown t)
  pub few : length t.holds.now.holds ≤ length t.journal.now.records
  pub purses : t.purses.now ≡ map (purse_of (state_shown t)) (network_of (state_shown t)).peers
  pub buckets : AreLevels (state_shown t) (network_of (state_shown t)).peers t.buckets.now

-- the peer itself
abbrev pub peer_of : Party → Peer
peer_of t = t.peer.now

-- how a packet goes on, without the address of its peer in memory
abbrev pub way_of : Onward → Way
way_of o = record { peer = peer_of o.to; fee = o.fee }

-- the purse and the bucket are the peer's
pub record IsParty (s : State) (t : Party) : Type 0 where
  pub purse : t.purse.now ≡ purse_of s (peer_of t)
  pub bucket : IsLevel s (peer_of t) t.bucket.now

-- a packet that goes on to that peer passes no limit of either purse, and fewer than 1,024 await their answers
abbrev pub CanGoTo : State → Peer → Peer → ℕ → Verdict → Type 0
CanGoTo s from to amount (Forward hold peer price expiry) =
    (peer ≡ to.number) × (is_past_ceiling (purse_of s from) amount ≡ false)
    × (is_past_credit (purse_of s to) price ≡ false) × (open_holds s < max_holds)
CanGoTo s from to amount _ = Unit {0}

-- the same of the peer that it goes on to
abbrev pub CanGoOn : State → Peer → ℕ → Verdict → Type 0
CanGoOn s from amount (Forward hold peer price expiry) =
    (to : Peer) × ((peer_numbered peer (network_of s).peers ≡ Some to) × (is_past_ceiling (purse_of s from) amount ≡ false)
    × (is_past_credit (purse_of s to) price ≡ false) × (open_holds s < max_holds))
CanGoOn s from amount _ = Unit {0}
