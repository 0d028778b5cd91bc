-- How purses and buckets follow what happens.
use Rattle.std.specs.Prelude.{ℕ, ◌≡◌, pos, ◌+ℤ◌, ◌-ℤ◌, Bool, false, List, [], ◌∷◌, ◌++◌, nat_le, remove}
use Rattle.std.specs.Prelude.{Option, Some, None, slice_get}
use Rattle.money_core.specs.Account.{Account, is_past_most, is_past_least}
use Rattle.rate_bucket.specs.Bucket.{packet, full_bucket}
use Rattle.rate_bucket.specs.Running.{Level, credit_by, left_by, level_changed}
use Rattle.tenant_core.specs.ChangedAt.{changed_where}
use Rattle.tenant_core.specs.declared.command.Side.{Side}
use Rattle.tenant_core.specs.declared.command.Side.TheVariants.{In, Out}
use Rattle.tenant_core.specs.declared.journal.Change.{Change as Changed}
use Rattle.tenant_core.specs.declared.journal.Change.TheVariants.{PeerAdded, PeerRemoved, LimitsSet, BucketSet}
use Rattle.tenant_core.specs.declared.journal.Change.TheVariants.{RouteAdded, RouteRemoved, RateSet, Settled}
use Rattle.tenant_core.specs.declared.peer.Peer.{Peer}
use Rattle.tenant_core.specs.declared.row.Row.{Row}
use Rattle.tenant_core.specs.declared.terms.PeerLimits.{PeerLimits}
use Rattle.tenant_core.specs.declared.terms.PeerTerms.{PeerTerms}

-- a bucket after a packet at that clock, which pays if there is credit for it
abbrev pub charged : ℕ → Level → Level
charged clock l = left_by (nat_le packet (credit_by l clock)) clock l

-- the purse of a peer that is added
abbrev pub new_purse : PeerTerms → Account
new_purse t =
    record { balance = pos 0; held_in = 0; held_out = 0; ceiling = t.limits.ceiling; credit = t.limits.credit }

-- its bucket: a full one
abbrev pub new_bucket : PeerTerms → ℕ → Level
new_bucket t clock =
    record {
      burst = t.bucket.burst;
      per_second = t.bucket.per_second;
      clock = clock;
      credit = full_bucket t.bucket.burst;
    }

-- a list without the element at a place, if there is one
abbrev pub without : {X : Type 0} → List X → Option ℕ → List X
without xs None = xs
without xs (Some i) = remove xs i

-- a purse with other limits
abbrev pub limited_so : PeerLimits → Account → Account
limited_so l a = record a { ceiling = l.ceiling; credit = l.credit }

-- a purse whose peer paid an amount, or was paid one
abbrev pub settling : Side → ℕ → Account → Account
settling In amount a = record a { balance = a.balance -ℤ pos amount }
settling Out amount a = record a { balance = a.balance +ℤ pos amount }

-- with so much paid on that side, the purse would pass its bound
abbrev pub is_past_bound : Side → ℕ → Account → Bool
is_past_bound In amount a = is_past_least a amount
is_past_bound Out amount a = is_past_most a amount

-- the purses after a change, whose peer was at that place
abbrev pub purses_after : Changed → Option ℕ → List Account → List Account
purses_after (PeerAdded t) place xs = xs ++ new_purse t ∷ []
purses_after (PeerRemoved n) place xs = without xs place
purses_after (LimitsSet n limits) place xs = changed_where (limited_so limits) xs place
purses_after (BucketSet n bucket) place xs = xs
purses_after (RouteAdded prefix hop) place xs = xs
purses_after (RouteRemoved prefix) place xs = xs
purses_after (RateSet r) place xs = xs
purses_after (Settled n side amount) place xs = changed_where (settling side amount) xs place

-- the buckets after a change at that clock
abbrev pub levels_after : Changed → Option ℕ → ℕ → List Level → List Level
levels_after (PeerAdded t) place clock xs = xs ++ new_bucket t clock ∷ []
levels_after (PeerRemoved n) place clock xs = without xs place
levels_after (LimitsSet n limits) place clock xs = xs
levels_after (BucketSet n bucket) place clock xs =
    changed_where (level_changed bucket.burst bucket.per_second clock) xs place
levels_after (RouteAdded prefix hop) place clock xs = xs
levels_after (RouteRemoved prefix) place clock xs = xs
levels_after (RateSet r) place clock xs = xs
levels_after (Settled n side amount) place clock xs = xs

-- what is settled passes no bound of the purse
abbrev pub CanFollow : Changed → Option ℕ → List Account → Type 0
CanFollow (Settled n side amount) place xs =
    (i : ℕ) (a : Account) → place ≡ Some i → slice_get xs i ≡ Some a → is_past_bound side amount a ≡ false
CanFollow _ place xs = Unit {0}

-- ---- at a roll

-- the row of a peer by its purse
abbrev pub row_with : Peer → Account → Row
row_with p a = record { name = p.terms.name; balance = a.balance; held_in = a.held_in; held_out = a.held_out }

-- ---- whom a change is about

-- the number of the peer whose purse or bucket a change is about, if it is there already
abbrev pub peer_changed : Changed → Option ℕ
peer_changed (PeerAdded t) = None
peer_changed (PeerRemoved n) = Some n
peer_changed (LimitsSet n limits) = Some n
peer_changed (BucketSet n bucket) = Some n
peer_changed (RouteAdded prefix hop) = None
peer_changed (RouteRemoved prefix) = None
peer_changed (RateSet r) = None
peer_changed (Settled n side amount) = Some n
