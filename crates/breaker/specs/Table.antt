-- The breakers of the peers of one tenant.
use Rattle.std.specs.Prelude.{ℕ, ◌≡◌, ◌+◌, ◌-◌, ◌^◌, Bool, ◌&&◌, List, [], ◌∷◌, ◌++◌, Option, Some, None, drop, filter, length, min, nat_lt, not, slice_set, if◌then◌else◌}
use Rattle.std.specs.List.{position, remove, slice_get}
use Rattle.std.specs.Str.{bytes_eq}
use Rattle.ilp_addr.specs.Target.{Parts}
use Rattle.breaker.specs.Breaker.{asked_at, is_closed, learnt, pass_at}
use Rattle.breaker.specs.declared.breaker.Pass.{Pass}
use Rattle.breaker.specs.declared.breaker.Pass.TheVariants.{Usual}
use Rattle.breaker.specs.declared.breaker.Outcome.{Outcome}
use Rattle.breaker.specs.declared.breaker.Outcome.TheVariants.{Answered, Missed, Unknown}
use Rattle.breaker.specs.declared.breaker.State.{State}
use Rattle.breaker.specs.declared.breaker.State.TheVariants.{Closed}
use Rattle.breaker.specs.declared.table.Missing.{Missing}
use Rattle.breaker.specs.declared.table.PeerTable.{PeerTable}

-- so many peers are known at most
abbrev pub max_known : ℕ
max_known = 256

-- a peer is known by the URL and the token of its target
abbrev pub is_of : Parts → Missing → Bool
is_of target known = bytes_eq known.target.url target.url && bytes_eq known.target.token target.token

abbrev pub place_of : Parts → List Missing → Option ℕ
place_of target peers = position (λ known. is_of target known) peers

-- how many peers rest
abbrev pub resting_of : List Missing → ℕ
resting_of peers = length (filter (λ known. not (is_closed known.breaker)) peers)

-- one packet more had no pass: the count ends at 2^64 - 1
abbrev pub skipped_by : Option Pass → ℕ → ℕ
skipped_by (Some pass) skipped = skipped
skipped_by None skipped = min (skipped + 1) (2 ^ 64 - 1)

-- the pass of a packet to the peer at that place, and the table after it asked. Packets to a peer that is not known go on
abbrev pub IsAsked : (place : Option ℕ) → (now : ℕ) → (before : PeerTable) → Option Pass → (after : PeerTable) → Type 0
IsAsked None now before pass after = (pass ≡ Some Usual) × (after ≡ before)
IsAsked (Some place) now before pass after =
    (known : Missing) × (slice_get before.peers.items place ≡ Some known) × (pass ≡ pass_at now known.breaker)
    × (after.peers.items ≡ slice_set before.peers.items place (record known { breaker = asked_at now known.breaker }))
    × (after.skipped ≡ skipped_by pass before.skipped)

-- the peers without the first one, where there is no room for one more
abbrev pub trimmed : List Missing → List Missing
trimmed peers = if nat_lt (length peers) max_known then peers else drop 1 peers

-- the peers with one more, which has that breaker
abbrev pub noted : (target : Parts) → State → List Missing → List Missing
noted target breaker peers = trimmed peers ++ record { target = target; breaker = breaker } ∷ []

-- the breaker at that place after it is known what became of a packet
abbrev pub IsLearntAt : (place : ℕ) → Pass → Outcome → (now : ℕ) → (before after : List Missing) → Type 0
IsLearntAt place pass outcome now before after =
    (known : Missing) × (slice_get before place ≡ Some known)
    × (after ≡ slice_set before place (record known { breaker = learnt pass outcome now known.breaker }))

-- the peers after that: one that answers need not be known any more, and one that was not known is from its first miss on
abbrev pub AreLearnt : (place : Option ℕ) → (target : Parts) → Pass → Outcome → (now : ℕ) → (before after : List Missing) → Type 0
AreLearnt None target pass Answered now before after = after ≡ before
AreLearnt None target pass Missed now before after = after ≡ noted target (Closed 1) before
AreLearnt None target pass Unknown now before after = after ≡ before
AreLearnt (Some place) target pass Answered now before after = after ≡ remove before place
AreLearnt (Some place) target pass Missed now before after = IsLearntAt place pass Missed now before after
AreLearnt (Some place) target pass Unknown now before after = IsLearntAt place pass Unknown now before after
