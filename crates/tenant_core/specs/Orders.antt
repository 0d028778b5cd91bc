-- Orders of an operator: what each changes, and why it is refused, in the order of the tests.
use Rattle.std.specs.Prelude.{ℕ, ◌≡◌, ◌+◌, pos, ◌+ℤ◌, ◌-ℤ◌, neg_ℤ, int_lt, unsigned_abs, Bool, true, not, ◌&&◌, ◌||◌, ◌==◌, List}
use Rattle.std.specs.Prelude.{Option, Some, None, is_some, option_map, Result, Ok, Err, if◌then◌else◌}
use Rattle.std.specs.FinMap.{values}
use Rattle.std.specs.List.{list_any}
use Rattle.std.specs.Option.{option_or}
use Rattle.common_types.specs.OptionChain.{◌>>=◌}
use Rattle.money_core.specs.Fraction.{Fraction}
use Rattle.route_table.specs.Routes.{NamesPeer}
use Rattle.tenant_core.specs.Answer.{has_no_place}
use Rattle.tenant_core.specs.Commands.{Ends}
use Rattle.tenant_core.specs.Checks.{◌otherwise◌}
use Rattle.tenant_core.specs.Holds.{holds_of, is_open}
use Rattle.money_core.specs.Account.{max_money}
use Rattle.tenant_core.specs.Network.{Net, peer_numbered, peer_named, peer_refusal, route_refusal, no_route_refusal}
use Rattle.tenant_core.specs.Network.{rate_refusal}
use Rattle.tenant_core.specs.Present.{network_of}
use Rattle.tenant_core.specs.Purse.{balance_of, held_in_of, held_out_of}
use Rattle.tenant_core.specs.State.{State, recorded}
use Rattle.tenant_core.specs.declared.command.Order.{Order}
use Rattle.tenant_core.specs.declared.command.Order.TheVariants.{AddPeer, RemovePeer, SetLimits, SetBucket}
use Rattle.tenant_core.specs.declared.command.Order.TheVariants.{AddRoute, RemoveRoute, SetRate, Settle}
use Rattle.tenant_core.specs.declared.command.Side.{Side}
use Rattle.tenant_core.specs.declared.command.Side.TheVariants.{In, Out}
use Rattle.tenant_core.specs.declared.faults.CommandFault.{CommandFault}
use Rattle.tenant_core.specs.declared.faults.CommandFault.TheVariants.{Full, InUse, Absent, Limit, Memory}
use Rattle.tenant_core.specs.declared.hold.Hold.{Hold}
use Rattle.tenant_core.specs.declared.journal.Change.{Change as Changed}
use Rattle.tenant_core.specs.declared.journal.Change.TheVariants.{PeerAdded, PeerRemoved, LimitsSet, BucketSet}
use Rattle.tenant_core.specs.declared.journal.Change.TheVariants.{RouteAdded, RouteRemoved, RateSet, Settled}
use Rattle.tenant_core.specs.declared.journal.Entry.TheVariants.{Change}
use Rattle.tenant_core.specs.declared.journal.Outcome.TheVariants.{Done}
use Rattle.tenant_core.specs.declared.journal.Record.{Record}
use Rattle.tenant_core.specs.declared.terms.RateTerms.{RateTerms}

-- the number of the peer of that name
abbrev pub number_named : Net → List ℕ → Option ℕ
number_named net name = option_map (λ p. p.number) (peer_named name net.peers)

-- the rate between the peers of these names, if they are there
abbrev pub rate_named : Net → Ends → Fraction → Option RateTerms
rate_named net pair rate = do
  from ← number_named net pair.from
  to ← number_named net pair.to
  Some (record { from = from; to = to; rate = rate })

-- the change of an order, if the peers that it names are there
abbrev pub change_of : Net → Order → Option Changed
change_of net (AddPeer t) = Some (PeerAdded t)
change_of net (RemovePeer name) = option_map (λ n. PeerRemoved n) (number_named net name)
change_of net (SetLimits name limits) = option_map (λ n. LimitsSet n limits) (number_named net name)
change_of net (SetBucket name bucket) = option_map (λ n. BucketSet n bucket) (number_named net name)
change_of net (AddRoute prefix name fee) =
    option_map (λ n. RouteAdded prefix (record { peer = n; fee = fee })) (number_named net name)
change_of net (RemoveRoute prefix) = Some (RouteRemoved prefix)
change_of net (SetRate pair rate) = option_map (λ r. RateSet r) (rate_named net pair rate)
change_of net (Settle name side amount) = option_map (λ n. Settled n side amount) (number_named net name)

-- a hold that awaits its answer names the peer of that number
abbrev pub awaits_for : ℕ → Hold → Bool
awaits_for n h = is_open h && ((h.from == n) || (h.to == n))

-- a route, a packet that awaits its answer or a balance names the peer of that number
abbrev pub is_in_use : State → Net → ℕ → Bool
is_in_use s net n =
    list_any (λ hop. hop.peer == n) (values net.routes) || list_any (awaits_for n) (holds_of s)
    || not (unsigned_abs (balance_of s n) == 0)

-- with so much paid on that side, a purse would leave its bounds
abbrev pub is_too_much : State → ℕ → Side → ℕ → Bool
is_too_much s n In amount = int_lt (balance_of s n -ℤ pos (held_out_of s n + amount)) (neg_ℤ (pos max_money))
is_too_much s n Out amount = int_lt (pos max_money) (balance_of s n +ℤ pos (held_in_of s n + amount))

-- why the packets and the money of a state refuse a change
abbrev pub state_refusal : State → Net → Changed → Option CommandFault
state_refusal s net (PeerRemoved n) = if is_in_use s net n then Some InUse else None
state_refusal s net (Settled n side amount) = if is_too_much s n side amount then Some Limit else None
state_refusal s net _ = None

-- why the network refuses it
abbrev pub net_refusal : Net → Changed → Option CommandFault
net_refusal net (PeerAdded t) = peer_refusal net t
net_refusal net (RouteAdded prefix hop) = route_refusal net prefix
net_refusal net (RouteRemoved prefix) = no_route_refusal net prefix
net_refusal net (RateSet r) = rate_refusal net r
net_refusal net _ = None

-- why a change is refused, if the peers that it names are there; each is refused for one of these two
-- reasons only
abbrev pub change_refusal : State → Net → Changed → Option CommandFault
change_refusal s net c = option_or (state_refusal s net c) (net_refusal net c)

-- why an order is refused, if the journal has room for it
abbrev pub order_refusal : State → Net → Order → Option CommandFault
order_refusal s net order = (change_of net order otherwise Some Absent) (λ c. change_refusal s net c)

-- a change, unless it is refused
abbrev pub unless_refused : Changed → Option CommandFault → Result Changed CommandFault
unless_refused c None = Ok c
unless_refused c (Some fault) = Err fault

-- the result of an order: the change that it makes, or why it is refused
abbrev pub ordered : State → Order → Result Changed CommandFault
ordered s order =
    if has_no_place s then Err Full
    else ((change_of (network_of s) order otherwise Err Absent)
    (λ c. unless_refused c (change_refusal s (network_of s) c)))

-- the record of a change
abbrev pub change_record : Changed → ℕ → Record
change_record c now = record { entry = Change (record { change = c; now = now }); outcome = Done }

-- an order was done, or refused, as it had to be: the state after it, and its fault
abbrev pub IsOrdered : Result (Unit {0}) CommandFault → Result Changed CommandFault → State → State → ℕ → Type 0
IsOrdered (Ok done) (Ok c) before after now = after ≡ recorded before (Some (change_record c now))
IsOrdered (Ok done) (Err fault) before after now = ⊥
IsOrdered (Err Memory) (Ok c) before after now = after ≡ before
IsOrdered (Err given) (Ok c) before after now = ⊥
IsOrdered (Err given) (Err fault) before after now = (given ≡ fault) × (after ≡ before)

-- no route names a peer that a change takes away
abbrev pub IsFree : Net → Changed → Type 0
IsFree net (PeerRemoved n) = ¬ (NamesPeer net.routes n)
IsFree net _ = Unit {0}

-- the peers are there that a change names, and a rate's are two
abbrev pub names_present : Net → Changed → Bool
names_present net (PeerAdded t) = true
names_present net (PeerRemoved n) = is_some (peer_numbered n net.peers)
names_present net (LimitsSet n limits) = is_some (peer_numbered n net.peers)
names_present net (BucketSet n bucket) = is_some (peer_numbered n net.peers)
names_present net (RouteAdded prefix hop) = is_some (peer_numbered hop.peer net.peers)
names_present net (RouteRemoved prefix) = true
names_present net (RateSet r) =
    is_some (peer_numbered r.from net.peers) && is_some (peer_numbered r.to net.peers) && not (r.from == r.to)
names_present net (Settled n side amount) = is_some (peer_numbered n net.peers)
