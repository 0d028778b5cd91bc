-- What a book keeps running for its peers, looked up and after one record more.
use Rattle.std.proofs.Common.{◌≡◌, ℕ, ◌<◌, List, length, get_or, map, ap, ◌∙◌, arith}
use Rattle.std.specs.Prelude.{Option, Some, None, option_map}
use Rattle.std.specs.List.{slice_get}
use Rattle.std.proofs.lemmas.Option.{slice_get-map, get_or_from_slice_get}
use Rattle.money_core.specs.Account.{Account}
use Rattle.rate_bucket.specs.Running.{Level}
use Rattle.tenant_core.specs.Running.{purse_of, AreLevels, IsLevel}
use Rattle.tenant_core.specs.State.{State}
use Rattle.tenant_core.specs.declared.peer.Peer.{Peer}
use Rattle.std.specs.Prelude.{option_and_then}
use Rattle.route_table.specs.Routes.{best_route}
use Rattle.tenant_core.specs.Network.{Net, peer_numbered}
use Rattle.tenant_core.specs.Present.{network_of}
use Rattle.route_table.specs.declared.hop.Hop.{Hop}
use Rattle.tenant_core.specs.Routing.{Way, another, onward, way_by}
use Rattle.tenant_core.specs.Standing.{CanGoTo, CanGoOn}
use Rattle.tenant_core.specs.declared.verdict.Verdict.{Verdict}
use Rattle.tenant_core.specs.declared.verdict.Verdict.TheVariants.{Unknown, NoRoom, Refuse, Fulfil, Forward, Relay}
use Rattle.tenant_core.proofs.ChangedLists.{read_at, numbered}

-- the purse that stands at a peer's place
pub purse_at : (s : State) (peers : List Peer) (purses : List Account) (i : ℕ) (p : Peer) (a : Account) → slice_get peers i ≡ Some p
    → purses ≡ map (purse_of s) peers → a ≡ get_or purses i a → a ≡ purse_of s p
purse_at s peers purses i p a at is read =
    let there : slice_get purses i ≡ Some (purse_of s p) = ap (λ xs. slice_get xs i) is ∙ (slice_get-map (purse_of s) peers i ∙ ap (option_map (purse_of s)) at) in
    read ∙ get_or_from_slice_get purses i (purse_of s p) a there

-- the bucket that stands there
pub level_at : (s : State) (peers : List Peer) (levels : List Level) (i : ℕ) (p : Peer) (l : Level) → i < length peers → slice_get peers i ≡ Some p
    → AreLevels s peers levels → l ≡ get_or levels i l → IsLevel s p l
level_at s peers levels i p l inside at are read =
    let long = are.long in
    let here : i < length levels = omega arith in
    are.each i p l at (read_at levels i l here read)

-- the peer of a way, or another where there is none
abbrev peer_or : Peer → Option Way → Peer
peer_or p None = p
peer_or p (Some way) = way.peer

-- the peer that a packet goes on to is the one of its number
pub onward_found : (net : Net) (from : ℕ) (destination : List ℕ) (way : Way) → onward net from destination ≡ Some way
    → peer_numbered way.peer.number net.peers ≡ Some way.peer
onward_found net from destination way = by (option_and_then (another from) (best_route net.routes destination))
  where
    there : (fee : ℕ) (o : Option Peer) → option_map (λ p. let w : Way = record { peer = p; fee = fee } in w) o ≡ Some way → o ≡ Some way.peer
    there fee None e = absurd cc
    there fee (Some p) e = let same : p ≡ way.peer = ap (λ (o : Option Way). peer_or p o) e in ap Some same

    by : (o : Option Hop) → option_and_then (way_by net) o ≡ Some way → peer_numbered way.peer.number net.peers ≡ Some way.peer
    by None e = absurd cc
    by (Some hop) e =
        let is : peer_numbered hop.peer net.peers ≡ Some way.peer = there hop.fee (peer_numbered hop.peer net.peers) e in
        ap (λ k. peer_numbered k net.peers) (numbered hop.peer net.peers way.peer is) ∙ is

-- a packet that may go on to a peer that was found may go on
pub goes_on : (s : State) (from to : Peer) (amount : ℕ) (v : Verdict) → peer_numbered to.number (network_of s).peers ≡ Some to → CanGoTo s from to amount v → CanGoOn s from amount v
goes_on s from to amount Unknown found can = tt
goes_on s from to amount NoRoom found can = tt
goes_on s from to amount (Refuse code amounts) found can = tt
goes_on s from to amount Fulfil found can = tt
goes_on s from to amount Relay found can = tt
goes_on s from to amount (Forward hold peer price expiry) found can =
    (to, (ap (λ n. peer_numbered n (network_of s).peers) can.0 ∙ found, can.1, can.2, can.3))
