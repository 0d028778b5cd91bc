-- What is kept running as a period begins.
use Rattle.std.proofs.Common.{◌≡◌, ℕ, ◌∷◌, ◌<◌, ◌≤◌, true, ℤ, pos, ◌+ℤ◌, ◌-ℤ◌, List, [], map, refl, sym, ap, ◌∙◌, subst, arith, le_refl}
use Rattle.std.proofs.lemmas.Int.{ints}
use Rattle.std.specs.Prelude.{All, Some, ◌==◌, ◌&&◌, nat_le}
use Rattle.std.specs.List.{list_all, slice_get}
use Rattle.std.proofs.lemmas.Bool.{eq-eqb, le-leb}
use Rattle.std.proofs.lemmas.List.Elements.{All-nil}
use Rattle.money_core.specs.Account.{Account}
use Rattle.rate_bucket.specs.Bucket.{credit_at, full_bucket, windows_left}
use Rattle.tenant_core.specs.Bucket.{stretch_of}
use Rattle.tenant_core.specs.Network.{Net, IsNetwork, begun, filled, peer_numbered}
use Rattle.tenant_core.specs.Periods.{carried, carried_net}
use Rattle.tenant_core.specs.Present.{network_of}
use Rattle.tenant_core.specs.Purse.{opening_balance}
use Rattle.tenant_core.specs.Reopening.{is_fresh}
use Rattle.tenant_core.specs.Running.{opened_purse, purse_of, purse_by, IsNamed}
use Rattle.tenant_core.specs.State.{State, opened}
use Rattle.tenant_core.specs.declared.hold.Hold.{Hold}
use Rattle.tenant_core.specs.declared.opening.Opening.{Opening}
use Rattle.tenant_core.specs.declared.peer.Peer.{Peer}
use Rattle.tenant_core.proofs.ChangedLists.{map-same, read_passes}
use Rattle.tenant_core.proofs.Courses.{holds_of-opened}
use Rattle.tenant_core.proofs.Presents.{network_of-opened}

opened_balance : (b : ℤ) → ((((b -ℤ pos 0) +ℤ pos 0) +ℤ pos 0) -ℤ pos 0) ≡ b
opened_balance b = omega (arith, ints)

-- each peer's purse has what it owed
pub purses_opened : (o : Opening) (peers : List Peer) → IsNetwork o.network → peers ≡ o.network.peers
    → map opened_purse peers ≡ map (purse_of (opened o)) (network_of (opened o)).peers
purses_opened o peers net is =
    let s : State = opened o in
    map-same opened_purse (purse_by s []) peers (λ k p at.
    let mine : peer_numbered p.number o.network.peers ≡ Some p = read_passes o.network.peers k p net.numbers (ap (λ ps. slice_get ps k) (sym is) ∙ at) in
    let owed : opening_balance (peer_numbered p.number o.network.peers) ≡ p.balance = ap opening_balance mine in
    let whole : p.balance ≡ ((((opening_balance (peer_numbered p.number o.network.peers) -ℤ pos 0) +ℤ pos 0) +ℤ pos 0) -ℤ pos 0) = sym (opened_balance (opening_balance (peer_numbered p.number o.network.peers)) ∙ owed) in
    ap (λ b. let a : Account = record { balance = b; held_in = 0; held_out = 0; ceiling = p.terms.limits.ceiling; credit = p.terms.limits.credit } in a) whole)
    ∙ (ap (λ (hs : List Hold). map (purse_by s hs) peers) (sym (holds_of-opened s refl))
    ∙ ap (map (purse_of s)) (is ∙ ap (λ (n : Net). n.peers) (sym (network_of-opened s refl))))

-- nothing names a number that was not given
pub named_opened : (o : Opening) → IsNetwork o.network → IsNamed (opened o)
named_opened o net =
    let s : State = opened o in
    let now : network_of s ≡ o.network = network_of-opened s refl in
    record {
      opening = subst (λ (n : Net). o.network.next_peer ≤ n.next_peer) (sym now) (le_refl o.network.next_peer);
      opened = net.next;
      holds = subst (λ (hs : List Hold). All (λ h. (h.from < (network_of s).next_peer) × (h.to < (network_of s).next_peer)) hs) (sym (holds_of-opened s refl))
          (All-nil (λ (h : Hold). (h.from < (network_of s).next_peer) × (h.to < (network_of s).next_peer)));
      paid = λ n late. refl;
      got = λ n late. refl;
    }

-- ---- buckets: the level of each peer was taken as the period began

abbrev pub AreFresh : ℕ → List Peer → Type 0
AreFresh clock peers = list_all (is_fresh clock) peers ≡ true

-- a bucket that holds no more than it can, from that clock on
fresh_one : (clock credit burst : ℕ) → credit ≤ full_bucket burst → ((clock == clock) && ((0 == 0) && nat_le credit (full_bucket burst))) ≡ true
fresh_one clock credit burst fits = rw (eq-eqb clock clock refl, le-leb credit (full_bucket burst) fits) refl

fresh_by : (f : Peer → Peer) (clock : ℕ) → ((p : Peer) → is_fresh clock (f p) ≡ true) → (peers : List Peer) → AreFresh clock (map f peers)
fresh_by f clock each [] = refl
fresh_by f clock each (p ∷ ps) = rw (each p, fresh_by f clock each ps) refl

pub begun_fresh : (net : Net) (clock : ℕ) → AreFresh clock (begun clock net).peers
begun_fresh net clock =
    fresh_by (filled clock) clock
    (λ (p : Peer). let burst : ℕ = p.terms.bucket.burst in fresh_one clock (full_bucket burst) burst (le_refl (full_bucket burst))) net.peers

-- no window leaves more than a full bucket
windows_fit : (burst per_second now : ℕ) (ats : List ℕ) → windows_left burst per_second now ats ≤ full_bucket burst
windows_fit burst per_second now [] = le_refl (full_bucket burst)
windows_fit burst per_second now (at ∷ ats) = let rest = windows_fit burst per_second now ats in omega arith

pub carried_fresh : (s : State) (clock : ℕ) (net : Net) → AreFresh clock (carried_net s clock net).peers
carried_fresh s clock net =
    fresh_by (carried s clock) clock
    (λ (p : Peer).
    let burst : ℕ = p.terms.bucket.burst in
    let fits = windows_fit burst p.terms.bucket.per_second clock (stretch_of s p).admitted in
    fresh_one clock (credit_at (stretch_of s p) clock) burst (omega arith)) net.peers
