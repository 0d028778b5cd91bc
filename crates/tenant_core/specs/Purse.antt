-- Purses: what peers owe, and what is held on both sides, as sums over the holds.
use Rattle.std.specs.Prelude.{ℕ, ◌+◌, ℤ, pos, ◌+ℤ◌, ◌-ℤ◌, ◌≤ℤ◌, neg_ℤ, int_lt, Bool, ◌&&◌, sum_by, ◌==◌, Option, Some}
use Rattle.std.specs.Prelude.{None, if◌then◌else◌}
use Rattle.tenant_core.specs.Holds.{holds_of, holds_amounts, took_amounts}
use Rattle.money_core.specs.Account.{max_money}
use Rattle.tenant_core.specs.Network.{peer_numbered}
use Rattle.tenant_core.specs.State.{State}
use Rattle.tenant_core.specs.declared.command.Side.{Side}
use Rattle.tenant_core.specs.declared.command.Side.TheVariants.{In, Out}
use Rattle.tenant_core.specs.declared.hold.Fate.{Fate}
use Rattle.tenant_core.specs.declared.hold.Hold.{Hold}
use Rattle.tenant_core.specs.declared.journal.Change.{Change as Changed}
use Rattle.tenant_core.specs.declared.journal.Change.TheVariants.{Settled}
use Rattle.tenant_core.specs.declared.journal.Entry.{Entry}
use Rattle.tenant_core.specs.declared.journal.Entry.TheVariants.{Change}
use Rattle.tenant_core.specs.declared.journal.Record.{Record}
use Rattle.tenant_core.specs.declared.peer.Peer.{Peer}
use Rattle.tenant_core.specs.declared.row.Row.{Row}

-- the peer on a side of a hold: money comes in from the sender, and goes out to the receiver
abbrev pub peer_on : Side → Hold → ℕ
peer_on In h = h.from
peer_on Out h = h.to

-- how much it is on that side, in that peer's units
abbrev pub amount_on : Side → Hold → ℕ
amount_on In h = h.amount
amount_on Out h = h.price

-- the amount of a hold on that side for the peer of that number, if such a fate counts
abbrev pub comes_to : Side → (Fate → Bool) → ℕ → Hold → ℕ
comes_to side counts n h = if counts h.fate && (peer_on side h == n) then amount_on side h else 0

-- what it holds from the peer, holds for it, took from it, and took for it
abbrev pub held_from : ℕ → Hold → ℕ
held_from n h = comes_to In holds_amounts n h

abbrev pub held_for : ℕ → Hold → ℕ
held_for n h = comes_to Out holds_amounts n h

abbrev pub taken_from : ℕ → Hold → ℕ
taken_from n h = comes_to In took_amounts n h

abbrev pub taken_for : ℕ → Hold → ℕ
taken_for n h = comes_to Out took_amounts n h

-- what is held from the peer of that number, in its units
abbrev pub held_in_of : State → ℕ → ℕ
held_in_of s n = sum_by (held_from n) (holds_of s)

-- what is held for the peer of that number, in its units
abbrev pub held_out_of : State → ℕ → ℕ
held_out_of s n = sum_by (held_for n) (holds_of s)

-- the amounts of fulfilled packets from the peer of that number, in its units
abbrev pub taken_in_of : State → ℕ → ℕ
taken_in_of s n = sum_by (taken_from n) (holds_of s)

-- the amounts of fulfilled packets for the peer of that number, in its units
abbrev pub taken_out_of : State → ℕ → ℕ
taken_out_of s n = sum_by (taken_for n) (holds_of s)

-- what a peer owed at first
abbrev pub opening_balance : Option Peer → ℤ
opening_balance None = pos 0
opening_balance (Some p) = p.balance

-- what a change says that was paid on that side, by the peer of that number or to it
abbrev pub paid_on : Side → ℕ → Changed → ℕ
paid_on In n (Settled peer In amount) = if peer == n then amount else 0
paid_on Out n (Settled peer Out amount) = if peer == n then amount else 0
paid_on side n _ = 0

-- what a record says of this
abbrev pub settled_on : Side → ℕ → Record → ℕ
settled_on side n r = of_entry r.entry
  where
    of_entry : Entry → ℕ
    of_entry (Change c) = paid_on side n c.change
    of_entry _ = 0

-- what it says that the peer paid, and that it was paid
abbrev pub settled_in : ℕ → Record → ℕ
settled_in n r = settled_on In n r

abbrev pub settled_out : ℕ → Record → ℕ
settled_out n r = settled_on Out n r

-- what the peer of that number owed at first and by what was settled since, in its units
abbrev pub base_of : State → ℕ → ℤ
base_of s n =
    (opening_balance (peer_numbered n s.opening.network.peers) -ℤ pos (sum_by (settled_in n) s.records))
    +ℤ pos (sum_by (settled_out n) s.records)

-- what the peer of that number owes the tenant, in its units, below 0 if it is owed
abbrev pub balance_of : State → ℕ → ℤ
balance_of s n = (base_of s n +ℤ pos (taken_in_of s n)) -ℤ pos (taken_out_of s n)

-- a peer's name, its balance and what is held from it and for it
abbrev pub row_of : State → Peer → Row
row_of s p =
    record {
      name = p.terms.name;
      balance = balance_of s p.number;
      held_in = held_in_of s p.number;
      held_out = held_out_of s p.number;
    }

-- with an amount more from it, the sender would owe more than its ceiling
abbrev pub is_over_ceiling : State → Peer → ℕ → Bool
is_over_ceiling s from amount =
    int_lt (pos from.terms.limits.ceiling) (balance_of s from.number +ℤ pos (held_in_of s from.number + amount))

-- with an amount more for it, more would be owed to the receiver than its credit
abbrev pub is_over_credit : State → Peer → ℕ → Bool
is_over_credit s to amount =
    int_lt (balance_of s to.number -ℤ pos (held_out_of s to.number + amount)) (neg_ℤ (pos to.terms.limits.credit))

-- the bounds of a purse, whatever becomes of what is held
pub record IsWithinBounds (s : State) (n : ℕ) : Type 0 where
  pub most : (balance_of s n +ℤ pos (held_in_of s n)) ≤ℤ pos max_money
  pub least : neg_ℤ (pos max_money) ≤ℤ (balance_of s n -ℤ pos (held_out_of s n))
