-- What contracts see of a lending, and what it keeps.
use Rattle.std.specs.Prelude.{ℕ, ◌≡◌, ◌<◌, ◌≤◌, length}
use Rattle.allotment.specs.Loans.{used_by}
use Rattle.allotment.specs.Waits.{Queued, NobodyWaitsInVain, kept_for, waiting_of}
use Rattle.allotment.specs.declared.lending.Lending.TheInside.{Inside}

-- what is lent, who waits, and whose turn it is
abbrev pub queued_of : Inside → Queued
queued_of l = record {
  loans = l.loans;
  most_waiting = l.most_waiting;
  waiting = l.waiting.items;
  kept = l.kept.items;
  turn = l.turn;
}

-- Each tenant has its two numbers. No more wait than may, and nobody waits who could have a place. The places kept for
-- a tenant are among those that it uses. The turn is a tenant's.
pub record IsQueue (queued : Queued) : Type 0 where
  pub all_wait : length queued.waiting ≡ length queued.loans.used
  pub all_kept : length queued.kept ≡ length queued.loans.used
  pub few : (tenant : ℕ) → waiting_of tenant queued ≤ queued.most_waiting
  pub used : (tenant : ℕ) → kept_for tenant queued ≤ used_by tenant queued.loans
  pub in_vain : NobodyWaitsInVain queued
  pub turn : queued.turn < length queued.loans.used
