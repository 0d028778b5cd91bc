-- The sums of closed periods for each peer, in its units.
use Rattle.std.specs.Prelude.{ℕ, ◌≡◌, ◌≤◌, ◌+◌, ◌^◌, List, length, sum_by}
use Rattle.std.specs.List.{flat_map, zip}
use Rattle.statements.specs.Fees.{fees_of}
use Rattle.statements.specs.Seen.{IsOutOfNumbers, seen_before, seen_during}
use Rattle.statements.specs.Sums.{IsOver, came_by, fee_by, sum_at, went_by}
use Rattle.statements.specs.declared.tally.Tally.{Tally}
use Rattle.statements.specs.declared.totals.Totals.{Totals}
use Rattle.tenant_core.specs.Closing.{state_before_roll}
use Rattle.tenant_core.specs.Holds.{holds_of}
use Rattle.tenant_core.specs.Purse.{settled_in, settled_out, taken_in_of, taken_out_of}
use Rattle.tenant_core.specs.declared.period.PeriodParts.{PeriodParts}

-- how many packets came from the peer of that number in a period, refused ones too
abbrev pub came_from : ℕ → PeriodParts → ℕ
came_from n p = sum_by (came_by n) p.records

-- how many packets went on to it
abbrev pub went_to : ℕ → PeriodParts → ℕ
went_to n p = sum_by (went_by n) (holds_of (state_before_roll p))

-- the amounts of its fulfilled packets
abbrev pub fulfilled_from : ℕ → PeriodParts → ℕ
fulfilled_from n p = taken_in_of (state_before_roll p) n

-- the prices of the fulfilled packets that went on to it
abbrev pub fulfilled_to : ℕ → PeriodParts → ℕ
fulfilled_to n p = taken_out_of (state_before_roll p) n

-- what it paid
abbrev pub settled_from : ℕ → PeriodParts → ℕ
settled_from n p = sum_by (settled_in n) p.records

-- what it was paid
abbrev pub settled_to : ℕ → PeriodParts → ℕ
settled_to n p = sum_by (settled_out n) p.records

-- the fees that were kept of fulfilled packets that went on to it
abbrev pub fees_from : ℕ → PeriodParts → ℕ
fees_from n p = sum_by (fee_by n) (zip (holds_of (state_before_roll p)) (fees_of (state_before_roll p)))

-- the sums are those over the periods, for each peer
abbrev pub IsSum : Tally → (ℕ → PeriodParts → ℕ) → List PeriodParts → Type 0
IsSum t part ps = (n : ℕ) → sum_at t n ≡ sum_by (part n) ps

-- the totals are the sums of the periods
pub record AreTotals (ps : List PeriodParts) (t : Totals) : Type 0 where
  pub periods : t.periods ≡ length ps
  pub entries : t.entries ≡ sum_by (λ p. length p.records) ps
  pub first : t.first.items ≡ seen_before ps
  pub added : t.added.items ≡ flat_map seen_during ps
  pub came : IsSum t.came came_from ps
  pub went : IsSum t.went went_to ps
  pub fulfilled_in : IsSum t.fulfilled_in fulfilled_from ps
  pub fulfilled_out : IsSum t.fulfilled_out fulfilled_to ps
  pub settled_in : IsSum t.settled_in settled_from ps
  pub settled_out : IsSum t.settled_out settled_to ps
  pub fees : IsSum t.fees fees_from ps

-- what a period adds has no room in the totals
pub data IsTooLong (t : Totals) (p : PeriodParts) : Type 0 where
  Periods : 2 ^ 64 ≤ t.periods + 1 → IsTooLong t p
  Entries : 2 ^ 64 ≤ t.entries + length p.records → IsTooLong t p
  Added : IsOutOfNumbers p.opening.network.next_peer p.records → IsTooLong t p
  Came : IsOver t.came (λ n. came_from n p) → IsTooLong t p
  Went : IsOver t.went (λ n. went_to n p) → IsTooLong t p
  FulfilledIn : IsOver t.fulfilled_in (λ n. fulfilled_from n p) → IsTooLong t p
  FulfilledOut : IsOver t.fulfilled_out (λ n. fulfilled_to n p) → IsTooLong t p
  SettledIn : IsOver t.settled_in (λ n. settled_from n p) → IsTooLong t p
  SettledOut : IsOver t.settled_out (λ n. settled_to n p) → IsTooLong t p
  Fees : IsOver t.fees (λ n. fees_from n p) → IsTooLong t p
