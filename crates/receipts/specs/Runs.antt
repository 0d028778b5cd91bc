-- Complete receipts as records of steps.
use Rattle.std.specs.Prelude.{ℕ, ◌≡◌, ◌≤◌, List, [], ◌∷◌, Option, Some, None, Contains, map, slice_get}
use Rattle.tenant_core.specs.State.{State, opened}
use Rattle.tenant_core.specs.declared.opening.Opening.{Opening}
use Rattle.tenant_core.specs.declared.period.PeriodParts.{PeriodParts}
use Rattle.floor_core.specs.Causes.{AreRun, Entered}
use Rattle.joint_order.specs.Orders.{list_at, none, one_more_at}
use Rattle.receipts.specs.Audits.{shown_record}
use Rattle.receipts.specs.declared.receipt.Receipt.{Receipt}

-- a receipt, if there is one, and others after it
abbrev pub led_by : Option Receipt → List Receipt → List Receipt
led_by None rs = rs
led_by (Some r) rs = r ∷ rs

-- the receipts in an order, after so many of each list were taken: each number takes the next one of that list
abbrev pub taken_in : List (List Receipt) → (taken : ℕ → ℕ) → (order : List ℕ) → List Receipt
taken_in lists taken [] = []
taken_in lists taken (i ∷ order) = led_by (slice_get (list_at lists i) (taken i)) (taken_in lists (one_more_at taken i) order)

-- the receipts in an order
abbrev pub in_order : List (List Receipt) → (order : List ℕ) → List Receipt
in_order lists order = taken_in lists none order

-- the record that a receipt shows, in its tenant's book
abbrev pub entered_in : Receipt → Entered
entered_in r = record { tenant = r.tenant; made = shown_record r }

-- no period of the same tenant comes after it
abbrev pub IsLast : List PeriodParts → PeriodParts → Type 0
IsLast periods p =
    (q : PeriodParts) → Contains periods q → q.opening.tenant ≡ p.opening.tenant → q.opening.period ≤ p.opening.period

-- There are steps that start from the tenants' first periods and make just the records that the receipts show, in that
-- order. They leave each tenant's book as the tenant's last period ended.
pub record AreOfRun (periods : List PeriodParts) (lists : List (List Receipt)) (order : List ℕ) : Type 0 where
  pub openings : List Opening
  pub left : ℕ → State
  pub first : (p : PeriodParts) → Contains periods p → p.opening.period ≡ 0 → slice_get openings p.opening.tenant ≡ Some p.opening
  pub last : (p : PeriodParts) → Contains periods p → IsLast periods p → left p.opening.tenant ≡ opened p.ending
  pub run : AreRun openings (map entered_in (in_order lists order)) left
