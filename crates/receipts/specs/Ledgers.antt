-- Receipts that are kept as entries are appended.
use Rattle.std.specs.Prelude.{ℕ, ◌≤◌, ◌+◌, ◌-◌, List, length, Option, Some, None, IfSome, option_map, option_to_list}
use Rattle.ilp_addr.specs.Address.{max_address}
use Rattle.tenant_core.specs.Journals.{last_of}
use Rattle.tenant_core.specs.declared.journal.Record.{Record}
use Rattle.receipts.specs.declared.receipt.Receipt.{Receipt}

-- the receipts of a worker, and how many more there is room for
pub record LedgerView : Type 0 where
  pub receipts : List Receipt
  pub room : ℕ

-- ---- room that was made

-- how many receipts the room is for, if there is any
abbrev pub place_of_room : Option ℕ → ℕ
place_of_room None = 0
place_of_room (Some spare) = 1

-- how many receipts both are for
abbrev pub places : (first second : Option ℕ) → ℕ
places first second = place_of_room first + place_of_room second

-- the room is wide enough for each address and each prefix
abbrev pub IsFit : Option ℕ → Type 0
IsFit room = IfSome room (λ spare. max_address ≤ spare)

-- there is a place for each receipt that there is room for
pub record IsLedger (count capacity : ℕ) (first second : Option ℕ) : Type 0 where
  pub capacious : count + places first second ≤ capacity
  pub first_fit : IsFit first
  pub second_fit : IsFit second

-- ---- receipts of records

-- the receipt of the record of that number, of that period of the tenant
abbrev pub receipt_of : (tenant period number : ℕ) → Record → Receipt
receipt_of tenant period number r =
    record { tenant = tenant; period = period; number = number; entry = r.entry; verdict = r.outcome }

-- the receipt of the last of a period's records, if there is one
abbrev pub last_receipt : (tenant period : ℕ) → List Record → List Receipt
last_receipt tenant period records =
    option_to_list (option_map (receipt_of tenant period (length records - 1)) (last_of records))
