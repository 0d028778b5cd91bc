-- What a share keeps.
use Rattle.std.specs.Prelude.{ℕ, ◌≡◌, ◌==◌, ◌+◌, ◌<◌, ◌≤◌, Bool, ◌||◌, List, ◌++◌, Option, Some, None, Result, Ok, Err, count_by, slice_index}
use Rattle.tenant_core.specs.Limits.{max_tenants}
use Rattle.one_list.specs.declared.step.Done.{Done}
use Rattle.receipts.specs.Ledgers.{LedgerView}
use Rattle.receipts.specs.declared.receipt.Receipt.{Receipt}
use Rattle.books_shared.specs.Shares.{has_full, max_count, receipts_told}

-- no count passes its limit in the calls that there is room for
abbrev pub HaveRoom : List ℕ → ℕ → Type 0
HaveRoom counts room = (t : ℕ) → slice_index counts t + room ≤ max_count + 1

-- this holds of all counts
pub record HasRoomForCounts (entries unknown refused : List ℕ) (room : ℕ) : Type 0 where
  pub counts : HaveRoom entries room
  pub strangers : HaveRoom unknown room
  pub full : HaveRoom refused room

-- of each tenant, as many entries are counted as there are steps of it
abbrev pub AreTallied : List ℕ → List Done → Type 0
AreTallied counts steps = (t : ℕ) → t < max_tenants → slice_index counts t ≡ count_by (λ e. e.tenant == t) steps

-- the receipts, if they are kept, are those of the steps, and there is room for those of the calls that
-- follow
abbrev pub IsLedgerOf : Option LedgerView → List Done → ℕ → Type 0
IsLedgerOf None steps room = Unit {0}
IsLedgerOf (Some ledger) steps room = (ledger.receipts ≡ receipts_told steps) × (room ≤ ledger.room)

-- room for two receipts was made, if receipts are kept; or it is out of memory, and the receipts are the same
abbrev pub HasMadeRoom : {E : Type 0} → Result (Unit {0}) E → (before after : Option LedgerView) → Type 0
HasMadeRoom r None after = (after ≡ None) × (r ≡ Ok tt)
HasMadeRoom (Ok made) (Some before) (Some after) = (after.receipts ≡ before.receipts) × (after.room ≡ 2)
HasMadeRoom (Err refused) (Some before) (Some after) = (after.receipts ≡ before.receipts) × (before.room ≤ after.room)
HasMadeRoom r (Some before) None = ⊥

-- these receipts more were kept, in the room that was made for one, if receipts are kept
abbrev pub HasKept : (before after : Option LedgerView) → List Receipt → Type 0
HasKept None after more = after ≡ None
HasKept (Some before) (Some after) more = (after.receipts ≡ before.receipts ++ more) × (before.room ≤ after.room + 1)
HasKept (Some before) None more = ⊥

-- all of that
pub record IsShare (entries unknown refused : List ℕ) (room : ℕ) (spent : Bool) (steps : List Done) (ledger : Option LedgerView) : Type 0 where
  pub roomy : HasRoomForCounts entries unknown refused room
  pub known : spent ≡ (has_full entries || has_full unknown || has_full refused)
  pub tallied : AreTallied entries steps
  pub kept : IsLedgerOf ledger steps room
