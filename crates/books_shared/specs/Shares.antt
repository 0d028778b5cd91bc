-- What a worker has counted for each tenant.
use Rattle.std.specs.Prelude.{ℕ, ◌≡◌, ◌+◌, ◌-◌, ◌^◌, Bool, true, false, ◌||◌, List, [], ◌∷◌, ◌++◌, map, replicate, slice_index, slice_set, zero, suc, nat_le}
use Rattle.std.specs.Prelude.{Option, Some, None, Result, Ok, Err, if◌then◌else◌}
use Rattle.std.specs.List.{list_any}
use Rattle.tenant_core.specs.Limits.{max_tenants}
use Rattle.one_list.specs.declared.step.Beginning.{Beginning}
use Rattle.one_list.specs.declared.step.Done.{Done}
use Rattle.books_shared.specs.declared.rise.CallCounts.{CallCounts}
use Rattle.books_shared.specs.declared.share.RoomFault.{RoomFault}
use Rattle.books_shared.specs.declared.share.RoomFault.TheVariants.{Spent, Memory}
use Rattle.receipts.specs.Ledgers.{receipt_of}
use Rattle.receipts.specs.declared.receipt.Receipt.{Receipt}

-- a worker's number and its counts of each tenant: entries that it appended, tokens of no peer, packets that found the
-- journal full. Then for how many calls there is room, and the worker's steps in the one list. Then the tenants' steps
-- that it has met, each time as far as they had got, and its receipts, if it keeps them
pub record ShareView : Type 0 where
  pub worker : ℕ
  pub counts : List ℕ
  pub strangers : List ℕ
  pub full : List ℕ
  pub room : ℕ
  pub steps : List Done
  pub met : List Beginning
  pub audited : Bool

-- ---- new shares

-- nothing is counted for any tenant
abbrev pub no_counts : List ℕ
no_counts = replicate max_tenants 0

-- the share of a worker that has counted nothing
abbrev pub fresh : (audited : Bool) (worker : ℕ) → ShareView
fresh audited worker =
    record {
      worker = worker;
      counts = no_counts;
      strangers = no_counts;
      full = no_counts;
      room = 0;
      steps = [];
      met = [];
      audited = audited;
    }

-- the shares of so many workers, in order
abbrev pub fresh_shares : (audited : Bool) (workers : ℕ) → List ShareView
fresh_shares audited zero = []
fresh_shares audited (suc n) = fresh_shares audited n ++ fresh audited n ∷ []

-- ---- counting

-- the counts with so many more for that tenant
abbrev pub added : List ℕ → ℕ → ℕ → List ℕ
added counts tenant n = slice_set counts tenant (slice_index counts tenant + n)

-- the share after a call that counts so much for that tenant
abbrev pub share_raised : CallCounts → ℕ → ShareView → ShareView
share_raised rise tenant s =
    record s {
      counts = added s.counts tenant rise.entries;
      strangers = added s.strangers tenant rise.strangers;
      full = added s.full tenant rise.full;
      room = s.room - 1;
    }

-- the share with these steps more
abbrev pub with_steps : List Done → ShareView → ShareView
with_steps more s = record s { steps = s.steps ++ more }

-- the share, once its worker has met the steps of that tenant
abbrev pub share_met : ℕ → List Done → ShareView → ShareView
share_met tenant steps s = record s { met = s.met ++ record { tenant = tenant; steps = steps } ∷ [] }

-- ---- room

-- a count that is full
abbrev pub max_count : ℕ
max_count = 2 ^ 47

-- one of the counts is full
abbrev pub has_full : List ℕ → Bool
has_full counts = list_any (nat_le max_count) counts

-- one of a share's counts is full
abbrev pub is_spent : ShareView → Bool
is_spent s = has_full s.counts || has_full s.strangers || has_full s.full

-- the result of asking for room: there is room for two calls; or nothing has changed, because a count is full or
-- because it is out of memory for receipts
abbrev pub IsRoomMade : Result (Unit {0}) RoomFault → (before after : ShareView) → Type 0
IsRoomMade (Ok made) before after = (is_spent before ≡ false) × (after ≡ record before { room = 2 })
IsRoomMade (Err Spent) before after = (is_spent before ≡ true) × (after ≡ before)
IsRoomMade (Err Memory) before after = (is_spent before ≡ false) × (before.audited ≡ true) × (after ≡ before)

-- ---- receipts

-- the receipt of a step
abbrev pub receipt_told : Done → Receipt
receipt_told e = receipt_of e.tenant e.period e.number e.made

-- the receipts of steps, in their order
abbrev pub receipts_told : List Done → List Receipt
receipts_told steps = map receipt_told steps

-- the receipts that a worker has, if it keeps them: of each of its steps, in their order
abbrev pub receipts_in : ShareView → Option (List Receipt)
receipts_in s = if s.audited then Some (receipts_told s.steps) else None
