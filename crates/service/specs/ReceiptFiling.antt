-- The receipts of all workers as a text that is kept.
use Rattle.std.specs.Prelude.{ℕ, ◌≡◌, ◌≢◌, ◌⊎◌, Bool, true, false, List, All, Option, Some}
use Rattle.books_shared.specs.Shares.{ShareView}
use Rattle.receipt_text.specs.ReceiptText.{receipts_text}
use Rattle.service.specs.Auditing.{lists_of}

-- what a store is asked: whether it has a text of receipts
abbrev pub TellingReceipts : Type 0 → Type 1
TellingReceipts S = S → Option Bool → S → Type 0

-- what a store does: it keeps a text, or does not
abbrev pub KeepingReceipts : Type 0 → Type 1
KeepingReceipts S = S → List ℕ → Bool → S → Type 0

-- Each worker has kept its receipts. The store said that it has none. Then the text of those of all workers was handed
-- to it.
pub record WereHanded {S : Type 0} (Tells : TellingReceipts S) (Keeps : KeepingReceipts S) (shares : List ShareView) (kept : Bool) (before after : S) : Type 0 where
  pub audited : All (λ s. s.audited ≡ true) shares
  pub between : S
  pub are_new : Tells before (Some false) between
  pub handed : Keeps between (receipts_text (lists_of shares)) kept after

-- the store was asked, and did not say that it has none; nothing was handed to it
pub record WereReceiptsAsked {S : Type 0} (Tells : TellingReceipts S) (before after : S) : Type 0 where
  pub answer : Option Bool
  pub is_known : answer ≢ Some false
  pub told : Tells before answer after

-- Receipts that are kept are new, and their text was handed to the store, which keeps it. Others were not kept by the
-- store, or not handed to it: because they are not known to be new, a worker has kept none, or memory ran out.
abbrev pub AreReceiptsFiled : {S : Type 0} → TellingReceipts S → KeepingReceipts S → List ShareView → (kept : Bool) → (before after : S) → Type 0
AreReceiptsFiled Tells Keeps shares true before after = WereHanded Tells Keeps shares true before after
AreReceiptsFiled Tells Keeps shares false before after =
    WereHanded Tells Keeps shares false before after ⊎ (WereReceiptsAsked Tells before after ⊎ (after ≡ before))
