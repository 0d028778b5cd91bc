-- What an audit of receipts in a text finds.
use Rattle.std.specs.Prelude.{ℕ, ◌≡◌, List, length}
use Rattle.tenant_core.specs.declared.period.PeriodParts.{PeriodParts}
use Rattle.receipts.specs.Audits.{IsComplete, receipts_of, tenant_count}
use Rattle.receipts.specs.Layout.{IsAuditFault}
use Rattle.receipts.specs.Runs.{AreOfRun}
use Rattle.receipts.specs.declared.auditing.Audited.{Audited}
use Rattle.receipts.specs.declared.fault.AuditFault.{AuditFault}
use Rattle.receipts.specs.declared.fault.AuditFault.TheVariants.{Memory}
use Rattle.receipts.specs.declared.receipt.Receipt.{Receipt}
use Rattle.receipt_text.specs.ReceiptText.{receipts_text}
use Rattle.receipt_text.specs.declared.fault.ReceiptsFault.{ReceiptsFault}
use Rattle.receipt_text.specs.declared.fault.ReceiptsFault.TheVariants.{Text, Audit}

-- there are receipts with exactly this text, and an audit of them by these periods says yes
pub record IsAuditedText (periods : List PeriodParts) (text : List ℕ) (a : Audited) : Type 0 where
  pub lists : List (List Receipt)
  pub written : text ≡ receipts_text lists
  pub complete : IsComplete periods lists a.order
  pub run : AreOfRun periods lists a.order
  pub tenants : a.tenants ≡ tenant_count periods
  pub count : a.periods ≡ length periods
  pub receipts : a.receipts ≡ receipts_of lists

-- the fault is there in receipts that have this text; running out of memory says nothing
abbrev pub HasAuditFault : List PeriodParts → List ℕ → AuditFault → Type 0
HasAuditFault periods text Memory = Unit {0}
HasAuditFault periods text fault =
    (lists : List (List Receipt)) × (text ≡ receipts_text lists) × IsAuditFault periods lists fault

-- why an audit of a text does not say yes; nothing is said of a text that is malformed
abbrev pub IsTextFault : List PeriodParts → List ℕ → ReceiptsFault → Type 0
IsTextFault periods text (Text fault) = Unit {0}
IsTextFault periods text (Audit fault) = HasAuditFault periods text fault
