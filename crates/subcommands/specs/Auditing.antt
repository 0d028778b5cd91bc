-- What `verify` says of receipts.
use Rattle.std.specs.Prelude.{ℕ, ◌≡◌, List, ◌∷◌, [], ◌++◌, Option}
use Rattle.std.specs.Io.KnownBytes.{Appends}
use Rattle.receipt_text.specs.Audited.{IsAuditedText}
use Rattle.receipts.specs.declared.auditing.Audited.{Audited}
use Rattle.service.specs.Auditing.{audit_line}
use Rattle.statements.specs.Statement.{IsStatement}
use Rattle.tenant_core.specs.declared.period.PeriodParts.{PeriodParts}

-- an audit of the receipts in the text says yes, by these periods, and a line with their number was written
abbrev pub TellsAudit : List PeriodParts → (text : List ℕ) → (old new : Option (List ℕ)) → Type 0
TellsAudit periods text old new =
    (audited : Audited) × IsAuditedText periods text audited × Appends old new (audit_line audited.receipts)

-- one period more, which the text states word for word
abbrev pub IsOneMore : (text : List ℕ) → (old new : List PeriodParts) → Type 0
IsOneMore text old new = (p : PeriodParts) × IsStatement text p × (new ≡ old ++ p ∷ [])
