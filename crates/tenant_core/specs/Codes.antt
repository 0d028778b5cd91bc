-- The codes of refusals (RFC 0027, "Error Codes").
use Rattle.std.specs.Prelude.{ℕ, List, codes}
use Rattle.tenant_core.specs.declared.verdict.RejectCode.{RejectCode}
use Rattle.tenant_core.specs.declared.verdict.RejectCode.TheVariants.{BadRequest, Unreachable, InvalidAmount}
use Rattle.tenant_core.specs.declared.verdict.RejectCode.TheVariants.{WrongCondition, AmountTooLarge, PeerUnreachable}
use Rattle.tenant_core.specs.declared.verdict.RejectCode.TheVariants.{Busy, InsufficientLiquidity, RateLimited}
use Rattle.tenant_core.specs.declared.verdict.RejectCode.TheVariants.{TimedOut, InsufficientSource, InsufficientTimeout}

-- the three letters of each
abbrev pub code_of : RejectCode → List ℕ
code_of BadRequest = codes "F00"
code_of Unreachable = codes "F02"
code_of InvalidAmount = codes "F03"
code_of WrongCondition = codes "F05"
code_of AmountTooLarge = codes "F08"
code_of PeerUnreachable = codes "T01"
code_of Busy = codes "T03"
code_of InsufficientLiquidity = codes "T04"
code_of RateLimited = codes "T05"
code_of TimedOut = codes "R00"
code_of InsufficientSource = codes "R01"
code_of InsufficientTimeout = codes "R02"
