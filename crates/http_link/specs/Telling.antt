-- The faults that a call reports of its devices.
use Rattle.std.specs.Prelude.{◌≡◌, ◌≢◌, ◌↔◌, ℕ, ◌<◌, Result, Err}
use Rattle.http_link.specs.Counts.{MadeAll, Spends}
use Rattle.http_link.specs.declared.streams.LinkFault.{LinkFault}
use Rattle.http_link.specs.declared.streams.LinkFault.TheVariants.{Read, Write, Turns}

-- The faults of a call that only reads, from a reader that had failed `before` times, with so many turns left.
pub record TellsReads {D X : Type 0} (failures : D → ℕ) (Made : D → ℕ → Type 0) (before : ℕ) (old new : D) (turns left : ℕ) (result : Result X LinkFault) : Type 0 where
  -- A failed read is reported exactly if the reader has failed, and a failed write never.
  pub read : (result ≡ Err Read) ↔ (before < failures new)
  pub write : result ≢ Err Write
  -- That no turn is left is reported only if none is, and each turn that was used was a read.
  pub spent : result ≡ Err Turns → left ≡ 0
  pub made : Spends Made old new turns left

-- The faults of a call that only writes, to a writer that had failed `before` times.
pub record TellsWrites {D X : Type 0} (failures : D → ℕ) (Made : D → ℕ → Type 0) (before : ℕ) (old new : D) (result : Result X LinkFault) : Type 0 where
  -- A failed write is reported exactly if the writer has failed, and a failed read never.
  pub write : (result ≡ Err Write) ↔ (before < failures new)
  pub read : result ≢ Err Read
  -- The limit is reported only if it was reached.
  pub turns : result ≡ Err Turns → MadeAll Made old new

-- The faults of a call that reads and writes: each is reported exactly if its device has failed.
abbrev pub TellsFailures : {X : Type 0} → (ReaderFailed WriterFailed : Type 0) → Result X LinkFault → Type 0
TellsFailures ReaderFailed WriterFailed result = ((result ≡ Err Read) ↔ ReaderFailed) × ((result ≡ Err Write) ↔ WriterFailed)
