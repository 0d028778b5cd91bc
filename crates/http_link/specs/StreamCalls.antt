-- What calls on a stream leave of it, and the faults that they report.
use Rattle.std.specs.Prelude.{◌≡◌, ◌≢◌, ◌↔◌, ◌<◌, ◌≤◌, ◌⊎◌, ℕ, List, length, take, Option, Result, Err, IfOk}
use Rattle.std.specs.declared.io.traits.Read as read
use Rattle.oer_core.specs.declared.device.Device as device
use Rattle.http_link.specs.Counts.{MadeAll, Spends}
use Rattle.http_link.specs.Running.{held_in}
use Rattle.http_link.specs.declared.devices.Source as source
use Rattle.http_link.specs.declared.intake.Reach.TheVariants.{Needed}
use Rattle.http_link.specs.declared.stream.Stream.{Stream}
use Rattle.http_link.specs.declared.streams.LinkFault.{LinkFault}
use Rattle.http_link.specs.declared.streams.LinkFault.TheVariants.{Read, Write, Turns}

-- the bytes that have come and were not used
abbrev pub held_of : {R : Type 0} → {S : source.Ghosts R} → {D : read.Ghosts R} → {F : device.Ghosts R} → Stream R S D F → List ℕ
held_of stream = held_in stream.room.now stream.held

-- the bytes that are still to come, if they are known
abbrev pub to_come : {R : Type 0} → {S : source.Ghosts R} → {D : read.Ghosts R} → {F : device.Ghosts R} → Stream R S D F → Option (List ℕ)
to_come {R} {S} {D} stream = D.remaining stream.reader.now

-- A stream keeps its reader, its room and its reach. Each turn that was used was a read.
pub record Continues {R : Type 0} {S : source.Ghosts R} {D : read.Ghosts R} {F : device.Ghosts R} (old new : Stream R S D F) : Type 0 where
  pub reader : new.reader.ghost_name ≡ old.reader.ghost_name
  pub room : new.room.ghost_name ≡ old.room.ghost_name
  pub len : length new.room.now ≡ length old.room.now
  pub reach : new.reach ≡ old.reach
  -- The count of failures never falls. If it rose, it is the reader's.
  pub least : old.failures ≤ new.failures
  pub exact : old.failures < new.failures → new.failures ≡ F.failure_count new.reader.now
  pub made : Spends S.was_read old.reader.now new.reader.now old.turns new.turns

-- The faults of a call that only reads, each as one of its own.
pub record ReportsAs {G : Type 0} (fault_of : LinkFault → G) {R X : Type 0} {S : source.Ghosts R} {D : read.Ghosts R} {F : device.Ghosts R} (old new : Stream R S D F) (result : Result X G) : Type 0 where
  pub continues : Continues old new
  -- A failed read is reported exactly if the reader has failed, and a failed write never.
  pub read : (result ≡ Err (fault_of Read)) ↔ (old.failures < new.failures)
  pub write : result ≢ Err (fault_of Write)
  -- That no turn is left is reported only if none is.
  pub spent : result ≡ Err (fault_of Turns) → new.turns ≡ 0

-- The same of a call whose faults are those of its connection.
abbrev pub Reports : {R X : Type 0} → {S : source.Ghosts R} → {D : read.Ghosts R} → {F : device.Ghosts R} → (old new : Stream R S D F) → Result X LinkFault → Type 0
Reports = ReportsAs (λ fault. fault)

-- if no more is taken than is needed, and nothing was held, then nothing is held
abbrev pub ReadsNoFurther : {R : Type 0} → {S : source.Ghosts R} → {D : read.Ghosts R} → {F : device.Ghosts R} → (old new : Stream R S D F) → Type 0
ReadsNoFurther old new = old.reach ≡ Needed → old.held.to ≤ old.held.from → new.held.to ≤ new.held.from

-- the bytes of a body that are done stay as they are
abbrev pub KeepsBody : {R X E : Type 0} → {S : source.Ghosts R} → {D : read.Ghosts R} → {F : device.Ghosts R} → (old new : Stream R S D F) → Result X E → Type 0
KeepsBody old new result = (new.done ≡ old.done) × IfOk result (λ given. take old.done new.room.now ≡ take old.done old.room.now)

-- The faults of a call that reads a stream and writes to a writer, which had failed `before` times.
pub record ReportsBoth {R W X : Type 0} {S : source.Ghosts R} {D : read.Ghosts R} {F : device.Ghosts R} (failures : W → ℕ) (Made : W → ℕ → Type 0) (before : ℕ) (was now : W) (old new : Stream R S D F) (result : Result X LinkFault) : Type 0 where
  pub continues : Continues old new
  -- A failed read or write is reported exactly if its device has failed.
  pub read : (result ≡ Err Read) ↔ (old.failures < new.failures)
  pub write : (result ≡ Err Write) ↔ (before < failures now)
  -- The limit is reported only if it was reached.
  pub turns : result ≡ Err Turns → (new.turns ≡ 0) ⊎ MadeAll Made was now
