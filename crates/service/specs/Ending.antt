-- How a service ends.
use Rattle.std.specs.Prelude.{ℕ, ◌≡◌, ◌⊎◌, [], Bool, true, false, List, Result, Ok, Err, codes}
use Rattle.books_shared.specs.declared.gather.GatherFault.{GatherFault}
use Rattle.books_shared.specs.declared.gather.GatherFault.TheVariants as gather
use Rattle.service.specs.Lines.{audit_told}
use Rattle.service.specs.declared.running.ending.AuditEnd.{AuditEnd}
use Rattle.service.specs.declared.running.ending.AuditEnd.TheVariants.{Good, Bad, Lacked}
use Rattle.service.specs.declared.running.ending.ServeFault.{ServeFault}
use Rattle.service.specs.declared.running.ending.ServeFault.TheVariants.{Memory, Device, Differs, Audit}

-- The first of these decides: out of memory for the audit; an accept that failed, unless the host stopped the service;
-- a statement that is not kept; what the audit found.
abbrev pub end_of : (has_failed was_stopped is_stated : Bool) → AuditEnd → Result (Unit {0}) ServeFault
end_of has_failed was_stopped is_stated Lacked = Err Memory
end_of true false is_stated audit = Err Device
end_of has_failed was_stopped false audit = Err Device
end_of has_failed was_stopped true Good = Ok tt
end_of has_failed was_stopped true Bad = Err Audit

-- The fault if the books were not gathered: out of memory, or they differ. An audit, if there is one, reports that
-- they differ.
abbrev pub ungathered_end : {J : Type 0} → GatherFault J → (audited : Bool) → ServeFault
ungathered_end (gather.Memory books shares) audited = Memory
ungathered_end (gather.Missing books shares) true = Audit
ungathered_end (gather.Missing books shares) false = Differs
ungathered_end (gather.Differs gathered shares) true = Audit
ungathered_end (gather.Differs gathered shares) false = Differs

-- the last line then: that of the audit, if there is one
abbrev pub ungathered_line : ServeFault → List ℕ
ungathered_line Audit = audit_told (codes "differs")
ungathered_line Memory = []
ungathered_line Device = []
ungathered_line Differs = []

-- the service ends with that fault, after that text; or it ran out of memory, or the writer failed, before that
abbrev pub EndsTold : Result (Unit {0}) ServeFault → ServeFault → (Told : Type 0) → Type 0
EndsTold result fault Told = ((result ≡ Err fault) × Told) ⊎ ((result ≡ Err Memory) ⊎ (result ≡ Err Device))
