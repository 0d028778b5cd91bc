-- What a service audits at the end.
use Rattle.std.specs.Prelude.{ℕ, zero, suc, ◌≡◌, ◌⊎◌, ◌↔◌, Bool, true, false, List, [], ◌∷◌, ◌++◌, All, Contains, map, codes, Result, Ok, Err}
use Rattle.std.specs.Fmt.{decimal}
use Rattle.tenant_core.specs.declared.command.Answered.{Answered}
use Rattle.tenant_core.specs.declared.command.Answered.TheVariants.{Rolled}
use Rattle.tenant_core.specs.declared.command.Command.TheVariants.{Roll}
use Rattle.tenant_core.specs.declared.faults.CommandFault.TheVariants.{Memory}
use Rattle.tenant_core.specs.declared.period.PeriodParts.{PeriodParts}
use Rattle.receipts.specs.Audits.{IsComplete, receipts_of}
use Rattle.receipts.specs.Layout.{IsAuditFault}
use Rattle.receipts.specs.Runs.{AreOfRun}
use Rattle.receipts.specs.declared.fault.AuditFault.{AuditFault}
use Rattle.receipts.specs.declared.fault.AuditFault.TheVariants.{NoPeriod, Gap, Twice, Missing, Differs, Order}
use Rattle.receipts.specs.declared.fault.AuditFault.TheVariants as audit
use Rattle.receipts.specs.declared.receipt.Receipt.{Receipt}
use Rattle.books_shared.specs.Shares.{ShareView, is_spent, receipts_told}
use Rattle.workers.specs.Carrying.{Circumstances, IsDone, growth}
use Rattle.workers.specs.declared.governing.GovernFault.{GovernFault}
use Rattle.workers.specs.declared.governing.GovernFault.TheVariants.{Spent, Refused}
use Rattle.workers.specs.declared.governing.GovernFault.TheVariants as govern
use Rattle.service.specs.Lines.{audit_told}
use Rattle.service.specs.declared.running.ending.AuditEnd.{AuditEnd}
use Rattle.service.specs.declared.running.ending.AuditEnd.TheVariants.{Good, Bad, Lacked}

-- ---- the last periods

-- what a roll left: a worker's share, and the periods that were closed
pub record Rolling : Type 0 where
  pub share : ShareView
  pub closed : List PeriodParts

-- the answer is not out of memory
abbrev pub HadMemory : Result Answered GovernFault → Type 0
HadMemory (Err govern.Memory) = ⊥
HadMemory (Err (Refused Memory)) = ⊥
HadMemory _ = Unit {0}

-- with the period that was closed, if one was
abbrev pub closed_also : Result Answered GovernFault → List PeriodParts → List PeriodParts
closed_also (Ok (Rolled period)) closed = closed ++ period ∷ []
closed_also _ closed = closed

-- that tenant's book got the command to roll, and what it closed was kept; it got none if the share counts no more
pub record WasRolled (under : Circumstances) (tenant : ℕ) (before after : Rolling) : Type 0 where
  pub answer : Result Answered GovernFault
  pub done : IsDone under answer (growth tenant before.share after.share) Roll
  pub spent : answer ≡ Err Spent ↔ is_spent before.share ≡ true
  pub memory : HadMemory answer
  pub kept : after.closed ≡ closed_also answer before.closed

-- the books of the tenants below a number got the command to roll, one after another
abbrev pub HaveRolled : (under : Circumstances) → (tenants : ℕ) → (before after : Rolling) → Type 0
HaveRolled under zero before after = after ≡ before
HaveRolled under (suc n) before after = (between : Rolling) × HaveRolled under n before between × WasRolled under n between after

-- the shares at the end, and the closed periods: if `wanted`, one worker has rolled all tenants; otherwise nothing
-- more was done
abbrev pub HaveClosed : (under : Circumstances) → (wanted : Bool) → (tenants : ℕ) → (before after : List ShareView)
    → (closed closed_after : List PeriodParts) → Type 0
HaveClosed under false tenants before after closed closed_after = (after ≡ before) × (closed_after ≡ closed)
HaveClosed under true tenants before after closed closed_after =
    (rest : List ShareView) × (first : ShareView) × (last : ShareView) × (before ≡ rest ++ first ∷ []) × (after ≡ rest ++ last ∷ [])
    × HaveRolled under tenants (record { share = first; closed = closed }) (record { share = last; closed = closed_after })

-- the shares at the end, whatever periods were closed
abbrev pub HaveEnded : (under : Circumstances) → (wanted : Bool) → (tenants : ℕ) → (before after : List ShareView) → Type 0
HaveEnded under wanted tenants before after =
    (closed : List PeriodParts) × (closed_after : List PeriodParts)
    × HaveClosed under wanted tenants before after closed closed_after

-- ---- the audit

-- the receipts of each worker: one of each of its steps, and no others
abbrev pub lists_of : List ShareView → List (List Receipt)
lists_of shares = map (λ s. receipts_told s.steps) shares

-- the line of an audit that says yes to that many receipts
abbrev pub audit_line : ℕ → List ℕ
audit_line receipts = codes "audit ok " ++ decimal receipts ++ 10 ∷ []

-- the word for a fault; out of memory has none
abbrev pub fault_word : AuditFault → List ℕ
fault_word NoPeriod = codes "no-period"
fault_word Gap = codes "gap"
fault_word Twice = codes "twice"
fault_word Missing = codes "missing"
fault_word Differs = codes "differs"
fault_word (Order front) = codes "order"
fault_word audit.Memory = []

-- Each worker has kept its receipts. There are that many, and they are complete: those of all entries of these
-- periods, which join, each with its entry and verdict. Some order keeps each journal and each worker's list, and in
-- that order they are the records of a run
abbrev pub IsCount : List PeriodParts → List ShareView → ℕ → Type 0
IsCount periods shares receipts =
    All (λ s. s.audited ≡ true) shares
    × (order : List ℕ) × IsComplete periods (lists_of shares) order × AreOfRun periods (lists_of shares) order
    × (receipts ≡ receipts_of (lists_of shares))

-- with an audit, its line says how many receipts there are, which are complete; without one there is no text
abbrev pub IsAudited : (audited : Bool) → List ShareView → List ℕ → Type 0
IsAudited false shares text = text ≡ []
IsAudited true shares text =
    (periods : List PeriodParts) × (receipts : ℕ) × IsCount periods shares receipts × (text ≡ audit_line receipts)

-- receipts can't be looked at: a worker has kept none, so they are missing, or it is out of memory
abbrev pub AreLacking : List ShareView → AuditFault → Type 0
AreLacking shares fault =
    ((fault ≡ Missing) × ((s : ShareView) × Contains shares s × (s.audited ≡ false))) ⊎ (fault ≡ audit.Memory)

-- what an audit of these periods found wrong: all workers have kept receipts, in which the fault is there; or they can't be looked at
abbrev pub IsWrong : List PeriodParts → List ShareView → AuditFault → Type 0
IsWrong periods shares fault =
    (All (λ s. s.audited ≡ true) shares × IsAuditFault periods (lists_of shares) fault) ⊎ AreLacking shares fault

-- the text of an audit, by how it ended: none without an audit or if it ran out of memory; otherwise what it found
abbrev pub IsAuditText : (wanted : Bool) → List PeriodParts → List ShareView → AuditEnd → List ℕ → Type 0
IsAuditText wanted periods shares Lacked text = text ≡ []
IsAuditText false periods shares Good text = text ≡ []
IsAuditText false periods shares Bad text = ⊥
IsAuditText true periods shares Good text = (receipts : ℕ) × IsCount periods shares receipts × (text ≡ audit_line receipts)
IsAuditText true periods shares Bad text =
    (fault : AuditFault) × IsWrong periods shares fault × (text ≡ audit_told (fault_word fault))
