-- Periods that a service closes by itself, after a packet.
use Rattle.std.specs.Prelude.{ℕ, ◌≡◌, ◌↔◌, ◌⊎◌, true, false, List, Option, Some, None, Result, Err, is_some}
use Rattle.tenant_core.specs.State.{State}
use Rattle.tenant_core.specs.declared.command.Answered.{Answered}
use Rattle.one_list.specs.declared.run.Run.{Ghosts}
use Rattle.one_list.specs.declared.step.Done.{Done}
use Rattle.books_shared.specs.Shares.{is_spent}
use Rattle.books_shared.specs.Traced.{IsLedTo}
use Rattle.workers.specs.Carrying.{growth}
use Rattle.workers.specs.Rolling.{IsRolledRipe, is_ripe}
use Rattle.workers.specs.declared.governing.GovernFault.{GovernFault}
use Rattle.workers.specs.declared.governing.GovernFault.TheVariants.{Spent, Memory}
use Rattle.service.specs.declared.worker.desk.Desk.{Desk}
use Rattle.service.specs.declared.office.Office.{Office}
use Rattle.service.specs.Journal.{in_office}

-- nothing is counted, sent or carried
pub record IsUntouched {J : Type 0} {r : Ghosts J} (before after : Desk J r) : Type 0 where
  pub share : after.share ≡ before.share
  pub seat : after.seat ≡ before.seat
  pub slot : after.slot ≡ before.slot
  pub sent : after.sent ≡ before.sent

-- the tenant's period was not ripe at some moment, and nothing was done
pub record WasSeenUnripe {J : Type 0} {r : Ghosts J} (percent : ℕ) (before : Desk J r) (tenant : ℕ) (after : Desk J r) : Type 0 where
  pub book : State
  pub steps : List Done
  pub own : book.opening.tenant ≡ tenant
  pub led : IsLedTo r.openings book steps
  pub unripe : is_ripe percent book ≡ false
  pub same : after ≡ before

-- The tenant's book was looked at under its lock, and rolled exactly if its period was ripe; the books' share has grown by that
-- alone. Nothing is counted at the meters, and no packet is touched.
pub record WasRolledRipe {J : Type 0} {r : Ghosts J} (Gives : ℕ → Type 0) (office : Office J r) (percent : ℕ) (before : Desk J r) (tenant : ℕ) (after : Desk J r) : Type 0 where
  pub answer : Result (Option Answered) GovernFault
  pub spent : answer ≡ Err Spent ↔ is_spent before.share ≡ true
  pub memory : answer ≡ Err Memory → before.share.audited ≡ true
  pub rolled : IsRolledRipe (in_office Gives office) percent answer (growth tenant before.share after.share)
  pub seat : after.seat ≡ before.seat
  pub slot : after.slot ≡ before.slot
  pub sent : after.sent ≡ before.sent

-- A tenant's period is closed if it is ripe, at so many hundredths of its entries, if at any. In an audited run, or if statements
-- are kept, nothing changes if it is out of memory.
abbrev pub IsTidied : {J : Type 0} {r : Ghosts J} → (Gives : ℕ → Type 0) → Option ℕ → Office J r → Desk J r → ℕ → Desk J r → Type 0
IsTidied Gives None office before tenant after = after ≡ before
IsTidied Gives (Some percent) office before tenant after =
    WasSeenUnripe percent before tenant after ⊎ WasRolledRipe Gives office percent before tenant after
    ⊎ (((before.share.audited ≡ true) ⊎ (is_some office.filing ≡ true)) × IsUntouched before after)
