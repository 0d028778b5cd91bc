-- What a turn alone says of a slot, without the book.
use Rattle.std.specs.Prelude.{ℕ, ◌≡◌, List, Some}
use Rattle.floor_core.specs.Work.{Job, Work, IsWaiting, tenant_in, waiting_in}
use Rattle.one_list.specs.Holds.{holder}
use Rattle.one_list.specs.declared.step.Done.{Done}
use Rattle.floor_core.specs.declared.parts.Turn.{Turn}
use Rattle.floor_core.specs.declared.parts.Turn.TheVariants.{Idle, Stray, Stranger, Reply, Send}

-- a frame came in and awaits its decision
abbrev pub IsLoaded : Job → Type 0
IsLoaded (Job.Carries tenant token frame) = Unit {0}
IsLoaded _ = ⊥

-- a call that awaited its decision now awaits its answer
pub record IsSentOn (before after : Job) : Type 0 where
  pub loaded : IsLoaded before
  pub waits : IsWaiting after
  pub tenant : waiting_in after ≡ tenant_in before

-- what a decide left of the slot, by its turn: as it was, with no call, or with a call that awaits its answer
abbrev pub IsSlotLeft : Turn → Work → Work → Type 0
IsSlotLeft Idle before after = after ≡ before
IsSlotLeft Stray before after = after ≡ before
IsSlotLeft Stranger before after = after.job ≡ Job.NoJob
IsSlotLeft Reply before after = after.job ≡ Job.NoJob
IsSlotLeft (Send peer hold) before after = IsSentOn before.job after.job

-- what an answer left of the slot, by its turn: with no call, or as it was
abbrev pub IsEnded : Turn → Work → Work → Type 0
IsEnded Reply before after = after.job ≡ Job.NoJob
IsEnded _ before after = after ≡ before

-- the packet that the call awaits was sent on by that worker, by these steps of its tenant
abbrev pub IsSentBy : ℕ → Job → List Done → Type 0
IsSentBy worker (Job.Waits tenant hold frame) steps = holder hold steps ≡ Some worker
IsSentBy worker _ steps = Unit {0}
