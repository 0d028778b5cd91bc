-- What contracts see of a slot, and what it keeps.
use Rattle.std.specs.Prelude.{ℕ, ◌≡◌, ◌≤◌, List, take, Option, Some, None}
use Rattle.ilp_addr.specs.Target.{Parts as TargetParts}
use Rattle.ilp_view.specs.Packet.{max_frame}
use Rattle.ilp_view.specs.Places.{ArePlacesIn}
use Rattle.floor_core.specs.Work.{Job, Work, CameWithToken, WaitsWith}
use Rattle.floor_core.specs.declared.slot.Slot.TheInside.{Inside}
use Rattle.floor_core.specs.declared.slot.Stage.{Stage}
use Rattle.floor_core.specs.declared.slot.Stage.TheVariants.{Idle, Loaded, Waiting}

-- the call of a slot, whose token and frame are these
abbrev pub job_of : Stage → (token frame : List ℕ) → Job
job_of Idle token frame = Job.NoJob
job_of (Loaded tenant places) token frame = Job.Carries tenant token frame
job_of (Waiting tenant hold expiry) token frame = Job.Waits tenant hold frame

-- whom the frame was sent on to: the slot's target
abbrev pub target_at : Stage → Option TargetParts → Option TargetParts
target_at Idle target = None
target_at (Loaded tenant places) target = None
target_at (Waiting tenant hold expiry) target = target

-- when that frame expires
abbrev pub stage_expiry : Stage → Option ℕ
stage_expiry Idle = None
stage_expiry (Loaded tenant places) = None
stage_expiry (Waiting tenant hold expiry) = Some expiry

-- of the bytes in both buffers, those of the frame or the reply
abbrev pub work_of : Inside → Work
work_of s =
    record {
      job = job_of s.stage s.token (take s.frame_len s.frame);
      target = target_at s.stage s.target;
      expiry = stage_expiry s.stage;
      reply = take s.reply_len s.reply;
      room = s.reply;
    }

-- what was read of the frame that came
abbrev pub IsReadAt : Stage → List ℕ → Type 0
IsReadAt Idle frame = Unit {0}
IsReadAt (Loaded tenant places) frame = ArePlacesIn frame places
IsReadAt (Waiting tenant hold expiry) frame = Unit {0}

-- there is no reply while a call is carried
abbrev pub IsQuiet : Stage → ℕ → Type 0
IsQuiet Idle len = Unit {0}
IsQuiet (Loaded tenant places) len = len ≡ 0
IsQuiet (Waiting tenant hold expiry) len = len ≡ 0

-- what holds of every slot
pub record SlotInvariant (s : Inside) : Type 0 where
  pub read : IsReadAt s.stage (take s.frame_len s.frame)
  pub named : CameWithToken (job_of s.stage s.token (take s.frame_len s.frame))
  pub somewhere : WaitsWith (job_of s.stage s.token (take s.frame_len s.frame)) s.target
  pub frame_len : s.frame_len ≤ max_frame
  pub reply_len : s.reply_len ≤ max_frame
  pub quiet : IsQuiet s.stage s.reply_len
