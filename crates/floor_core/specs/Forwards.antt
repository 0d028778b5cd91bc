-- What goes on, in bytes: the frame that a worker took in, with another amount and another expiry (RFC 0027, "ILP Prepare").
use Rattle.std.specs.Prelude.{ℕ, ◌≡◌, ◌<◌, List, [], ◌∷◌, Some}
use Rattle.oer_core.specs.Length.{AreBytes}
use Rattle.ilp_view.specs.Packet.{Prepare, IsPrepare, IsForwardOf}
use Rattle.floor_core.specs.FloorView.{FloorState, seat_at}
use Rattle.floor_core.specs.Work.{job_frame}
use Rattle.floor_core.specs.World.{Hand, Stage, World, number_of, put}
use Rattle.floor_core.specs.declared.step.Output.{Output}
use Rattle.floor_core.specs.declared.step.Output.TheVariants.{Loaded, Send}
use Rattle.floor_core.specs.declared.step.Step.{Step}
use Rattle.floor_core.specs.declared.step.Step.TheVariants.{Load, Decide}

-- what a load brings are bytes
abbrev pub HasBytes : Step → Type 0
HasBytes (Load worker tenant token bytes) = AreBytes bytes
HasBytes step = Unit {0}

-- the frames that workers took in, with that of this step
abbrev pub with_frame : (ℕ → List ℕ) → Step → ℕ → List ℕ
with_frame frames (Load worker tenant token bytes) = put frames worker bytes
with_frame frames step = frames

-- the frames that workers took in, after a step with this output: a load that is good takes its frame in
abbrev pub frames_after : (ℕ → List ℕ) → Step → Output → ℕ → List ℕ
frames_after frames step (Loaded tenant call) = with_frame frames step
frames_after frames step output = frames

-- this frame is sent on at a decide, and is the one that the worker took in, with another amount and another expiry
abbrev pub IsForwardBy : (ℕ → List ℕ) → Step → List ℕ → Type 0
IsForwardBy frames (Decide worker now) frame = IsForwardOf (frames worker) frame
IsForwardBy frames step frame = ⊥

-- so is what the step puts out, if that is sent on
abbrev pub SendsForward : (ℕ → List ℕ) → Step → Output → Type 0
SendsForward frames step (Send tenant peer hold frame) = IsForwardBy frames step frame
SendsForward frames step output = Unit {0}

-- each frame that these steps send on is the one that its worker took in last, with another amount and another expiry;
-- `frames` are those that the workers took in before the first step
abbrev pub AreForwards : (frames : ℕ → List ℕ) → List Step → List Output → Type 0
AreForwards frames [] outputs = Unit {0}
AreForwards frames (s ∷ ss) [] = Unit {0}
AreForwards frames (s ∷ ss) (x ∷ xs) = SendsForward frames s x × AreForwards (frames_after frames s x) ss xs

-- before the first step no worker took a frame in
abbrev pub no_frames : ℕ → List ℕ
no_frames worker = []

-- the frames that the workers of a floor have
abbrev pub frames_on : FloorState → ℕ → List ℕ
frames_on f worker = job_frame (seat_at f worker).slot.job

-- a worker took this frame in as that call: the tenant is there and has loaded the call, and if it may be decided, the
-- frame is its packet
pub record HasTakenFrame (tenants : ℕ) (world : World) (frame : List ℕ) (t call : ℕ) : Type 0 where
  pub there : t < tenants
  pub loaded : call < (world.tenants t).next_call
  pub packet : (token : List ℕ) (p : Prepare) → (world.tenants t).calls call ≡ Some (Stage.Ready token p)
      → IsPrepare frame p

-- these are the frames that the workers took in, each as the call that it has in hand; and each tenant has its own
-- number
pub record AreTaken (tenants : ℕ) (world : World) (frames : ℕ → List ℕ) : Type 0 where
  pub numbered : (t : ℕ) → t < tenants → number_of (world.tenants t) ≡ t
  pub each : (worker t call : ℕ) → world.hands worker ≡ Hand.Has t call
      → HasTakenFrame tenants world (frames worker) t call
