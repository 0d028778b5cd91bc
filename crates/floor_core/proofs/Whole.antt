-- Each step of a floor, with its tenants kept.
use Rattle.std.proofs.Common.{◌≡◌, ◌<◌, ℕ, List, length, get_or, refl, inl, inr, sym, ap, subst, ◌∙◌}
use Rattle.std.specs.Prelude.{Result, Ok, Err, IfOk, OnOk, OnErr}
use Rattle.std.proofs.lemmas.Bool.Decides.{eqb_tells}
use Rattle.tenant_core.specs.Calls.{CallLaws}
use Rattle.tenant_core.specs.OpenHolds.{OpenHoldLaws}
use Rattle.floor_core.specs.FloorView.{FloorState, world_of, hands_of, hand_by, no_seat, Fits, IsWhole, IsMet}
use Rattle.floor_core.specs.Forwards.{HasBytes}
use Rattle.floor_core.specs.Kept.{CallsMatchHolds}
use Rattle.floor_core.specs.Moves.{output_of, moved, AsksSound, IsAskedBookSound}
use Rattle.floor_core.specs.Work.{Job, tenant_in}
use Rattle.floor_core.specs.World.{World, Owner, owner, load_owner, decide_owner, answer_owner}
use Rattle.floor_core.specs.Worlds.{tenants_after, reply, world_after}
use Rattle.floor_core.specs.declared.step.PeerAnswer.{PeerAnswer}
use Rattle.floor_core.specs.Outputs.{shown}
use Rattle.floor_core.specs.declared.step.StepOutput.{StepOutput}
use Rattle.floor_core.specs.declared.step.Step.{Step}
use Rattle.floor_core.specs.declared.step.Step.TheVariants.{Load, Decide, Answer, Tick, Govern}
use Rattle.floor_core.proofs.Keeping.{IsAskedOf, after_kept}
use Rattle.floor_core.proofs.Simulation.{simulates, carried_call}

-- what the owner of a step asks is asked of a state within its limits
abbrev OwnerAsks : World → Owner → Type 0
OwnerAsks w (Owner.Nobody out) = Unit {0}
OwnerAsks w (Owner.Own t e) = IsAskedOf (w.tenants t) e

tenants_kept : OpenHoldLaws → (w : World) (o : Owner) → OwnerAsks w o → ((t : ℕ) → CallsMatchHolds (w.tenants t)) → (t : ℕ) → CallsMatchHolds (tenants_after w o t)
tenants_kept laws w (Owner.Nobody out) asked i t = i t
tenants_kept laws w (Owner.Own u e) asked i t = elim (eqb_tells t u) [ inl a ↦ rw a.0 (after_kept laws (w.tenants u) e asked (i u)) | inr a ↦ rw a.0 (i t) ]

load_asks : (f : FloorState) (job : Job) (call t : ℕ) (token bytes : List ℕ) → OwnerAsks (world_of f) (load_owner (hand_by job call) t token bytes)
load_asks f Job.NoJob call t token bytes = tt
load_asks f (Job.Carries u k frame) call t token bytes = tt
load_asks f (Job.Waits u hold frame) call t token bytes = tt

decide_asks : (f : FloorState) (job : Job) (call now : ℕ) → IsAskedBookSound f (tenant_in job) → OwnerAsks (world_of f) (decide_owner (hand_by job call) now)
decide_asks f Job.NoJob call now asked = tt
decide_asks f (Job.Carries t token frame) call now asked = asked
decide_asks f (Job.Waits t hold frame) call now asked = tt

answer_asks : (f : FloorState) (job : Job) (call now : ℕ) (g : PeerAnswer) → OwnerAsks (world_of f) (answer_owner (hand_by job call) now g)
answer_asks f Job.NoJob call now g = tt
answer_asks f (Job.Carries t token frame) call now g = tt
answer_asks f (Job.Waits t hold frame) call now g = tt

owner_asks : (f : FloorState) (step : Step) → AsksSound f step → OwnerAsks (world_of f) (owner (hands_of f.seats) step)
owner_asks f (Load w t token bytes) asked = load_asks f (get_or f.seats w no_seat).slot.job (get_or f.seats w no_seat).call t token bytes
owner_asks f (Decide w now) asked = decide_asks f (get_or f.seats w no_seat).slot.job (get_or f.seats w no_seat).call now asked
owner_asks f (Answer w now g) asked = answer_asks f (get_or f.seats w no_seat).slot.job (get_or f.seats w no_seat).call now g
owner_asks f (Tick t now) asked = tt
owner_asks f (Govern t now command) asked = tt

pub record Steps (f : FloorState) (step : Step) : Type 0 where
  pub output : output_of f step ≡ reply (world_of f) step
  pub world : world_of (moved f step) ≡ world_after (world_of f) step
  pub whole : IsWhole (moved f step)

pub steps : OpenHoldLaws → CallLaws → (f : FloorState) (step : Step) → IsWhole f → Fits f step → HasBytes step → AsksSound f step → Steps f step
steps laws calls f step i h are asked =
    let s = simulates calls f step i.sound i.tenants h are in
    record {
      output = s.output;
      world = s.world;
      whole = record {
        sound = s.sound;
        tenants = λ t. subst CallsMatchHolds (sym (ap (λ (w : World). w.tenants t) s.world)) (tenants_kept laws (world_of f) (owner (hands_of f.seats) step) (owner_asks f step asked) i.tenants t);
      };
    }

met_by : (f : FloorState) (w : ℕ) → IsWhole f → (job : Job) → (get_or f.seats w no_seat).slot.job ≡ job → IsMet job f.books
met_by f w i Job.NoJob e = tt
met_by f w i (Job.Carries t token frame) e =
    let c = carried_call f w t (Job.Carries t token frame) e refl i.sound in
    let there : t < length f.books = (i.sound.below w (t, (get_or f.seats w no_seat).call) c.0).0 in
    (there, i.sound.placed t there)
met_by f w i (Job.Waits t hold frame) e =
    let c = carried_call f w t (Job.Waits t hold frame) e refl i.sound in
    let there : t < length f.books = (i.sound.below w (t, (get_or f.seats w no_seat).call) c.0).0 in
    (there, i.sound.placed t there, (i.tenants t).waits (get_or f.seats w no_seat).call hold c.1)

pub met : (f : FloorState) → IsWhole f → (w : ℕ) → IsMet (get_or f.seats w no_seat).slot.job f.books
met f i w = met_by f w i (get_or f.seats w no_seat).slot.job refl

-- what a step of a floor is, or nothing where memory is refused
pub record Stepped {E : Type 0} (f g : FloorState) (step : Step) (r : Result StepOutput E) : Type 0 where
  pub whole : IsWhole g
  pub told : IfOk r (λ told. shown g.seats told ≡ reply (world_of f) step)
  pub world : OnOk r (world_of g ≡ world_after (world_of f) step)

pub stepped : {E : Type 0} → OpenHoldLaws → CallLaws → (f g : FloorState) (step : Step) (r : Result StepOutput E) → IsWhole f → Fits f step → HasBytes step → OnOk r (AsksSound f step)
    → IfOk r (λ told. shown g.seats told ≡ output_of f step) → OnOk r (g ≡ moved f step) → OnErr r (g ≡ f) → Stepped f g step r
stepped laws calls f g step (Ok o) i h are asked out move same =
    let s = steps laws calls f step i h are asked in
    record { whole = subst IsWhole (sym move) s.whole; told = out ∙ s.output; world = ap world_of move ∙ s.world }
stepped laws calls f g step (Err e) i h are asked out move same = record { whole = subst IsWhole (sym same) i; told = tt; world = tt }
