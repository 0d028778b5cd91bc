-- What was run for a setup, from a new floor on.
use Rattle.std.proofs.Common.{◌≡◌, ℕ, List, Option, None, Some, Result, Ok, Err, refl, ap, inl, sym, subst}
use Rattle.std.specs.Prelude.{IfSome, option_map}
use Rattle.std.specs.Io.KnownBytes.{Appends}
use Rattle.std.specs.Result.{result_err}
use Rattle.std.proofs.KnownBytes.{Keeps-refl}
use Rattle.floor_core.specs.FloorView.{FloorState, world_of}
use Rattle.floor_core.specs.World.{World}
use Rattle.floor_core.specs.declared.step.Step.{Step}
use Rattle.admin_text.specs.declared.setup.Setup.{Setup}
use Rattle.replay_text.specs.Closed.{ClosesAll, Taking, TakesClosedFor}
use Rattle.replay_text.specs.Replay.{names_in, refusal_of, ArePrinted, IsReadFault, IsReplayFault, IsReplayedFor, LeavesWrittenFor, WritesLines, WritesSome, world_of_setup}
use Rattle.replay_text.specs.Script.{lines_of, steps_in, steps_of_script}
use Rattle.replay_text.specs.SoFar.{AreSoFar, IsRunTo}
use Rattle.replay_text.specs.Streams.{AppendsFront}
use Rattle.replay_text.specs.declared.replays.ReplayFault.{ReplayFault}
use Rattle.replay_text.specs.declared.replays.ReplayFault.TheVariants as fault
use Rattle.replay_text.specs.declared.script.ScriptFault.{ScriptFault}
use Rattle.replay_text.proofs.Pieces.{OutputsLaw}
use Rattle.replay_text.proofs.Takings.{rest_taken}

-- the steps of the lines before a rest, from a new floor on
pub from_start : {K : Type 0} (Takes : Taking K) (names : List (List ℕ)) (workers : ℕ) (script rest same : List ℕ) (f g : FloorState) (setup : Setup) (text : List ℕ) (k l : K)
    → IsRunTo Takes names workers script rest f g text k l → world_of f ≡ world_of_setup setup → same ≡ rest
    → AreSoFar names (world_of_setup setup) (world_of g) (steps_in names workers (lines_of script)) (steps_in names workers (lines_of same)) text
from_start Takes names workers script rest same f g setup text k l run new is =
    subst (λ r. AreSoFar names (world_of_setup setup) (world_of g) (steps_in names workers (lines_of script)) (steps_in names workers (lines_of r)) text) (sym is)
    (subst (λ (w : World). AreSoFar names w (world_of g) (steps_in names workers (lines_of script)) (steps_in names workers (lines_of rest)) text) new run.printed)

-- the names are those of the setup
pub parsed_for : (names : List (List ℕ)) (workers : ℕ) (setup : Setup) (script : List ℕ) (read : Result (List Step) ScriptFault) → names ≡ names_in setup → steps_of_script names workers script ≡ read
    → steps_of_script (names_in setup) workers script ≡ read
parsed_for names workers setup script read same parsed = subst (λ (ns : List (List ℕ)). steps_of_script ns workers script ≡ read) same parsed

replayed_for : (names : List (List ℕ)) (workers : ℕ) (setup : Setup) (script : List ℕ) (steps : List Step) (text : List ℕ) → names ≡ names_in setup → steps_of_script names workers script ≡ Ok steps
    → ArePrinted names (world_of_setup setup) steps text → IsReplayedFor setup workers script text
replayed_for names workers setup script steps text same parsed printed =
    (steps, parsed_for names workers setup script (Ok steps) same parsed, subst (λ (ns : List (List ℕ)). ArePrinted ns (world_of_setup setup) steps text) same printed)

-- what the steps of a script print is a replay of it
pub written_for : (names : List (List ℕ)) (workers : ℕ) (setup : Setup) (script : List ℕ) (steps : List Step) (old new : Option (List ℕ)) → names ≡ names_in setup → steps_of_script names workers script ≡ Ok steps
    → WritesLines names (world_of_setup setup) steps old new → (text : List ℕ) × IsReplayedFor setup workers script text × Appends old new text
written_for names workers setup script steps old new same parsed (text, printed, appended) =
    (text, replayed_for names workers setup script steps text same parsed printed, appended)

-- and so is a part of it
pub some_for : (names : List (List ℕ)) (workers : ℕ) (setup : Setup) (script : List ℕ) (steps : List Step) (old new : Option (List ℕ)) → names ≡ names_in setup → steps_of_script names workers script ≡ Ok steps
    → WritesSome names (world_of_setup setup) steps old new → (text : List ℕ) × IsReplayedFor setup workers script text × AppendsFront text old new
some_for names workers setup script steps old new same parsed (text, printed, appended) =
    (text, replayed_for names workers setup script steps text same parsed printed, appended)

-- the keeper took what the steps of the script close
pub closed_for : {K : Type 0} → OutputsLaw → (Takes : Taking K) (names : List (List ℕ)) (workers : ℕ) (setup : Setup) (script rest same : List ℕ) (f g : FloorState) (text : List ℕ) (j k l : K)
    → names ≡ names_in setup → steps_of_script names workers script ≡ Ok (steps_in names workers (lines_of script)) → world_of f ≡ world_of_setup setup → same ≡ rest
    → IsRunTo Takes names workers script rest f g text j k → ClosesAll Takes (steps_in names workers (lines_of same)) (world_of g) k l → TakesClosedFor Takes setup workers script j l
closed_for law Takes names workers setup script rest same f g text j k l names_same parsed new is run more =
    let steps : List Step = steps_in names workers (lines_of script) in
    let others : ClosesAll Takes (steps_in names workers (lines_of rest)) (world_of g) k l = subst (λ r. ClosesAll Takes (steps_in names workers (lines_of r)) (world_of g) k l) is more in (
      steps,
      parsed_for names workers setup script (Ok steps) names_same parsed,
      subst (λ (w : World). ClosesAll Takes steps w j l) new (rest_taken law Takes (world_of f) (world_of g) steps (steps_in names workers (lines_of rest)) j k l run.taken others),
    )

-- ---- what the reader had

-- what is known of a script that was read to its end
pub of_known : (P : List ℕ → Type 0) (known : Option (List ℕ)) (script : List ℕ) → IfSome known (λ bytes. script ≡ bytes) → P script → IfSome known P
of_known P None script is p = tt
of_known P (Some bytes) script is p = subst P is p

-- a script whose steps are known is not refused
pub unrefused : (names : List (List ℕ)) (workers : ℕ) (setup : Setup) (script : List ℕ) (steps : List Step) → names ≡ names_in setup → steps_of_script names workers script ≡ Ok steps
    → refusal_of (Ok setup) workers script ≡ None
unrefused names workers setup script steps same parsed =
    ap (λ (r : Result (List Step) ScriptFault). option_map (λ f. fault.Script f) (result_err r)) (parsed_for names workers setup script (Ok steps) same parsed)

script_refused : (names : List (List ℕ)) (workers : ℕ) (setup : Setup) (f : ScriptFault) (known : Option (List ℕ)) → names ≡ names_in setup
    → IfSome known (λ script. steps_of_script names workers script ≡ Err f) → IfSome known (λ script. refusal_of (Ok setup) workers script ≡ Some (fault.Script f))
script_refused names workers setup f None same h = tt
script_refused names workers setup f (Some script) same h =
    ap (λ (r : Result (List Step) ScriptFault). option_map (λ f. fault.Script f) (result_err r)) (parsed_for names workers setup script (Err f) same h)

-- the fault of a script is that of its replay
pub refused_for : (names : List (List ℕ)) (workers : ℕ) (setup : Setup) (why : ReplayFault) (known : Option (List ℕ)) → names ≡ names_in setup → IsReadFault why names workers known
    → IsReplayFault why (Ok setup) workers known
refused_for names workers setup fault.Memory known same h = tt
refused_for names workers setup fault.Device known same h = tt
refused_for names workers setup (fault.Setup f) known same h = absurd h
refused_for names workers setup (fault.Script f) known same h = (refl, script_refused names workers setup f known same h)

-- nothing was written
pub left_none : (workers : ℕ) (setup : Setup) (why : ReplayFault) (known old : Option (List ℕ)) → LeavesWrittenFor why setup workers known old old
left_none workers setup fault.Memory known old = inl (Keeps-refl old)
left_none workers setup fault.Device known old = inl (Keeps-refl old)
left_none workers setup (fault.Setup f) known old = Keeps-refl old
left_none workers setup (fault.Script f) known old = Keeps-refl old
