-- A setup and a script leave no choice of what is written.
use Rattle.std.proofs.Common.{◌≡◌, ℕ, List, Result, Ok, sym, ap, subst, ◌∙◌}
use Rattle.replay_text.specs.Replay.{IsReplayed, names_in, world_of_setup}
use Rattle.output_text.specs.Printed.{printed_lines}
use Rattle.replay_text.specs.Script.{steps_of_script}
use Rattle.floor_core.specs.World.{World, AreOutputs}
use Rattle.admin_text.specs.declared.setup.Setup.{Setup}
use Rattle.admin_text.specs.declared.setup.SetupFault.{SetupFault}
use Rattle.replay_text.specs.declared.script.ScriptFault.{ScriptFault}
use Rattle.floor_core.specs.declared.step.Step.{Step}
use Rattle.floor_core.specs.declared.step.Output.{Output}

-- in a world, a list of steps has one list of outputs
abbrev HasOneList : Type 0
HasOneList = (world : World) (steps : List Step) (xs ys : List Output) → AreOutputs world steps xs → AreOutputs world steps ys → xs ≡ ys

ok_is : {A E : Type 0} (x y : A) → (let r : Result A E = Ok x in r) ≡ Ok y → x ≡ y
ok_is x y e = cc

-- a replay has one text
pub one_text : HasOneList → (setup : List ℕ) (workers : ℕ) (script a b : List ℕ) → IsReplayed setup workers script a → IsReplayed setup workers script b → a ≡ b
one_text law setup workers script a b p q =
    let one_setup : p.setup ≡ q.setup = ok_is {E = SetupFault} p.setup q.setup (sym p.setup_is ∙ q.setup_is) in
    let q_steps = subst (λ (s : Setup). steps_of_script (names_in s) workers script ≡ Ok q.steps) (sym one_setup) q.steps_are in
    let one_steps : p.steps ≡ q.steps = ok_is {E = ScriptFault} p.steps q.steps (sym p.steps_are ∙ q_steps) in
    let q_outputs = subst (λ (s : Setup). AreOutputs (world_of_setup s) q.steps q.outputs) (sym one_setup) q.outputs_are in
    let q_outputs_too = subst (λ (ss : List Step). AreOutputs (world_of_setup p.setup) ss q.outputs) (sym one_steps) q_outputs in
    let one_outputs : p.outputs ≡ q.outputs = law (world_of_setup p.setup) p.steps p.outputs q.outputs p.outputs_are q_outputs_too in
    p.written_is ∙ ap (printed_lines (names_in p.setup)) one_outputs ∙ ap (λ (s : Setup). printed_lines (names_in s) q.outputs) one_setup ∙ sym q.written_is
