-- The periods that the steps of a script close, and who takes them.
use Rattle.std.specs.Prelude.{ℕ, ◌≡◌, List, [], ◌∷◌, Ok}
use Rattle.std.specs.List.{flat_map}
use Rattle.tenant_core.specs.declared.command.Answered.TheVariants.{Rolled}
use Rattle.tenant_core.specs.declared.period.PeriodParts.{PeriodParts}
use Rattle.floor_core.specs.World.{World, AreOutputs, IsLeft}
use Rattle.floor_core.specs.declared.step.Output.{Output}
use Rattle.floor_core.specs.declared.step.Output.TheVariants.{Governed}
use Rattle.floor_core.specs.declared.step.Step.{Step}
use Rattle.admin_text.specs.declared.setup.Setup.{Setup}
use Rattle.replay_text.specs.Replay.{IsReplayed, names_in, world_of_setup}
use Rattle.replay_text.specs.Script.{steps_of_script}

-- the period that an output says was closed, if it says so
abbrev pub closed_in : Output → List PeriodParts
closed_in (Governed tenant (Ok (Rolled period))) = period ∷ []
closed_in _ = []

-- the periods that outputs say were closed, in their order
abbrev pub closed_by : List Output → List PeriodParts
closed_by outputs = flat_map closed_in outputs

-- what a keeper does: it takes a period
abbrev pub Taking : Type 0 → Type 1
Taking K = K → PeriodParts → K → Type 0

-- the keeper took just these periods, one after another
abbrev pub HasTakenPeriods : {K : Type 0} → Taking K → List PeriodParts → (before after : K) → Type 0
HasTakenPeriods Takes [] before after = after ≡ before
HasTakenPeriods {K} Takes (p ∷ ps) before after = (between : K) × Takes before p between × HasTakenPeriods Takes ps between after

-- The setup and the script are well formed, and the keeper took just the periods that the outputs of the script's steps say were
-- closed, each once, in their order.
abbrev pub TakesClosed : {K : Type 0} → Taking K → List ℕ → ℕ → List ℕ → (before after : K) → Type 0
TakesClosed Takes setup_text workers script before after =
    (written : List ℕ) × (is : IsReplayed setup_text workers script written) × HasTakenPeriods Takes (closed_by is.outputs) before after

-- the steps lead from one world to another, and the keeper took what they closed
abbrev pub Closes : {K : Type 0} → Taking K → List Step → World → World → (before after : K) → Type 0
Closes Takes steps world left before after =
    (outputs : List Output) × AreOutputs world steps outputs × IsLeft world steps outputs left
    × HasTakenPeriods Takes (closed_by outputs) before after

-- the keeper took what these steps close, from that world on
abbrev pub ClosesAll : {K : Type 0} → Taking K → List Step → World → (before after : K) → Type 0
ClosesAll Takes steps world before after =
    (outputs : List Output) × AreOutputs world steps outputs × HasTakenPeriods Takes (closed_by outputs) before after

-- the keeper took what the steps of a script close, for a setup that was read
abbrev pub TakesClosedFor : {K : Type 0} → Taking K → Setup → ℕ → List ℕ → (before after : K) → Type 0
TakesClosedFor Takes setup workers script before after =
    (steps : List Step) × (steps_of_script (names_in setup) workers script ≡ Ok steps)
    × ClosesAll Takes steps (world_of_setup setup) before after
