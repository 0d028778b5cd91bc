-- What a recorder keeps of the steps of a script, and what is printed once it is kept.
use Rattle.std.specs.Prelude.{ℕ, ◌≡◌, ◌⊎◌, List, [], ◌++◌, Option, Ok}
use Rattle.std.specs.Io.KnownBytes.{Keeps}
use Rattle.floor_core.specs.World.{World}
use Rattle.floor_core.specs.declared.step.Step.{Step}
use Rattle.admin_text.specs.declared.setup.Setup.{Setup}
use Rattle.replay_text.specs.Closed.{Closes, Taking}
use Rattle.replay_text.specs.Replay.{Prints, names_in, world_of_setup}
use Rattle.replay_text.specs.Script.{steps_of_script}
use Rattle.replay_text.specs.Streams.{AppendsFront}

-- what a recorder does: it takes the periods that are closed, and keeps what the tenants' books have got since
pub record Recording (K : Type 0) : Type 1 where
  pub takes : Taking K
  pub keeps : K → World → K → Type 0

abbrev pub by_recorder : {K : Type 0} → Taking K → (K → World → K → Type 0) → Recording K
by_recorder takes keeps = record { takes = takes; keeps = keeps }

-- Steps lead from one world to another. The recorder took the periods that they closed, and kept at times what the books had got.
pub data HasFollowed {K : Type 0} (R : Recording K) (world : World) (first : K) : List Step → World → K → Type 0 where
  Nothing : HasFollowed R world first [] world first
  Done : (steps more : List Step) (between left : World) (before after : K) → HasFollowed R world first steps between before
      → Closes R.takes more between left before after → HasFollowed R world first (steps ++ more) left after
  Kept : (steps : List Step) (left : World) (before after : K) → HasFollowed R world first steps left before
      → R.keeps before left after → HasFollowed R world first steps left after

-- and it kept all at last
pub record HasRecorded {K : Type 0} (R : Recording K) (world : World) (steps : List Step) (left : World) (first last : K) : Type 0 where
  pub before : K
  pub followed : HasFollowed R world first steps left before
  pub kept : R.keeps before left last

-- What was written are lines of the first of these steps, or a part of them from their start on. What these steps did was kept
-- before.
pub record ArePrintedOnceKept {K : Type 0} (R : Recording K) (names : List (List ℕ)) (world : World) (steps : List Step) (first : K)
    (old new : Option (List ℕ)) : Type 0 where
  pub done : List Step
  pub rest : List Step
  pub front : done ++ rest ≡ steps
  pub left : World
  pub last : K
  pub recorded : HasRecorded R world done left first last
  pub text : List ℕ
  pub printed : Prints names done world left [] text
  pub written : AppendsFront text old new

-- nothing was written but what was kept
abbrev pub PrintsOnceKept : {K : Type 0} → Recording K → List (List ℕ) → World → List Step → K → Option (List ℕ) → Option (List ℕ) → Type 0
PrintsOnceKept R names world steps first old new = Keeps old new ⊎ ArePrintedOnceKept R names world steps first old new

-- the same of the steps of a script, for the tenants of a setup, who begin anew
abbrev pub RecordsFor : {K : Type 0} → Recording K → Setup → ℕ → List ℕ → (first last : K) → Type 0
RecordsFor R setup workers script first last =
    (steps : List Step) × (steps_of_script (names_in setup) workers script ≡ Ok steps)
    × (left : World) × HasRecorded R (world_of_setup setup) steps left first last

abbrev pub PrintsOnceKeptFor : {K : Type 0} → Recording K → Setup → ℕ → List ℕ → K → Option (List ℕ) → Option (List ℕ) → Type 0
PrintsOnceKeptFor R setup workers script first old new =
    (steps : List Step) × (steps_of_script (names_in setup) workers script ≡ Ok steps)
    × PrintsOnceKept R (names_in setup) (world_of_setup setup) steps first old new
