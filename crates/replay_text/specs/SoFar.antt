-- How far a script is read and run: up to some rest of its lines.
use Rattle.std.specs.Prelude.{ℕ, ◌≡◌, ◌+◌, ◌≤◌, List, [], ◌++◌, length, Option, IfSome, Result, Ok, Err}
use Rattle.std.specs.Io.KnownBytes.{Consumes}
use Rattle.floor_core.specs.FloorView.{FloorState, HasRoom, world_of}
use Rattle.floor_core.specs.World.{World}
use Rattle.floor_core.specs.declared.step.Step.{Step}
use Rattle.replay_text.specs.Closed.{Closes, Taking}
use Rattle.replay_text.specs.Replay.{Prints}
use Rattle.replay_text.specs.Script.{lines_of, steps_from, steps_in, steps_of_script, NoneIsBad}
use Rattle.replay_text.specs.declared.script.ScriptFault.{ScriptFault}
use Rattle.replay_text.specs.declared.script.TheConstants.{MAX_SCRIPT}

-- the steps so far before those that are left
abbrev pub with_front : List Step → Result (List Step) ScriptFault → Result (List Step) ScriptFault
with_front front (Ok steps) = Ok (front ++ steps)
with_front front (Err fault) = Err fault

-- The rest begins with the line of that number. Reading goes on there: no line before it is bad.
abbrev pub IsReadTo : List (List ℕ) → ℕ → List ℕ → ℕ → List ℕ → Type 0
IsReadTo names workers script number rest =
    (front : List Step) × (with_front front (steps_from names workers number (lines_of rest)) ≡ steps_from names workers 1 (lines_of script))

-- steps of a list that are done, and lines of them
abbrev pub AreSoFar : List (List ℕ) → World → World → List Step → List Step → List ℕ → Type 0
AreSoFar names before now steps rest text = (done : List Step) × (done ++ rest ≡ steps) × Prints names done before now [] text

-- steps of a list that are done, and the keeper took what they closed
abbrev pub AreTaken : {K : Type 0} → Taking K → World → World → List Step → List Step → K → K → Type 0
AreTaken Takes before now steps rest k l = (done : List Step) × (done ++ rest ≡ steps) × Closes Takes done before now k l

-- The steps of a script's lines before the rest lead from one floor to another. Their lines are the text, and the keeper took the
-- periods that they close. The other floor has room for the steps of the rest.
pub record IsRunTo {K : Type 0} (Takes : Taking K) (names : List (List ℕ)) (workers : ℕ) (script rest : List ℕ) (before now : FloorState) (text : List ℕ) (k l : K) : Type 0 where
  pub printed : AreSoFar names (world_of before) (world_of now) (steps_in names workers (lines_of script)) (steps_in names workers (lines_of rest)) text
  pub taken : AreTaken Takes (world_of before) (world_of now) (steps_in names workers (lines_of script)) (steps_in names workers (lines_of rest)) k l
  pub workers_are : length now.seats ≡ workers
  pub tenants_are : length now.books ≡ length names
  pub room : HasRoom now (length rest)

-- it is read and run up to a rest that begins with the line of that number
abbrev pub RunsTo : {K : Type 0} → Taking K → List (List ℕ) → ℕ → List ℕ → ℕ → List ℕ → (before now : FloorState) → List ℕ → (k l : K) → Type 0
RunsTo Takes names workers script number rest before now text k l =
    IsRunTo Takes names workers script rest before now text k l × IsReadTo names workers script number rest

-- Lines of a part of a script were run, up to a rest of the part. A script that was run up to this part is run up to the rest,
-- whatever comes after the part.
abbrev pub RunsOn : {K : Type 0} → Taking K → List (List ℕ) → ℕ → (part rest : List ℕ) → (first number : ℕ) → (before now : FloorState) → (text longer : List ℕ) → (k l : K) → Type 0
RunsOn {K} Takes names workers part rest first number before now text longer k l =
    (script more : List ℕ) (start : FloorState) (j : K) → RunsTo Takes names workers script first (part ++ more) start before text j k
    → RunsTo Takes names workers script number (rest ++ more) start now longer j l

-- So many bytes of a script were taken from a reader. It is run up to the rest of them, whatever the reader still has.
pub record IsBegun {K : Type 0} (Takes : Taking K) (names : List (List ℕ)) (workers : ℕ) (old new : Option (List ℕ)) (taken number : ℕ) (rest : List ℕ) (before now : FloorState) (text : List ℕ) (k l : K) : Type 0 where
  pub front : List ℕ
  pub consumed : Consumes old new front
  pub counted : length front ≡ taken
  pub goes_on : (more : List ℕ) → length front + length more ≤ MAX_SCRIPT + 1 → RunsTo Takes names workers (front ++ more) number (rest ++ more) before now text k l

-- A script was read to its end, and is not too long. It is run up to the rest.
pub record IsReadWhole {K : Type 0} (Takes : Taking K) (names : List (List ℕ)) (workers : ℕ) (known : Option (List ℕ)) (number : ℕ) (rest : List ℕ) (before now : FloorState) (text : List ℕ) (k l : K) : Type 0 where
  pub script : List ℕ
  pub is_all : IfSome known (λ bytes. script ≡ bytes)
  pub short : length script ≤ MAX_SCRIPT
  pub runs : RunsTo Takes names workers script number rest before now text k l

-- and no line of it is bad
pub record IsReadGood {K : Type 0} (Takes : Taking K) (names : List (List ℕ)) (workers : ℕ) (known : Option (List ℕ)) (rest : List ℕ) (before now : FloorState) (text : List ℕ) (k l : K) : Type 0 where
  pub script : List ℕ
  pub is_all : IfSome known (λ bytes. script ≡ bytes)
  pub run : IsRunTo Takes names workers script rest before now text k l
  pub good : NoneIsBad names workers (lines_of rest)
  pub steps : steps_of_script names workers script ≡ Ok (steps_in names workers (lines_of script))

-- What holds of any steps from any world, if the first of them lead to the world now and have the text as their lines, and
-- the others are these.
abbrev pub HoldsOfAll : List (List ℕ) → World → List Step → List ℕ → (World → List Step → Type 0) → Type 0
HoldsOfAll names now rest text Holds = (world : World) (steps : List Step) → AreSoFar names world now steps rest text → Holds world steps
