-- What a replay of a script for a setup writes, and what refuses it.
use Rattle.std.specs.Prelude.{ℕ, ◌≡◌, ◌<◌, List, [], length, map, ◌++◌, ◌⊎◌, Option, Some, option_map, Result, Ok, Err, IfSome, IsOk}
use Rattle.std.specs.Result.{result_err}
use Rattle.std.specs.Io.KnownBytes.{Keeps, Appends}
use Rattle.floor_core.specs.Forwards.{AreForwards, no_frames}
use Rattle.floor_core.specs.World.{World, world_at_start, AreOutputs, IsLeft}
use Rattle.floor_core.specs.declared.step.Output.{Output}
use Rattle.floor_core.specs.declared.step.Step.{Step}
use Rattle.admin_text.specs.Setup.{setup_of}
use Rattle.admin_text.specs.declared.setup.Setup.{Setup}
use Rattle.admin_text.specs.declared.setup.SetupFault.{SetupFault}
use Rattle.output_text.specs.Printed.{printed_lines}
use Rattle.replay_text.specs.Script.{steps_of_script}
use Rattle.replay_text.specs.Streams.{AppendsFront}
use Rattle.replay_text.specs.declared.replays.ReplayFault.{ReplayFault}
use Rattle.replay_text.specs.declared.replays.ReplayFault.TheVariants as fault

-- the tenants of a setup, to whom nothing has happened, and workers with nothing in hand
abbrev pub world_of_setup : Setup → World
world_of_setup s = world_at_start s.tenants s.start

-- the names that a script may use
abbrev pub names_in : Setup → List (List ℕ)
names_in s = map (λ t. t.name) s.tenants

-- The setup and the script are well formed, and the lines of the outputs of the script's steps are written. To each
-- tenant these are the outputs of the one-tenant connector on the tenant's own steps alone; the others are nobody's.
-- Each frame that goes on is the one that came, with 8 other bytes for its amount and 17 others for its expiry.
pub record IsReplayed (setup_text : List ℕ) (workers : ℕ) (script written : List ℕ) : Type 0 where
  pub setup : Setup
  pub steps : List Step
  pub outputs : List Output
  pub setup_is : setup_of setup_text ≡ Ok setup
  pub steps_are : steps_of_script (names_in setup) workers script ≡ Ok steps
  pub outputs_are : AreOutputs (world_of_setup setup) steps outputs
  pub forwards_are : AreForwards no_frames steps outputs
  pub written_is : written ≡ printed_lines (names_in setup) outputs

-- the exit status of a program that a replay with this fault ends
abbrev pub replay_status : ReplayFault → ℕ
replay_status fault.Memory = 1
replay_status (fault.Setup f) = 3
replay_status (fault.Script f) = 4
replay_status fault.Device = 5

-- the first fault of a setup, and after it of the script for that setup, if there is one
abbrev pub refusal_of : Result Setup SetupFault → ℕ → List ℕ → Option ReplayFault
refusal_of (Ok setup) workers script =
    option_map (λ f. fault.Script f) (result_err (steps_of_script (names_in setup) workers script))
refusal_of (Err f) workers script = Some (fault.Setup f)

-- A setup is refused by its first fault, and a script by its own if the setup is good. This says nothing of memory and
-- devices.
abbrev pub IsReplayFault : ReplayFault → Result Setup SetupFault → ℕ → Option (List ℕ) → Type 0
IsReplayFault fault.Memory read workers known = Unit {0}
IsReplayFault fault.Device read workers known = Unit {0}
IsReplayFault (fault.Setup f) read workers known = read ≡ Err f
IsReplayFault (fault.Script f) read workers known =
    IsOk read × IfSome known (λ script. refusal_of read workers script ≡ Some (fault.Script f))

-- so it is of a fault that is not one of a setup, for tenants of these names
abbrev pub IsReadFault : ReplayFault → List (List ℕ) → ℕ → Option (List ℕ) → Type 0
IsReadFault fault.Memory names workers known = Unit {0}
IsReadFault fault.Device names workers known = Unit {0}
IsReadFault (fault.Setup f) names workers known = ⊥
IsReadFault (fault.Script f) names workers known = IfSome known (λ script. steps_of_script names workers script ≡ Err f)

-- the whole text was written
abbrev pub WritesAll : List ℕ → ℕ → List ℕ → Option (List ℕ) → Option (List ℕ) → Type 0
WritesAll setup_text workers script old new =
    (written : List ℕ) × IsReplayed setup_text workers script written × Appends old new written

-- or a part of it from its start on
abbrev pub WritesFront : List ℕ → ℕ → List ℕ → Option (List ℕ) → Option (List ℕ) → Type 0
WritesFront setup_text workers script old new =
    (written : List ℕ) × IsReplayed setup_text workers script written × AppendsFront written old new

-- After a fault of the setup or the script nothing was written. After any other, at most a part from the start on.
abbrev pub LeavesWritten : ReplayFault → List ℕ → ℕ → Option (List ℕ) → Option (List ℕ) → Option (List ℕ) → Type 0
LeavesWritten (fault.Setup f) setup_text workers known old new = Keeps old new
LeavesWritten (fault.Script f) setup_text workers known old new = Keeps old new
LeavesWritten _ setup_text workers known old new =
    Keeps old new ⊎ IfSome known (λ script. WritesFront setup_text workers script old new)

-- the lines of the outputs of these steps, from that world on
abbrev pub ArePrinted : List (List ℕ) → World → List Step → List ℕ → Type 0
ArePrinted names world steps text =
    (outputs : List Output) × AreOutputs world steps outputs × (text ≡ printed_lines names outputs)

-- the lines of the outputs of these steps, for the tenants of a setup
abbrev pub AreReplayLines : Setup → List Step → List ℕ → Type 0
AreReplayLines setup steps written = ArePrinted (names_in setup) (world_of_setup setup) steps written

-- the steps lead from one world to another, and the lines of their outputs are appended to a text
abbrev pub Prints : List (List ℕ) → List Step → World → World → List ℕ → List ℕ → Type 0
Prints names steps before after old new =
    (outputs : List Output) × AreOutputs before steps outputs × IsLeft before steps outputs after
    × (new ≡ old ++ printed_lines names outputs)

-- the steps lead from one world to another, and the lines of their outputs have more bytes than that
abbrev pub HasLong : ℕ → List (List ℕ) → List Step → World → World → Type 0
HasLong most names steps before after = (text : List ℕ) × Prints names steps before after [] text × (most < length text)

-- those lines were written
abbrev pub WritesLines : List (List ℕ) → World → List Step → Option (List ℕ) → Option (List ℕ) → Type 0
WritesLines names world steps old new = (text : List ℕ) × ArePrinted names world steps text × Appends old new text

-- the lines of the first of these steps were written, each whole: of those that lead to the last world
abbrev pub WritesDone : List (List ℕ) → World → List Step → World → Option (List ℕ) → Option (List ℕ) → Type 0
WritesDone names world steps last old new =
    (done rest : List Step) × (done ++ rest ≡ steps) × (text : List ℕ) × Prints names done world last [] text × Appends old new text

-- or a part of them from their start on
abbrev pub WritesSome : List (List ℕ) → World → List Step → Option (List ℕ) → Option (List ℕ) → Type 0
WritesSome names world steps old new = (text : List ℕ) × ArePrinted names world steps text × AppendsFront text old new

-- what is written for a setup that was read, and a script
abbrev pub IsReplayedFor : Setup → ℕ → List ℕ → List ℕ → Type 0
IsReplayedFor setup workers script written =
    (steps : List Step) × (steps_of_script (names_in setup) workers script ≡ Ok steps) × AreReplayLines setup steps written

-- After a fault of the setup or the script nothing was written. After any other, at most a part from the start on, for
-- a setup that was read.
abbrev pub LeavesWrittenFor : ReplayFault → Setup → ℕ → Option (List ℕ) → Option (List ℕ) → Option (List ℕ) → Type 0
LeavesWrittenFor (fault.Setup f) setup workers known old new = Keeps old new
LeavesWrittenFor (fault.Script f) setup workers known old new = Keeps old new
LeavesWrittenFor _ setup workers known old new =
    Keeps old new
    ⊎ IfSome known (λ script. (text : List ℕ) × IsReplayedFor setup workers script text × AppendsFront text old new)
