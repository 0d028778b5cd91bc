-- The output of a step of a floor, whose bytes are still its worker's.
use Rattle.std.specs.Prelude.{List}
use Rattle.floor_core.specs.FloorView.{seat_in}
use Rattle.floor_core.specs.Work.{job_frame}
use Rattle.floor_core.specs.declared.floor.Seat.{Seat}
use Rattle.floor_core.specs.declared.step.Output.{Output}
use Rattle.floor_core.specs.declared.step.Output.TheVariants as output
use Rattle.floor_core.specs.declared.step.StepOutput.{StepOutput}
use Rattle.floor_core.specs.declared.step.StepOutput.TheVariants.{Whole, Reply, Send}

-- the output, with the reply or the frame that the worker's slot has
abbrev pub shown : List Seat → StepOutput → Output
shown seats (Whole output) = output
shown seats (Reply worker tenant) = output.Reply tenant (seat_in seats worker).slot.reply
shown seats (Send worker tenant peer hold) = output.Send tenant peer hold (job_frame (seat_in seats worker).slot.job)
