use Rattle.std.proofs.Common.{ℕ, ◌<◌, get_or}
use Rattle.floor_core.specs.declared.step.Step.{Step}
use Rattle.floor_core.specs.FloorView.{Fits}
use Rattle.core_tests.proofs.floors.all_fit.Given as goal

abbrev pub invariant-loop-step : goal.invariant-loop-step
invariant-loop-step l = (k : ℕ) → k < l.step-index → (d : Step) → Fits l.floor (get_or l.steps k d)
