use Rattle.std.proofs.Common.{◌≡◌, ◌+◌, ◌≤◌, List, length}
use Rattle.floor_core.specs.declared.step.Step.{Step}
use Rattle.replay_text.specs.Script.{lines_of, steps_from}
use Rattle.replay_text.specs.declared.script.TheConstants.{MAX_SCRIPT}
use Rattle.replay_text.specs.SoFar.{with_front}
use Rattle.replay_text.proofs.script.check_lines.Given as goal

abbrev pub invariant-loop-rest : goal.invariant-loop-rest
invariant-loop-rest l = record {
  numbered : l.number + length l.rest ≤ MAX_SCRIPT + 1;
  read : (front : List Step) × (with_front front (steps_from l.names l.workers l.number (lines_of l.rest)) ≡ steps_from l.names l.workers l.first (lines_of l.text));
}

abbrev pub decreases-loop-rest : goal.decreases-loop-rest
decreases-loop-rest l = length l.rest
