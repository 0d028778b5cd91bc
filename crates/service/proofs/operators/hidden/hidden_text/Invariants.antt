use Rattle.std.proofs.Common.{◌≡◌, ◌++◌, length}
use Rattle.std.specs.Prelude.{◌==◌}
use Rattle.std.specs.List.{flat_map, slice_split}
use Rattle.service.specs.Hidden.{ended_line, hidden_text}
use Rattle.service.proofs.operators.hidden.hidden_text.Given as goal

abbrev pub invariant-loop-line : goal.invariant-loop-line
invariant-loop-line l = l.text.items ++ flat_map ended_line (slice_split (λ b. b == 10) l.rest) ≡ hidden_text l.setup

abbrev pub decreases-loop-line : goal.decreases-loop-line
decreases-loop-line l = length l.rest
