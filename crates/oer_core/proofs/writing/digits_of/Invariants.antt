use Rattle.std.proofs.Common.{◌≡◌, ◌≤◌, length}
use Rattle.oer_core.specs.Length.{without_leading_zeros}
use Rattle.oer_core.proofs.writing.digits_of.Given as goal

abbrev pub invariant-loop-rest : goal.invariant-loop-rest
invariant-loop-rest l = (without_leading_zeros l.rest ≡ without_leading_zeros l.bytes) × (length l.rest ≤ length l.bytes)

abbrev pub decreases-loop-rest : goal.decreases-loop-rest
decreases-loop-rest l = length l.rest
