use Rattle.std.proofs.Common.{◌≡◌, length}
use Rattle.http_link.specs.Fields.{skip_spaces}
use Rattle.http_link.proofs.fields.without_spaces.Given as goal

abbrev pub invariant-loop-rest : goal.invariant-loop-rest
invariant-loop-rest l = skip_spaces l.rest ≡ skip_spaces l.bytes

abbrev pub decreases-loop-rest : goal.decreases-loop-rest
decreases-loop-rest l = length l.rest
