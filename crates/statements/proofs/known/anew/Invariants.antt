use Rattle.std.proofs.Common.{◌≡◌, drop}
use Rattle.statements.specs.Known.{number_in_next}
use Rattle.statements.proofs.known.anew.Given as goal

abbrev pub invariant-loop-place : goal.invariant-loop-place
invariant-loop-place l = number_in_next (drop l.place l.peers) (drop l.place l.others) l.number ≡ number_in_next l.peers l.others l.number
