use Rattle.std.proofs.Common.{◌≡◌, length, map, take}
use Rattle.statements.specs.Known.{anew_or, rated}
use Rattle.statements.proofs.known.are_rated.Given as goal

abbrev pub invariant-loop-place : goal.invariant-loop-place
invariant-loop-place l =
    record {
      long : length l.rates ≡ length l.others;
      same : map (rated (anew_or l.before.peers l.after.peers)) (take l.place l.rates) ≡ take l.place l.others;
    }
