use Rattle.std.proofs.Common.{◌≡◌, length, map, take}
use Rattle.statements.specs.Known.{anew_or, led}
use Rattle.statements.proofs.known.are_led.Given as goal

abbrev pub invariant-loop-place : goal.invariant-loop-place
invariant-loop-place l =
    record {
      long : length l.routes ≡ length l.others;
      same : map (led (anew_or l.before.peers l.after.peers)) (take l.place l.routes) ≡ take l.place l.others;
    }
