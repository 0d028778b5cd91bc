use Rattle.std.proofs.Common.{◌≡◌, ◌≤◌, ◌-◌, length, take}
use Rattle.http_link.specs.StreamCalls.{Continues, to_come}
use Rattle.http_link.proofs.Known.{CameBehind}
use Rattle.http_link.proofs.stream.Stream.read_on.Given as goal

abbrev pub invariant-loop-there : goal.invariant-loop-there
invariant-loop-there g l = record {
  came : CameBehind (to_come l.fn.self) (to_come l.self) (take l.had l.fn.self.room.now) l.needed l.there l.self.room.now;
  from : l.had ≤ l.there;
  at_once : l.needed ≤ l.had → l.self.reader.now ≡ l.fn.self.reader.now;
  bound : l.there ≤ length l.self.room.now;
  done : l.self.done ≡ l.fn.self.done;
  held : l.self.held ≡ l.fn.self.held;
  failures : l.self.failures ≡ l.fn.self.failures;
  continues : Continues l.fn.self l.self;
}

abbrev pub decreases-loop-there : goal.decreases-loop-there
decreases-loop-there g l = l.needed - l.there
