use Rattle.std.proofs.Common.{rules}
use Rattle.service.proofs.host.hosting.GaugedGauges.packets.Goals as goal

pub returns : goal.returns
returns g c = record {
  locked = c.enter-guard.result;
  own = c.enter-guard.ensures.own;
  led = c.enter-guard.ensures.led;
  counted = search rules;
  full = search rules;
  bad = search rules;
}
