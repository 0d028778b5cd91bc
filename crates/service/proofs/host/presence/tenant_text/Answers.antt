use Rattle.std.proofs.Common.{rules}
use Rattle.service.proofs.host.presence.tenant_text.Goals as goal

pub returns : goal.returns
returns g c = record {
  setup = c.in_ok-setup.setup;
  present = c.in_ok-setup.ensures;
  read = λ are. search (rules, c.into_bytes.ensures.value, c.in_ok-text.ensures.read_back are);
}
