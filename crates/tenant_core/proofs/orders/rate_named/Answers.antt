use Rattle.std.proofs.Common.{◌≡◌, false}
use Rattle.std.specs.Str.{bytes_eq}
use Rattle.tenant_core.proofs.Apart.{numbers_apart}
use Rattle.tenant_core.proofs.orders.rate_named.Goals as goal

pub returns-clause-apart : goal.returns-clause-apart
returns-clause-apart c =
    let differ : bytes_eq c.from.result.now c.to.result.now ≡ false = rw (c.from.ensures.value, c.to.ensures.value) c.to.ensures.other in
    numbers_apart c.from.result.now c.to.result.now c.args.network.now.peers c.in_ok-from.from c.in_ok-to.to
    c.in_ok-from.ensures.same c.in_ok-to.ensures.same c.in_ok-from.ensures.present differ
