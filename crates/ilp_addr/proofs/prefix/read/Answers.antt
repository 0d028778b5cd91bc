use Rattle.std.proofs.Common.{sym, subst}
use Rattle.ilp_addr.specs.Address.{IsPrefix}
use Rattle.ilp_addr.proofs.Parts.{prefix_at_found}
use Rattle.ilp_addr.proofs.prefix.read.Goals as goal

pub invariant_of-result : goal.invariant_of-result
invariant_of-result c =
    subst IsPrefix (sym c.in_ok-bytes.ensures.items) (prefix_at_found c.args.bytes.now c.in-Ok.bytes.now c.in-Ok.ensures).0
