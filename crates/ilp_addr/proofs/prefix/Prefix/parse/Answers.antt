use Rattle.ilp_addr.proofs.Parts.{found_prefix, only_prefix}
use Rattle.ilp_addr.proofs.prefix.Prefix.parse.Goals as goal

pub returns-clause-found : goal.returns-clause-found
returns-clause-found c = found_prefix c.args.bytes.now c.read.result c.read.ensures.exact

pub returns-clause-only : goal.returns-clause-only
returns-clause-only c = only_prefix c.args.bytes.now c.read.result c.read.ensures.exact
