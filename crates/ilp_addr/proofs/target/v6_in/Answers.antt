use Rattle.std.proofs.Common.{sym}
use Rattle.ilp_addr.proofs.Addresses.{v6_is, v6_none}
use Rattle.ilp_addr.proofs.target.v6_in.Goals as goal

pub returns-in-Ok-clause-exact : goal.returns-in-Ok-clause-exact
returns-in-Ok-clause-exact c = sym (v6_is c.args.text.now c.in-Ok.address c.in-Ok.ensures)

pub returns-in-Err-clause-exact : goal.returns-in-Err-clause-exact
returns-in-Err-clause-exact c = sym (v6_none c.args.text.now c.in-Err.ensures)
