use Rattle.std.proofs.Common.{rules, ◌≢◌}
use Rattle.std.specs.Prelude.{codes}
use Rattle.ilp_addr.proofs.Hosts.{no_host}
use Rattle.ilp_addr.proofs.target.read_host.Goals as goal

pub returns-in-None-clause-host : goal.returns-in-None-clause-host
returns-in-None-clause-host c =
    let not_local : c.args.text.now ≢ codes "localhost" = search rules in
    no_host c.args.text.now c.in_ok-literal_in.field-0.now c.in_ok-literal_in.ensures.literal not_local c.in_default.ensures.address c.in-None.ensures.address
