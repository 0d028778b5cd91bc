use Rattle.std.proofs.Common.{refl, rules}
use Rattle.replay_text.proofs.LastWords.{tick_said}
use Rattle.replay_text.proofs.lines.read_tick.Goals as goal

pub returns-in_err-moment_of : goal.returns-in_err-moment_of
returns-in_err-moment_of c =
    rw (tick_said c.args.parties.names.now _ c.in-Some.tenant.now c.in-Some.now.now c.in-Some.ensures, ← c.in_ok-tenant_of.ensures, ← c.in_err-moment_of.ensures) (search rules)

pub returns : goal.returns
returns c =
    rw (tick_said c.args.parties.names.now _ c.in-Some.tenant.now c.in-Some.now.now c.in-Some.ensures, ← c.in_ok-tenant_of.ensures, ← c.in_ok-moment_of.ensures) refl
