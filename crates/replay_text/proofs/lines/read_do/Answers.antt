use Rattle.std.proofs.Common.{refl}
use Rattle.replay_text.proofs.lines.read_do.Goals as goal

pub returns : goal.returns
returns c =
    rw (c.in-Some.ensures, ← c.in_ok-tenant_of.ensures, ← c.in_ok-moment_of.ensures) refl
