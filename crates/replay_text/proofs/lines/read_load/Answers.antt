use Rattle.std.proofs.Common.{refl}
use Rattle.replay_text.proofs.LastWords.{load_said}
use Rattle.replay_text.proofs.lines.read_load.Goals as goal

pub returns : goal.returns
returns c =
    rw (load_said c.args.parties.names.now c.args.parties.workers _ c.in-Some.worker.now c.in-Some.tenant.now c.in-Some.token.now c.in-Some.frame.now c.in-Some.ensures, ← c.in_ok-worker_of.ensures, ← c.in_ok-tenant_of.ensures, ← c.in_ok-token_of.ensures) refl
