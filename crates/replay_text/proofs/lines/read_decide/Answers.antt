use Rattle.std.proofs.Common.{refl, rules}
use Rattle.replay_text.proofs.LastWords.{decide_said}
use Rattle.replay_text.proofs.lines.read_decide.Goals as goal

pub returns-in_err-moment_of : goal.returns-in_err-moment_of
returns-in_err-moment_of c =
    rw (decide_said c.args.parties.workers _ c.in-Some.worker.now c.in-Some.now.now c.in-Some.ensures, ← c.in_ok-worker_of.ensures, ← c.in_err-moment_of.ensures) (search rules)

pub returns : goal.returns
returns c =
    rw (decide_said c.args.parties.workers _ c.in-Some.worker.now c.in-Some.now.now c.in-Some.ensures, ← c.in_ok-worker_of.ensures, ← c.in_ok-moment_of.ensures) refl
