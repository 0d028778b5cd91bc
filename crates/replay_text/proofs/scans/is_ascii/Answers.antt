use Rattle.replay_text.proofs.Places.{ascii_test}
use Rattle.replay_text.proofs.scans.is_ascii.Goals as goal

pub returns : goal.returns
returns c = ascii_test c.args.line.now c.is_ascii.result c.is_ascii.ensures.cases
