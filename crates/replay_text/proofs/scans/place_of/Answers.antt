use Rattle.replay_text.proofs.Places.{first_is_position}
use Rattle.replay_text.proofs.scans.place_of.Goals as goal

pub returns : goal.returns
returns c = first_is_position _ c.args.bytes.now c.memchr.result c.memchr.ensures
