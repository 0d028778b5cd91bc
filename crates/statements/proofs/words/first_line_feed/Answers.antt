use Rattle.statements.proofs.LineFeeds.{first_place}
use Rattle.statements.proofs.words.first_line_feed.Goals as goal

pub returns : goal.returns
returns c = first_place _ c.args.text.now c.memchr.result c.memchr.ensures
