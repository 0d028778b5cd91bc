use Rattle.output_text.proofs.Lanes.{past_at}
use Rattle.output_text.proofs.hexadecimal.past_range.Goals as goal

pub returns : goal.returns
returns c i lt = past_at c.args.first c.args.more 32 c.args.bytes i c.fits-bytes.0 lt c.ranges.more.fits
