use Rattle.output_text.proofs.Lanes.{none_more}
use Rattle.output_text.proofs.hexadecimal.are_zeros.Goals as goal

pub returns : goal.returns
returns c = none_more c.args.lanes c.fits-lanes.0
