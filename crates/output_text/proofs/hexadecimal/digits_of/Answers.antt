use Rattle.std.proofs.Common.{arith, slice_index}
use Rattle.std.proofs.lemmas.List.{get_or-map}
use Rattle.output_text.proofs.Lanes.{digit_is, digit_lane, lanes_added}
use Rattle.output_text.proofs.hexadecimal.digits_of.Goals as goal

pub returns : goal.returns
returns c i lt =
    rw (lanes_added _ _ _ 10 87 48 32 c.args.values c.fits-values.0, get_or-map digit_lane c.args.values i 0 0 (omega arith)) (digit_is (slice_index c.args.values i) (c.requires i lt))
