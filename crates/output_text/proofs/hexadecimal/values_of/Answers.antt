use Rattle.std.proofs.Common.{arith, slice_index}
use Rattle.std.proofs.lemmas.List.{get_or-map}
use Rattle.output_text.proofs.Lanes.{lanes, lane, lane_value, lane_small}
use Rattle.output_text.proofs.hexadecimal.values_of.Goals as goal

pub returns : goal.returns
returns c = record {
  values = λ i lt digit.
      rw (lanes _ _ _ _ 15 64 9 0 32 c.args.digits c.fits-digits.0, get_or-map lane c.args.digits i 0 0 (omega arith))
      (lane_value (slice_index c.args.digits i) digit, lane_small (slice_index c.args.digits i) digit);
}
