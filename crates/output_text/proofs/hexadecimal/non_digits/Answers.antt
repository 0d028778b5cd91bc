use Rattle.std.proofs.Common.{slice_index}
use Rattle.output_text.proofs.Lanes.{digit_tells, lane_fits}
use Rattle.output_text.proofs.hexadecimal.non_digits.Goals as goal

pub returns : goal.returns
returns c i lt =
    let in_two = c.zero_in_one.ensures i lt in
    let in_three = c.zero_in_one-2.ensures i lt in
    rw (in_three, in_two, c.past_range-decimal.ensures i lt, c.past_range-capital.ensures i lt, c.past_range-small.ensures i lt)
    (digit_tells (slice_index c.args.digits i) (lane_fits c.args.digits i c.fits-digits.1))
