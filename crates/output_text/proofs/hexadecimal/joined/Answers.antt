use Rattle.std.proofs.Common.{arith, ap, ◌*◌, ◌+◌, ◌%◌, ◌++◌, ◌∙◌, ℕ, slice_index_or}
use Rattle.output_text.proofs.Lanes.{lane_at, lanes_from, joined_at}
use Rattle.output_text.proofs.hexadecimal.joined.Goals as goal

pub returns : goal.returns
unfolding lanes_from
returns c i lt high low =
    let v = c.args.values in
    let at : ℕ → ℕ = λ i. (slice_index_or (v ++ v) (2 * i) 0 * 16 % 256 + slice_index_or (v ++ v) (2 * i + 1) 0) % 256 in
    lane_at at 16 0 i lt ∙ ap at (omega arith) ∙ joined_at v c.fits-values.0 (2 * i) (2 * i + 1) (omega arith) (omega arith) high low
