use Rattle.std.proofs.Common.{◌/◌, ◌∙◌, ℕ, bit_and, slice_index}
use Rattle.std.proofs.lemmas.Nat.{and_mask}
use Rattle.std.proofs.lemmas.Simd.{zip2_splat}
use Rattle.output_text.proofs.Lanes.{in_turns, pairs_from}
use Rattle.output_text.proofs.hexadecimal.spread.Goals as goal

pub returns-clause-high : goal.returns-clause-high
unfolding pairs_from
returns-clause-high c i lt =
    let xs = c.args.bytes in
    let size = c.fits-bytes.0 in
    rw (zip2_splat {Y = ℕ} {Z = ℕ} _ xs 16 4 size, zip2_splat {Y = ℕ} {Z = ℕ} _ xs 16 15 size) (in_turns (λ x. x / 16) (λ x. bit_and x 15) xs size i lt).0

pub returns-clause-low : goal.returns-clause-low
unfolding pairs_from
returns-clause-low c i lt =
    let xs = c.args.bytes in
    let size = c.fits-bytes.0 in
    rw (zip2_splat {Y = ℕ} {Z = ℕ} _ xs 16 4 size, zip2_splat {Y = ℕ} {Z = ℕ} _ xs 16 15 size) ((in_turns (λ x. x / 16) (λ x. bit_and x 15) xs size i lt).1 ∙ and_mask (slice_index xs i) 4)
