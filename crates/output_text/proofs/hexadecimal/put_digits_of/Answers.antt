use Rattle.std.proofs.Common.{arith, ◌*◌, ◌+◌, ◌<◌, ◌∙◌, ap, slice_index}
use Rattle.std.proofs.lemmas.Simd.{get_or-put_chunk_at, get_or-put_chunk_below}
use Rattle.hex.specs.Hex.{lower_digits}
use Rattle.output_text.proofs.Lanes.{even_and_odd}
use Rattle.output_text.proofs.hexadecimal.put_digits_of.Goals as goal

pub digits_of-digits-requires : goal.digits_of-digits-requires
digits_of-digits-requires c =
    even_and_odd (λ i. slice_index c.spread.result i < 16)
    (λ k lt. rw (c.spread.ensures.high k lt) (omega (arith, c.fits-bytes k)))
    (λ k lt. rw (c.spread.ensures.low k lt) (omega arith))

pub returns-clause-high : goal.returns-clause-high
returns-clause-high c k lt =
    get_or-put_chunk_at c.args.at c.args.out.now c.digits_of-digits.result (2 * k) 0 (omega arith) (omega arith)
    ∙ c.digits_of-digits.ensures (2 * k) (omega arith) ∙ ap (slice_index lower_digits) (c.spread.ensures.high k lt)

pub returns-clause-low : goal.returns-clause-low
returns-clause-low c k lt =
    get_or-put_chunk_at c.args.at c.args.out.now c.digits_of-digits.result (2 * k + 1) 0 (omega arith) (omega arith)
    ∙ c.digits_of-digits.ensures (2 * k + 1) (omega arith) ∙ ap (slice_index lower_digits) (c.spread.ensures.low k lt)

pub returns-clause-before : goal.returns-clause-before
returns-clause-before c k lt = get_or-put_chunk_below c.args.at c.args.out.now c.digits_of-digits.result k 0 lt
