use Rattle.std.proofs.Common.{◌≡◌, ℕ, ◌+◌, slice_index, refl, arith}
use Rattle.meters.proofs.Words.{both_is, filled_more, length_set}
use Rattle.meters.proofs.meters.both_rows.Goals as goal

pub loop-i-preserved : goal.loop-i-preserved
loop-i-preserved c =
    let i = c.loop-i.i in
    let n : ℕ = slice_index c.args.a.now i + slice_index c.args.b.now i in
    let P : ℕ → ℕ → Type 0 = λ k x. x ≡ slice_index c.args.a.now k + slice_index c.args.b.now k in record {
      long = omega (arith, length_set c.loop-i.sums i n);
      below = filled_more c.loop-i.sums i n P (omega arith) refl c.loop-i.invariant.below;
    }

pub returns : goal.returns
returns c = both_is c.loop-i.sums c.args.a.now c.args.b.now (omega arith) (omega arith) (λ i lt. c.loop-i.invariant.below i (omega arith))
