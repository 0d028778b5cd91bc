use Rattle.std.proofs.Common.{◌≡◌, ℕ, arith}
use mathlib.Core.Option.{some}
use lib.ListN.{get_elem?}
use Rattle.std.specs.Slots.{slots_items}
use Rattle.meters.proofs.Words.{filled_more, length_set}
use Rattle.meters.proofs.meters.words_of.Goals as goal

pub loop-i-preserved : goal.loop-i-preserved
loop-i-preserved c =
    let i = c.loop-i.i in
    let P : ℕ → ℕ → Type 0 = λ k x. get_elem? (slots_items c.args.closed.now.words) k ≡ some x in record {
      long = omega (arith, length_set c.loop-i.counts i c.word.result);
      below = filled_more c.loop-i.counts i c.word.result P (omega arith) c.word.ensures c.loop-i.invariant.below;
    }
