use Rattle.std.proofs.Common.{◌≡◌, ℕ, ◌<◌, length, slice_index}
use mathlib.Core.Option.{some}
use lib.ListN.{get_elem?}
use Rattle.std.specs.Slots.{slots_items}
use Rattle.meters.proofs.meters.words_of.Given as goal

-- below i the words stand
abbrev pub invariant-loop-i : goal.invariant-loop-i
invariant-loop-i l = record {
  long : length l.counts ≡ 256;
  below : (k : ℕ) → k < l.i → get_elem? (slots_items l.closed.words) k ≡ some (slice_index l.counts k);
}
