use Rattle.std.proofs.Common.{◌≡◌, ℕ, ◌+◌, ◌<◌, length, slice_index}
use Rattle.meters.proofs.meters.both_rows.Given as goal

-- below i the sums stand
abbrev pub invariant-loop-i : goal.invariant-loop-i
invariant-loop-i l = record {
  long : length l.sums ≡ 256;
  below : (k : ℕ) → k < l.i → slice_index l.sums k ≡ slice_index l.a k + slice_index l.b k;
}
