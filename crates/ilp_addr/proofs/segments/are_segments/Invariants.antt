use Rattle.std.proofs.Common.{◌≡◌, ◌==◌, ◌&&◌, drop, true}
use Rattle.ilp_addr.proofs.Marks.{is_fine, is_kind}
use Rattle.ilp_addr.proofs.Runs.{runs}
use Rattle.ilp_addr.proofs.segments.are_segments.Given as goal

abbrev pub invariant-loop-byte : goal.invariant-loop-byte
invariant-loop-byte l =
    (is_kind l.before ≡ true) × ((is_fine l.wrong && runs (l.before == 49) (drop l.byte-index l.bytes)) ≡ runs true l.bytes)
