use Rattle.std.proofs.Common.{◌≡◌, ℕ, length}
use Rattle.std.specs.Prelude.{slice_index}
use Rattle.statements.proofs.tally.Tally.reach.Given as goal

abbrev pub invariant-loop-count : goal.invariant-loop-count
invariant-loop-count l =
    record {
      same : (n : ℕ) → slice_index l.self.sums.items n ≡ slice_index l.fn.self.sums.items n;
      long : length l.self.sums.items ≡ l.count;
    }
