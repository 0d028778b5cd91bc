use Rattle.std.proofs.Common.{refl}
use Rattle.journal_law.proofs.laws.left_fronts_are_a_journal.Goals as goal

pub returns : goal.returns
returns c starts base sum text first last leaves begin based = record {
  starts = starts;
  first = sum;
  begin = begin;
  based = based;
  written = leaves.written;
  operators = refl;
}
