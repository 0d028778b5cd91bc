use Rattle.std.proofs.Common.{◌-◌, ◌≡◌, ◌++◌, drop, length}
use Rattle.book_journal.specs.Written.{lines_from}
use Rattle.book_journal.proofs.lines.put_lines.Given as goal

abbrev pub invariant-loop-place : goal.invariant-loop-place
invariant-loop-place l = record {
  end : l.end ≡ length l.journal.records;
  put : l.fn.out.items ++ lines_from l.fn.place (drop l.fn.place.number l.journal.records)
      ≡ l.out.items ++ lines_from l.place (drop l.place.number l.journal.records);
}

abbrev pub decreases-loop-place : goal.decreases-loop-place
decreases-loop-place l = l.end - l.place.number
