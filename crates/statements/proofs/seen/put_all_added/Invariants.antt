use Rattle.std.proofs.Common.{◌≡◌, ◌++◌, take}
use Rattle.statements.specs.Seen.{next_after, seen_among}
use Rattle.statements.proofs.seen.put_all_added.Given as goal

abbrev pub invariant-loop-place : goal.invariant-loop-place
invariant-loop-place l = record {
  put : l.out.items ≡ l.fn.out.items ++ seen_among l.first (take l.place l.records);
  next : l.next ≡ next_after l.first (take l.place l.records);
}
