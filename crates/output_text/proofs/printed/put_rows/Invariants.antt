use Rattle.std.proofs.Common.{◌≡◌, ◌≤◌, ◌++◌, take}
use Rattle.std.specs.List.{flat_map}
use Rattle.std.specs.Vec.{vec_capacity}
use Rattle.output_text.specs.Printed.{row_line}
use Rattle.output_text.proofs.printed.put_rows.Given as goal

abbrev pub invariant-loop-row : goal.invariant-loop-row
invariant-loop-row l = record {
  put : l.out.items ≡ l.fn.out.items ++ flat_map (row_line l.name) (take l.row-index l.rows);
  grown : vec_capacity l.fn.out ≤ vec_capacity l.out;
}
