use Rattle.std.proofs.Common.{length, take, ap, arith, length-append}
use Rattle.std.specs.List.{flat_map}
use Rattle.std.specs.Vec.{vec_items}
use Rattle.output_text.specs.Printed.{row_line}
use Rattle.output_text.proofs.Putting.{part_of_all, puts_err}
use Rattle.output_text.proofs.printed.put_rows.Goals as goal

pub returns-in_err-put_row : goal.returns-in_err-put_row
returns-in_err-put_row c =
    let part = part_of_all (row_line c.args.name.now) c.args.rows.now c.loop-row.row-index c.row-item.result c.loop-row-test.true c.row-item.is in
    let sofar = ap length c.loop-row.invariant.put in
    let grown = c.loop-row.invariant.grown in
    let few = c.in_err-put_row.ensures in
    puts_err c.from_residual.result c.args.out.now c.put_row.new.out _ c.from_residual.ensures.0
    (omega (arith, length-append (vec_items c.args.out.now) (flat_map (row_line c.args.name.now) (take c.loop-row.row-index c.args.rows.now))))
