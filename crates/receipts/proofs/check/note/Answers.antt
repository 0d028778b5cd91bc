use Rattle.std.proofs.Common.{ℕ, Option, List, Some, subst, sym}
use Rattle.receipts.specs.Layout.{HaveRows}
use Rattle.receipts.proofs.Naming.{rows_written}
use Rattle.receipts.proofs.check.note.Goals as goal

pub returns-clause-rows : goal.returns-clause-rows
returns-clause-rows c =
    let P : List (List (Option ℕ)) → Type 0 = λ h. HaveRows c.args.laid.now.index.now c.args.laid.now.periods.now c.args.laid.now.offsets.now h in
    subst P (sym c.set.ensures)
    (rows_written c.args.laid.now.index.now c.args.laid.now.periods.now c.args.laid.now.offsets.now c.args.holders.now c.args.receipt.now.tenant c.in_ok-place.place (Some c.args.list) c.requires.rows)
