use Rattle.std.proofs.Common.{Some, refl}
use Rattle.receipts.proofs.Places.{row_written}
use Rattle.receipts.proofs.holders.Holders.set.Goals as goal

pub returns : goal.returns
returns c =
    row_written (λ row. row.items) c.self.inside.rows.items c.args.self.now c.args.tenant c.args.place c.index_mut-row.result.now _ (Some c.args.list)
    c.self.view_is c.requires.tenant c.index_mut-row.ensures.value refl
