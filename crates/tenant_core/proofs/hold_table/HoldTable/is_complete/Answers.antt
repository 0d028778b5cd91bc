use Rattle.std.proofs.Common.{subst}
use Rattle.tenant_core.specs.HoldTables.{Table, IsComplete}
use Rattle.tenant_core.specs.KeptHolds.{table_of}
use Rattle.tenant_core.proofs.Slots.{complete}
use Rattle.tenant_core.proofs.hold_table.HoldTable.is_complete.Goals as goal

pub returns : goal.returns
returns c =
    subst (λ (t : Table). IsComplete t) c.self.view_is
    (complete (table_of c.self.inside) c.self.inside.slots.items c.self.invariant.indexed)
