use Rattle.std.proofs.Common.{◌<◌, length, refl, sym, subst}
use Rattle.std.proofs.lemmas.Option.{slice_get_read}
use Rattle.tenant_core.specs.HoldTables.{Table}
use Rattle.tenant_core.proofs.Slots.{inside}
use Rattle.tenant_core.proofs.hold_table.HoldTable.awaiting_at.Goals as goal

pub returns-clause-inside : goal.returns-clause-inside
returns-clause-inside c =
    let within : c.args.k < length c.self.inside.awaiting.items = subst (λ (t : Table). c.args.k < length t.awaiting) (sym c.self.view_is) c.requires in
    let there = slice_get_read c.self.inside.awaiting.items (length c.self.inside.awaiting.items) c.args.k c.index.result.now refl within c.index.ensures in
    subst (λ (t : Table). c.index.result.now < length t.holds) c.self.view_is (inside c.self.inside.holds.items c.self.inside.awaiting.items c.self.inside.slots.items c.args.k c.index.result.now c.self.invariant.indexed there)
