use Rattle.std.proofs.Common.{rules, ◌≡◌, true, ap}
use Rattle.tenant_core.specs.HoldTables.{Table}
use Rattle.tenant_core.specs.Holds.{holds_amounts, with_fate}
use Rattle.tenant_core.specs.declared.hold.Fate.TheVariants.{Marked}
use Rattle.tenant_core.specs.declared.hold.Hold.{Hold}
use Rattle.tenant_core.proofs.Slots.{stayed, at_place, held_awaits, fate_set}
use Rattle.tenant_core.proofs.hold_table.HoldTable.mark.Goals as goal

pub invariant_of-self : goal.invariant_of-self
invariant_of-self c =
    let h : Hold = c.index_mut.result.now in
    let known = at_place (λ x. holds_amounts x.fate ≡ true) c.self.inside.holds.items c.args.self.now.holds c.args.place h (ap (λ (t : Table). t.holds) c.self.view_is) c.requires.inside c.requires.held c.index_mut.ensures.value in
    record {
      small = c.self.invariant.small;
      room = c.self.invariant.room;
      slots_room = c.self.invariant.slots_room;
      awaiting_room = c.self.invariant.awaiting_room;
      few = search rules;
      few_awaiting = c.self.invariant.few_awaiting;
      indexed = stayed c.self.inside.holds.items c.self.inside.awaiting.items c.self.inside.slots.items c.args.place h (with_fate h Marked) c.self.invariant.indexed known.0 (held_awaits h.fate known.1);
    }

pub returns-clause-holds : goal.returns-clause-holds
returns-clause-holds c = λ h at.
    fate_set Marked c.self.inside.holds.items c.args.self.now.holds c.args.place c.index_mut.result.now h (ap (λ (t : Table). t.holds) c.self.view_is) c.requires.inside c.index_mut.ensures.value at
