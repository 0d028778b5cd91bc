use Rattle.std.proofs.Common.{rules, ◌≡◌, ◌<◌, length, arith, subst, sym}
use Rattle.std.specs.Prelude.{count_by}
use Rattle.std.proofs.lemmas.List.{length_push}
use Rattle.tenant_core.specs.HoldTables.{Table}
use Rattle.tenant_core.specs.Holds.{is_open}
use Rattle.tenant_core.specs.Limits.{max_holds}
use Rattle.tenant_core.proofs.Slots.{begun}
use Rattle.tenant_core.proofs.hold_table.HoldTable.begin.Goals as goal

pub invariant_of-self : goal.invariant_of-self
invariant_of-self c =
    let before : length c.self.inside.holds.items < c.self.inside.room = subst (λ (t : Table). length t.holds < t.room) (sym c.self.view_is) c.requires.room in
    let few : count_by is_open c.self.inside.holds.items < max_holds = subst (λ (t : Table). count_by is_open t.holds < max_holds) (sym c.self.view_is) c.requires.few in
    let count = c.self.invariant.indexed.count in
    let place : c.len-place.result ≡ length c.self.inside.holds.items = search rules in
    let slot : c.len.result ≡ length c.self.inside.awaiting.items = search rules in
    record {
      small = c.self.invariant.small;
      room = search rules;
      slots_room = search rules;
      awaiting_room = search rules;
      few = rw c.push_reserved-3.ensures.items (omega (arith, length_push c.self.inside.holds.items c.args.hold));
      few_awaiting = rw c.push_reserved-2.ensures.items (omega (arith, length_push c.self.inside.awaiting.items c.len-place.result));
      indexed =
          rw (c.push_reserved-3.ensures.items, c.push_reserved-2.ensures.items, c.push_reserved.ensures.items, place, slot)
          (begun c.self.inside.holds.items c.self.inside.awaiting.items c.self.inside.slots.items c.args.hold c.self.invariant.indexed c.requires.held);
    }
