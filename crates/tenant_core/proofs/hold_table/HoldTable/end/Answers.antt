use Rattle.std.proofs.Common.{rules, ◌≡◌, ◌<◌, ◌≤◌, length, arith, true, ap, sym, refl}
use Rattle.std.proofs.lemmas.Bool.{ltb-false}
use Rattle.tenant_core.specs.HoldTables.{Table}
use Rattle.tenant_core.specs.Holds.{is_open, with_fate}
use Rattle.tenant_core.specs.declared.hold.Fate.TheVariants.{Ended}
use Rattle.tenant_core.specs.declared.hold.Hold.{Hold}
use Rattle.tenant_core.proofs.Slots.{IsTakenOut, ended_last, ended_within, at_place, slot_of, moved_inside, read_some, taken_out, fate_set}
use Rattle.tenant_core.proofs.hold_table.HoldTable.end.Goals.{in-Some, in_default}
use Rattle.tenant_core.proofs.hold_table.HoldTable.end.Goals as goal

pub swap_remove-requires : goal.swap_remove-requires
swap_remove-requires c =
    let t = c.self.inside in
    let slot = slot_of t.holds.items c.args.self.now.holds t.awaiting.items t.slots.items c.args.place c.index.result.now c.self.invariant.indexed (ap (λ (u : Table). u.holds) c.self.view_is) c.requires.inside c.requires.held c.index.ensures in
    let within : c.index.result.now < length t.awaiting.items = slot.1 in
    omega arith

pub index_mut-requires : goal.index_mut-requires
index_mut-requires c =
    let t = c.self.inside in
    let us = c.swap_remove.new.self.items in
    let out : IsTakenOut t.awaiting.items us c.index.result.now = taken_out t.awaiting.items us c.index.result.now _ (omega arith) (omega arith) c.swap_remove.ensures.by_index in
    let moved = read_some c.deref.result.now us c.index.result.now c.in-Some.moved.now c.deref.ensures.value (sym c.in-Some.ensures.lookup.0) c.in-Some.ensures.lookup.1 in
    let within : c.in-Some.moved.now < length t.slots.items = moved_inside t.holds.items t.awaiting.items t.slots.items us c.index.result.now c.in-Some.moved.now c.self.invariant.indexed out moved in
    omega arith

pub invariant_of-self : goal.invariant_of-self
invariant_of-self c =
    let t = c.self.inside in
    let us = c.swap_remove.new.self.items in
    let k = c.index.result.now in
    let h : Hold = c.index_mut-2.result.now in
    let same : t.holds.items ≡ c.args.self.now.holds = ap (λ (u : Table). u.holds) c.self.view_is in
    let slot = slot_of t.holds.items c.args.self.now.holds t.awaiting.items t.slots.items c.args.place k c.self.invariant.indexed same c.requires.inside c.requires.held c.index.ensures in
    let out : IsTakenOut t.awaiting.items us k = taken_out t.awaiting.items us k _ (omega arith) (omega arith) c.swap_remove.ensures.by_index in
    let fewer = out.fewer in
    let few = c.self.invariant.few_awaiting in
    elim c.match-get.branch [
      | in-Some w ↦
          let known = at_place (λ x. is_open x ≡ true) t.holds.items c.args.self.now.holds c.args.place h same c.requires.inside c.requires.held (rw w.self-inside-is at c.index_mut-2.ensures.value) in
          let moved = read_some c.deref.result.now us k w.in-Some.moved.now c.deref.ensures.value (sym w.in-Some.ensures.lookup.0) w.in-Some.ensures.lookup.1 in
          rw w.self-inside-is
          (record {
            small = c.self.invariant.small;
            room = c.self.invariant.room;
            slots_room = search rules;
            awaiting_room = search rules;
            few = search rules;
            few_awaiting = omega arith;
            indexed = ended_within t.holds.items t.awaiting.items t.slots.items us c.args.place k w.in-Some.moved.now h (with_fate h (Ended c.args.fulfilled)) c.self.invariant.indexed known.0 known.1 refl slot.0 out moved;
          })
      | in_default w ↦
          let known = at_place (λ x. is_open x ≡ true) t.holds.items c.args.self.now.holds c.args.place h same c.requires.inside c.requires.held (rw w.self-inside-is at c.index_mut-2.ensures.value) in
          let past : length us ≤ k = rw (← c.deref.ensures.value) (ltb-false k (length c.deref.result.now) (sym w.in_default.ensures.lookup.0)) in
          rw w.self-inside-is
          (record {
            small = c.self.invariant.small;
            room = c.self.invariant.room;
            slots_room = c.self.invariant.slots_room;
            awaiting_room = search rules;
            few = search rules;
            few_awaiting = omega arith;
            indexed = ended_last t.holds.items t.awaiting.items t.slots.items us c.args.place k h (with_fate h (Ended c.args.fulfilled)) c.self.invariant.indexed known.0 known.1 refl slot.0 out past;
          })
    ]

pub returns-clause-holds : goal.returns-clause-holds
returns-clause-holds c = λ h at.
    let same : c.match-get.self-inside.holds.items ≡ c.args.self.now.holds =
    elim c.match-get.branch [
      | in-Some w ↦ rw w.self-inside-is (ap (λ (u : Table). u.holds) c.self.view_is)
      | in_default w ↦ rw w.self-inside-is (ap (λ (u : Table). u.holds) c.self.view_is)
    ] in
    fate_set (Ended c.args.fulfilled) c.match-get.self-inside.holds.items c.args.self.now.holds c.args.place c.index_mut-2.result.now h same c.requires.inside c.index_mut-2.ensures.value at
