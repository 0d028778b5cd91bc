-- What a table of holds keeps of its fields.
use Rattle.std.specs.Prelude.{◌≤◌, length, vec_capacity}
use Rattle.tenant_core.specs.HoldTables.{Table, IsIndexed}
use Rattle.tenant_core.specs.Limits.{max_holds, max_journal}
use Rattle.tenant_core.specs.declared.hold_table.HoldTable.TheInside.{Inside}

-- what contracts see of it
abbrev pub table_of : Inside → Table
table_of t = record { holds = t.holds.items; room = t.room; awaiting = t.awaiting.items }

-- there is room for all that may come, and the table has the places of the open holds
pub record IsHoldTable (t : Inside) : Type 0 where
  pub small : t.room ≤ max_journal
  pub room : t.room ≤ vec_capacity t.holds
  pub slots_room : t.room ≤ vec_capacity t.slots
  pub awaiting_room : max_holds ≤ vec_capacity t.awaiting
  pub few : length t.holds.items ≤ t.room
  pub few_awaiting : length t.awaiting.items ≤ max_holds
  pub indexed : IsIndexed t.holds.items t.awaiting.items t.slots.items
