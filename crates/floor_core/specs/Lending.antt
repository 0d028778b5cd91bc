-- A slot whose buffer is lent.
use Rattle.std.specs.Prelude.{ℕ, List}
use Rattle.std.specs.Borrow.{Array, MutBor, Fml, follows, u8}
use Rattle.floor_core.specs.Rooms.{refilled}
use Rattle.floor_core.specs.Work.{Work}
use Rattle.floor_core.specs.contracts.slot.Slot.{the_row}

-- a slot with other bytes in its buffer
abbrev pub with_room : Work → List ℕ → Work
with_room w room = record w { room = refilled w.room room }

-- the slot ends with what was written into its buffer
abbrev pub LendsRoom : MutBor Work → MutBor (List ℕ) → Fml
LendsRoom slot room = follows the_row (Array u8 0) slot.ghost_name room.ghost_name (with_room slot.now)
