-- What contracts see of a floor's parts.
use Rattle.floor_core.specs.FloorView.{FloorState}
use Rattle.floor_core.specs.declared.floor.Parts.TheInside.{Inside}

-- the lists, wherever they lie in memory
abbrev pub floor_of_parts : Inside → FloorState
floor_of_parts p = record { seats = p.seats.items; books = p.books.items; next_calls = p.next_calls.items }
