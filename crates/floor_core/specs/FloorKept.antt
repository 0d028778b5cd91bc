-- What contracts see of a floor.
use Rattle.floor_core.specs.FloorView.{FloorState, IsWhole}
use Rattle.floor_core.specs.declared.floor.Floor.TheInside.{Inside}

-- its parts
abbrev pub parts_of : Inside → FloorState
parts_of f = f.parts

-- they fit each other, and so does each tenant's
abbrev pub IsSteady : Inside → Type 0
IsSteady f = IsWhole f.parts
