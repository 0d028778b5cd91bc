-- What stays as it is while amounts move.
use Rattle.tenant_core.specs.State.{State}
use Rattle.tenant_core.specs.declared.ground.Ground.{Ground}

-- the state that it is of
abbrev pub state_on : Ground → State
state_on g = record { opening = g.opening.now; records = g.journal.now.records }
