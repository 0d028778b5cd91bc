-- All one-tenant connectors at once: the output of a step in a world, and the world after it.
use Rattle.std.specs.Prelude.{ℕ, List, [], ◌∷◌}
use Rattle.floor_core.specs.World.{Tenant, World, Owner, put, reply_alone, after_alone, owner, hands_after}
use Rattle.floor_core.specs.declared.step.Output.{Output}
use Rattle.floor_core.specs.declared.step.Step.{Step}

-- the output of a step, from its owner
abbrev pub says : World → Owner → Output
says w (Owner.Own t e) = reply_alone (w.tenants t) e
says w (Owner.Nobody output) = output

-- the tenants after the step
abbrev pub tenants_after : World → Owner → ℕ → Tenant
tenants_after w (Owner.Own t e) = put w.tenants t (after_alone (w.tenants t) e)
tenants_after w (Owner.Nobody output) = w.tenants

-- the output of a step
abbrev pub reply : World → Step → Output
reply w step = says w (owner w.hands step)

-- the world after it
abbrev pub world_after : World → Step → World
world_after w step =
    record { tenants = tenants_after w (owner w.hands step); hands = hands_after w.hands step (reply w step) }

-- the outputs of steps, one after the other
abbrev pub replies : World → List Step → List Output
replies w [] = []
replies w (s ∷ ss) = reply w s ∷ replies (world_after w s) ss

-- the world after them
abbrev pub after_all : World → List Step → World
after_all w [] = w
after_all w (s ∷ ss) = after_all (world_after w s) ss
