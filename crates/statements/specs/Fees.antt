-- The fees that a tenant keeps of packets that go on.
use Rattle.std.specs.Prelude.{ℕ, Bool, true, false, List, [], ◌∷◌, ◌++◌, Option, Some, None, if◌then◌else◌}
use Rattle.route_table.specs.Routes.{best_route}
use Rattle.route_table.specs.declared.hop.Hop.{Hop}
use Rattle.tenant_core.specs.Present.{network_of}
use Rattle.tenant_core.specs.State.{State, opened, recorded}
use Rattle.tenant_core.specs.declared.journal.Entry.{Entry}
use Rattle.tenant_core.specs.declared.journal.Entry.TheVariants.{Decide}
use Rattle.tenant_core.specs.declared.journal.Outcome.{Outcome}
use Rattle.tenant_core.specs.declared.journal.Outcome.TheVariants.{Packet}
use Rattle.tenant_core.specs.declared.journal.Record.{Record}
use Rattle.tenant_core.specs.declared.verdict.Verdict.TheVariants.{Forward}

-- the fee of a hop, if there is one
abbrev pub hop_fee : Option Hop → ℕ
hop_fee None = 0
hop_fee (Some hop) = hop.fee

-- the fee of the best route of a packet's destination, as the routes are in a state
abbrev pub route_fee : State → Entry → ℕ
route_fee s (Decide d) = hop_fee (best_route (network_of s).routes d.destination)
route_fee s _ = 0

-- what an entry led to is that a packet goes on
abbrev pub goes_on : Outcome → Bool
goes_on (Packet (Forward hold peer amount expiry)) = true
goes_on _ = false

-- the fee that is kept if an entry led to that in a state: of a packet that goes on
abbrev pub fee_kept : State → Record → List ℕ
fee_kept s r = if goes_on r.outcome then route_fee s r.entry ∷ [] else []

-- the fees of the packets that went on by records that follow that state
abbrev pub fees_kept : State → List Record → List ℕ
fees_kept s [] = []
fees_kept s (r ∷ rs) = fee_kept s r ++ fees_kept (recorded s (Some r)) rs

-- the fees of the packets of a state that went on, one for each, in the order of their numbers
unfoldable pub fees_of : State → List ℕ
fees_of s = fees_kept (opened s.opening) s.records
