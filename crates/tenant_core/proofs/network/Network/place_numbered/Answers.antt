use Rattle.tenant_core.proofs.Numbers.{numbered_place}
use Rattle.tenant_core.proofs.network.Network.place_numbered.Goals as goal

pub returns-clause-value : goal.returns-clause-value
returns-clause-value c =
    let peers = c.self.inside.peers.items in
    let within = rw c.deref.ensures.value at c.search_number.ensures.range in
    let searched = rw c.deref.ensures.value at c.search_number.ensures.position in
    let place = numbered_place peers c.self.invariant.network.rising c.args.number c.search_number.result within searched in
    rw (← c.self.view_is, c.ok.ensures.value) place
