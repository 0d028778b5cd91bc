use Rattle.std.proofs.Common.{refl}
use Rattle.tenant_core.specs.declared.opening.Opening.{Opening}
use Rattle.tenant_core.specs.Network.{IsNetwork}
use Rattle.tenant_core.proofs.Reopenings.{opening_within, opening_sound}
use Rattle.tenant_core.proofs.Rolls.{empty_kept, fresh_empty}
use Rattle.tenant_core.proofs.book.Book.begun.Goals as goal

pub invariant_of-result : goal.invariant_of-result
invariant_of-result c =
    let o : Opening = c.args.opening in
    let is = opening_within o c.requires in
    let network : IsNetwork o.network = c.is_network.ensures in
    empty_kept c.running.ensures _ (opening_sound o is network) network is.fresh
    (fresh_empty o o.clock c.in_ok-fresh.fresh refl c.in_ok-fresh.ensures)
