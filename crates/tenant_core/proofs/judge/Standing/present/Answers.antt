use Rattle.std.proofs.Common.{◌≡◌, sym, ap, ◌∙◌}
use Rattle.std.specs.Prelude.{Some, option_map}
use Rattle.tenant_core.specs.Network.{peer_numbered}
use Rattle.tenant_core.specs.Standing.{peer_of}
use Rattle.tenant_core.proofs.ChangedLists.{numbered}
use Rattle.tenant_core.proofs.judge.Standing.present.Goals as goal

pub returns-clause-number : goal.returns-clause-number
returns-clause-number c =
    let found : peer_numbered c.args.number c.args.self.now.network.now.peers ≡ Some (peer_of c.unwrap.result)
    = sym c.numbered.ensures.peer ∙ ap (option_map peer_of) c.unwrap.ensures in
    numbered c.args.number c.args.self.now.network.now.peers (peer_of c.unwrap.result) found
