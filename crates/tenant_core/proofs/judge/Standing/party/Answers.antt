use Rattle.std.proofs.Common.{◌≡◌, ◌<◌, length, subst, rules, sym, ap, ◌∙◌}
use Rattle.std.specs.Prelude.{Some}
use Rattle.std.specs.List.{slice_get}
use Rattle.tenant_core.specs.Network.{Net}
use Rattle.tenant_core.specs.Present.{network_of}
use Rattle.tenant_core.specs.Running.{IsLevel}
use Rattle.tenant_core.specs.Standing.{state_shown}
use Rattle.tenant_core.specs.State.{State}
use Rattle.tenant_core.proofs.ChangedLists.{read_at}
use Rattle.tenant_core.proofs.Runnings.{purse_at, level_at}
use Rattle.tenant_core.proofs.judge.Standing.party.Goals as goal

pub returns-clause-kept : goal.returns-clause-kept
returns-clause-kept c =
    let s : State = state_shown c.args.self.now in
    let net : c.args.self.now.network.now ≡ network_of s = c.requires.shown.network in
    let inside : c.args.place < length (network_of s).peers = subst (λ (n : Net). c.args.place < length n.peers) net c.requires.inside in
    let peers : c.peers.result.now ≡ (network_of s).peers = search (rules, net) in
    let there : c.args.place < length c.peers.result.now = rw peers inside in
    let peer : slice_get (network_of s).peers c.args.place ≡ Some c.index-peers-place.result = ap (λ ps. slice_get ps c.args.place) (sym peers) ∙ read_at c.peers.result.now c.args.place c.index-peers-place.result there c.index-peers-place.is in
    record {
      purse = sym c.index-self-place.is ∙ purse_at s (network_of s).peers c.args.self.now.purses.now c.args.place c.index-peers-place.result c.index-self-place.result peer c.requires.shown.purses c.index-self-place.is;
      bucket = subst (λ l. IsLevel s c.index-peers-place.result l) c.index-self-place-2.is (level_at s (network_of s).peers c.args.self.now.buckets.now c.args.place c.index-peers-place.result c.index-self-place-2.result inside peer c.requires.shown.buckets c.index-self-place-2.is);
    }
