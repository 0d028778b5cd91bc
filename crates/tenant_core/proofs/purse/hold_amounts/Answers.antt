use Rattle.std.proofs.Common.{◌≡◌, ◌<◌, map, length, false, sym, ap, ◌∙◌, arith}
use Rattle.std.specs.Prelude.{Some}
use Rattle.std.specs.List.{slice_get}
use Rattle.std.proofs.lemmas.List.{length-map}
use Rattle.money_core.specs.Account.{is_past_credit}
use Rattle.tenant_core.specs.ChangedAt.{changed_where}
use Rattle.tenant_core.specs.Ground.{state_on}
use Rattle.tenant_core.specs.Moves.{holding_in, holding_out}
use Rattle.tenant_core.specs.Network.{Net, peer_numbered}
use Rattle.tenant_core.specs.Running.{purse_by}
use Rattle.tenant_core.specs.State.{State}
use Rattle.tenant_core.specs.declared.hold.Hold.{Hold}
use Rattle.tenant_core.specs.declared.peer.Peer.{Peer}
use Rattle.tenant_core.proofs.ChangedLists.{place_numbered_is, place_inside, stands_at}
use Rattle.tenant_core.proofs.Moving.{held_first, held_in_more, held_out_more, made_at}
use Rattle.tenant_core.proofs.purse.hold_amounts.Goals as goal

-- the purses once the sender's holds the amount
halfway : (c : goal.After-place_numbered-2) → c.hold_in.new.purses.items
    ≡ map (held_first (state_on c.args.ground.now) c.args.holds.now c.args.hold.now) c.args.ground.now.network.now.peers
halfway c =
    let s : State = state_on c.args.ground.now in
    let net : Net = c.args.ground.now.network.now in
    let h : Hold = c.args.hold.now in
    let sender = place_numbered_is net h.from c.place_numbered.result c.requires.network c.place_numbered.ensures.inside c.place_numbered.ensures.value in
    c.hold_in.ensures
    ∙ (ap (λ xs. changed_where (holding_in h.amount) xs c.place_numbered.result) c.requires.purses
    ∙ held_in_more s c.args.holds.now h net.peers c.place_numbered.result c.requires.held sender)

pub hold_out-requires-clause-inside : goal.hold_out-requires-clause-inside
hold_out-requires-clause-inside c = λ i e.
    let net : Net = c.args.ground.now.network.now in
    let long : length c.hold_in.new.purses.items ≡ length net.peers
    = ap length (halfway c) ∙ length-map net.peers (held_first (state_on c.args.ground.now) c.args.holds.now c.args.hold.now) in
    let there : i < length net.peers = place_inside net.peers c.place_numbered-2.result i c.place_numbered-2.ensures.inside e in
    omega arith

pub hold_out-requires-clause-within : goal.hold_out-requires-clause-within
hold_out-requires-clause-within c = λ i a e at.
    let s : State = state_on c.args.ground.now in
    let net : Net = c.args.ground.now.network.now in
    let h : Hold = c.args.hold.now in
    let made = made_at (held_first s c.args.holds.now h) net.peers i a (ap (λ xs. slice_get xs i) (sym (halfway c)) ∙ at) in
    let p : Peer = made.0 in
    let found : peer_numbered h.to net.peers ≡ Some p = stands_at net.peers (peer_numbered h.to net.peers) c.place_numbered-2.result i p e c.place_numbered-2.ensures.value made.1.0 in
    let good : is_past_credit (purse_by s c.args.holds.now p) h.price ≡ false = c.requires.receiver p found in
    ap (λ x. is_past_credit x h.price) made.1.1 ∙ good

pub returns : goal.returns
returns c =
    let s : State = state_on c.args.ground.now in
    let net : Net = c.args.ground.now.network.now in
    let h : Hold = c.args.hold.now in
    let sender = place_numbered_is net h.from c.place_numbered.result c.requires.network c.place_numbered.ensures.inside c.place_numbered.ensures.value in
    let receiver = place_numbered_is net h.to c.place_numbered-2.result c.requires.network c.place_numbered-2.ensures.inside c.place_numbered-2.ensures.value in
    let half : c.hold_in.new.purses.items ≡ map (held_first s c.args.holds.now h) net.peers
    = c.hold_in.ensures
    ∙ (ap (λ xs. changed_where (holding_in h.amount) xs c.place_numbered.result) c.requires.purses
    ∙ held_in_more s c.args.holds.now h net.peers c.place_numbered.result c.requires.held sender) in
    c.hold_out.ensures
    ∙ (ap (λ xs. changed_where (holding_out h.price) xs c.place_numbered-2.result) half
    ∙ held_out_more s c.args.holds.now h net.peers c.place_numbered-2.result c.requires.held receiver)
