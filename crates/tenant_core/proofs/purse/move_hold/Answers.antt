use Rattle.std.proofs.Common.{◌≡◌, ◌<◌, ◌≤◌, ℕ, List, map, length, sym, ap, subst, ◌∙◌, arith, set, refl}
use Rattle.std.specs.List.{slice_get}
use Rattle.std.proofs.lemmas.List.{length-map}
use Rattle.money_core.specs.Account.{Account}
use Rattle.tenant_core.specs.ChangedAt.{changed_where}
use Rattle.tenant_core.specs.Ground.{state_on}
use Rattle.tenant_core.specs.Holds.{with_fate}
use Rattle.tenant_core.specs.Moves.{moving_out}
use Rattle.tenant_core.specs.Network.{Net}
use Rattle.tenant_core.specs.Running.{purse_by}
use Rattle.tenant_core.specs.State.{State}
use Rattle.tenant_core.specs.declared.hold.Fate.TheVariants.{Ended}
use Rattle.tenant_core.specs.declared.hold.Hold.{Hold}
use Rattle.tenant_core.specs.declared.peer.Peer.{Peer}
use Rattle.tenant_core.proofs.ChangedLists.{place_numbered_is, place_inside}
use Rattle.tenant_core.proofs.Moving.{are_moved, first_moved, moved_first, moved_out, made_at, held_enough_in, held_enough_out}
use Rattle.tenant_core.proofs.purse.move_hold.Goals as goal

pub move_in-requires-clause-held : goal.move_in-requires-clause-held
move_in-requires-clause-held c = λ i a e at.
    let s : State = state_on c.args.ground.now in
    let net : Net = c.args.ground.now.network.now in
    let h : Hold = c.args.hold.now in
    let made = made_at (purse_by s c.args.holds.now) net.peers i a (ap (λ xs. slice_get xs i) (sym c.requires.purses) ∙ at) in
    let p : Peer = made.0 in
    let is = place_numbered_is net h.from c.place_numbered.result c.requires.network c.place_numbered.ensures.inside c.place_numbered.ensures.value in
    let moved = are_moved p.number c.args.taken c.args.holds.now c.args.place h (Ended c.args.taken) c.requires.hold c.requires.held refl refl in
    let enough = held_enough_in p.number c.args.taken c.args.holds.now _ h moved (is.at i p e made.1.0) in
    subst (λ (x : Account). h.amount ≤ x.held_in) (sym made.1.1) enough

pub move_out-requires-clause-inside : goal.move_out-requires-clause-inside
move_out-requires-clause-inside c = λ i e.
    let s : State = state_on c.args.ground.now in
    let net : Net = c.args.ground.now.network.now in
    let h : Hold = c.args.hold.now in
    let sender = place_numbered_is net h.from c.place_numbered.result c.requires.network c.place_numbered.ensures.inside c.place_numbered.ensures.value in
    let ks : List Hold = set c.args.holds.now c.args.place (with_fate h (Ended c.args.taken)) in
    let half : c.move_in.new.purses.items ≡ map (moved_first s c.args.holds.now ks) net.peers
    = first_moved s c.args.taken c.args.holds.now c.args.place h (Ended c.args.taken) net.peers c.place_numbered.result _ _ c.requires.hold c.requires.held refl refl sender c.requires.purses c.move_in.ensures in
    let long : length c.move_in.new.purses.items ≡ length net.peers = ap length half ∙ length-map net.peers (moved_first s c.args.holds.now ks) in
    let there : i < length net.peers = place_inside net.peers c.place_numbered-2.result i c.place_numbered-2.ensures.inside e in
    omega arith

pub move_out-requires-clause-held : goal.move_out-requires-clause-held
move_out-requires-clause-held c = λ i a e at.
    let s : State = state_on c.args.ground.now in
    let net : Net = c.args.ground.now.network.now in
    let h : Hold = c.args.hold.now in
    let sender = place_numbered_is net h.from c.place_numbered.result c.requires.network c.place_numbered.ensures.inside c.place_numbered.ensures.value in
    let receiver = place_numbered_is net h.to c.place_numbered-2.result c.requires.network c.place_numbered-2.ensures.inside c.place_numbered-2.ensures.value in
    let ks : List Hold = set c.args.holds.now c.args.place (with_fate h (Ended c.args.taken)) in
    let half : c.move_in.new.purses.items ≡ map (moved_first s c.args.holds.now ks) net.peers
    = first_moved s c.args.taken c.args.holds.now c.args.place h (Ended c.args.taken) net.peers c.place_numbered.result _ _ c.requires.hold c.requires.held refl refl sender c.requires.purses c.move_in.ensures in
    let made = made_at (moved_first s c.args.holds.now ks) net.peers i a (ap (λ xs. slice_get xs i) (sym half) ∙ at) in
    let p : Peer = made.0 in
    let moved = are_moved p.number c.args.taken c.args.holds.now c.args.place h (Ended c.args.taken) c.requires.hold c.requires.held refl refl in
    let enough = held_enough_out p.number c.args.taken c.args.holds.now _ h moved (receiver.at i p e made.1.0) in
    subst (λ (x : Account). h.price ≤ x.held_out) (sym made.1.1) enough

pub returns : goal.returns
returns c = λ fate none takes.
    let s : State = state_on c.args.ground.now in
    let net : Net = c.args.ground.now.network.now in
    let h : Hold = c.args.hold.now in
    let sender = place_numbered_is net h.from c.place_numbered.result c.requires.network c.place_numbered.ensures.inside c.place_numbered.ensures.value in
    let receiver = place_numbered_is net h.to c.place_numbered-2.result c.requires.network c.place_numbered-2.ensures.inside c.place_numbered-2.ensures.value in
    let ks : List Hold = set c.args.holds.now c.args.place (with_fate h fate) in
    let moves = λ (n : ℕ). are_moved n c.args.taken c.args.holds.now c.args.place h fate c.requires.hold c.requires.held none takes in
    c.move_out.ensures
    ∙ (ap (λ xs. changed_where (moving_out c.args.taken h.price) xs c.place_numbered-2.result)
    (first_moved s c.args.taken c.args.holds.now c.args.place h fate net.peers c.place_numbered.result _ _ c.requires.hold c.requires.held none takes sender c.requires.purses c.move_in.ensures)
    ∙ moved_out s c.args.taken c.args.holds.now ks h net.peers c.place_numbered-2.result moves receiver)
