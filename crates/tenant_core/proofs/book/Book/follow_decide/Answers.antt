use Rattle.std.proofs.Common.{◌≡◌, ℕ, true, false, ap, sym, subst, ◌∙◌}
use Rattle.std.specs.Prelude.{Bool, Some, None, cond}
use Rattle.tenant_core.specs.declared.journal.DecideEntry.{DecideEntry}
use Rattle.tenant_core.specs.declared.journal.Entry.TheVariants.{Decide}
use Rattle.tenant_core.specs.declared.journal.Outcome.TheVariants.{Packet}
use Rattle.tenant_core.specs.declared.peer.Peer.{Peer}
use Rattle.tenant_core.specs.declared.terms.PeerTerms.{PeerTerms}
use Rattle.tenant_core.specs.Judge.{decided, is_full, judge}
use Rattle.tenant_core.specs.Key.{Key}
use Rattle.tenant_core.specs.Network.{Net, IsNetwork, peer_numbered}
use Rattle.tenant_core.specs.Present.{network_of}
use Rattle.tenant_core.specs.Reopening.{followed}
use Rattle.tenant_core.specs.Replay.{is_sayable, key_entered}
use Rattle.tenant_core.specs.State.{State}
use Rattle.tenant_core.proofs.Followings.{decided_follows}
use Rattle.tenant_core.proofs.book.Book.follow_decide.Goals as goal

-- what passes a test is what was tested
passes : (b : Bool) (x y : ℕ) → Some x ≡ cond b (Some y) None → x ≡ y
passes true x y e = cc
passes false x y e = absurd cc

pub returns : goal.returns
returns c =
    let s : State = c.args.self.now in
    let d : DecideEntry = c.args.decide.now in
    let p : Peer = c.in-Some.peer.now in
    let net : c.self.inside.network ≡ network_of s = c.self.invariant.network ∙ ap network_of c.self.view_is in
    let network : IsNetwork (network_of s) = subst (λ (t : State). IsNetwork (network_of t)) c.self.view_is c.self.invariant.sound.network in
    let found : peer_numbered d.peer (network_of s).peers ≡ Some p = sym (c.in-Some.ensures ∙ ap (λ (n : Net). peer_numbered d.peer n.peers) net) in
    let room : is_full s ≡ false = ap is_full (sym c.standing.ensures.state) ∙ (sym c.is_full.ensures ∙ c.if-is_full.false) in
    let expiry : c.in_ok-expiry.expiry ≡ d.expiry = passes _ _ _ c.in_ok-expiry.ensures in
    let destination : c.in-Ok.destination ≡ d.destination = c.in-Ok.ensures.found.1 ∙ c.as_slice.ensures in
    let key : Key = record { amount = d.amount; expiry = c.in_ok-expiry.expiry; condition = d.condition; destination = c.in-Ok.destination } in
    let same : key ≡ key_entered d = λ i. record { amount = d.amount; expiry = expiry i; condition = d.condition; destination = destination i } in
    let sayable : is_sayable (key_entered d) ≡ true = ap is_sayable (sym same) ∙ c.is_sayable.ensures.sayable in
    let token = c.as_bytes.ensures.value ∙ c.copy-token.ensures ∙ ap (λ (t : PeerTerms). t.token) c.deref.ensures in
    let step = decided_follows s d p network found room sayable in
    let verdict : c.decide-verdict.result ≡ judge s p.terms.token (key_entered d) d.now =
    c.decide-verdict.ensures.verdict
    ∙ (ap (λ t. judge s t key c.args.now) token
    ∙ (ap (λ (k : Key). judge s p.terms.token k c.args.now) same ∙ ap (λ n. judge s p.terms.token (key_entered d) n) c.requires)) in
    let after : c.decide-verdict.new.self ≡ decided s p.terms.token (key_entered d) d.now =
    c.decide-verdict.ensures.records
    ∙ (ap (λ t. decided s t key c.args.now) token
    ∙ (ap (λ (k : Key). decided s p.terms.token k c.args.now) same ∙ ap (λ n. decided s p.terms.token (key_entered d) n) c.requires)) in (
      ap (λ v. Some (Packet v)) verdict ∙ step.0,
      after ∙ (step.1 ∙ ap (λ v. followed s (Decide d) (Some (Packet v))) (sym verdict)),
    )
