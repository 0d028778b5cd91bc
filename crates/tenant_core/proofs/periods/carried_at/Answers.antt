use Rattle.std.proofs.Common.{◌≡◌, ℕ, sym, ap, ◌∙◌}
use Rattle.std.specs.Prelude.{Some, Option, option_map}
use Rattle.rate_bucket.specs.Bucket.{credit_at}
use Rattle.money_core.specs.Account.{Account}
use Rattle.tenant_core.specs.Bucket.{stretch_of}
use Rattle.tenant_core.specs.Periods.{carried}
use Rattle.tenant_core.specs.Purse.{balance_of}
use Rattle.tenant_core.specs.Standing.{state_shown, peer_of}
use Rattle.tenant_core.specs.State.{State}
use Rattle.tenant_core.specs.declared.peer.Peer.{Peer}
use Rattle.tenant_core.specs.declared.terms.PeerTerms.{PeerTerms}
use Rattle.tenant_core.proofs.periods.carried_at.Goals as goal

pub returns : goal.returns
returns c =
    let s : State = state_shown c.args.standing.now in
    let p : Peer = peer_of c.party-party.result in
    let clock : ℕ = c.args.clock in
    let owed : balance_of s p.number ≡ c.balance_of.result = sym (c.balance_of.ensures ∙ ap (λ (a : Account). a.balance) c.party-party.ensures.kept.purse) in
    let credit : credit_at (stretch_of s p) clock ≡ c.credit.result = sym (c.credit.ensures.stretch (stretch_of s p) c.party-party.ensures.kept.bucket.stretch) in
    let terms : p.terms ≡ c.in_ok-share.field-0 = sym c.in_ok-share.ensures in
    ap (option_map (carried s clock)) c.party-party.ensures.peer
    ∙ (ap (λ b. let o : Option Peer = Some (record p { balance = b; bucket = record { credit = credit_at (stretch_of s p) clock; clock = clock; entries = 0 } }) in o) owed
    ∙ (ap (λ k. let o : Option Peer = Some (record p { balance = c.balance_of.result; bucket = record { credit = k; clock = clock; entries = 0 } }) in o) credit
    ∙ ap (λ (t : PeerTerms). let o : Option Peer = Some (record p { terms = t; balance = c.balance_of.result; bucket = record { credit = c.credit.result; clock = clock; entries = 0 } }) in o) terms))
