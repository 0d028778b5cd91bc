use Rattle.std.proofs.Common.{rules, ◌≡◌, ◌<◌, List, ap, get_or, length, sym, ◌∙◌}
use Rattle.std.proofs.lemmas.List.{get_or_default}
use Rattle.tenant_core.specs.declared.peer.Peer.{Peer}
use Rattle.tenant_core.specs.declared.terms.PeerTerms.{PeerTerms}
use Rattle.tenant_core.proofs.ChangedLists.{changed_here}
use Rattle.tenant_core.proofs.network.change_limits.Goals as goal

pub returns-clause-changed : goal.returns-clause-changed
returns-clause-changed c =
    let peers : List Peer = c.args.peers.now.items in
    let p : Peer = c.index_mut.result.now in
    let change : Peer → Peer = λ q. record q { terms = record q.terms { limits = c.args.limits.now } } in
    let with_terms : PeerTerms → Peer = λ t. record p { terms = t } in
    let read : p ≡ get_or peers c.in-Some.place p = c.index_mut.ensures.value in
    let within : c.in-Some.place < length peers = search rules in
    let same : c.index.result.now ≡ p = c.index.ensures ∙ get_or_default peers c.in-Some.place c.index.result.now p within ∙ sym read in
    let terms : c.in_ok-terms.terms ≡ record p.terms { limits = c.args.limits.now } =
    c.in_ok-terms.ensures ∙ (c.with_limits-terms.ensures ∙ ap (λ (t : PeerTerms). record t { limits = c.args.limits.now }) (c.deref.ensures ∙ ap (λ (q : Peer). q.terms) same)) in
    changed_here change peers c.args.place c.in-Some.place p (with_terms c.in_ok-terms.terms) c.in-Some.is within read (ap with_terms terms)
