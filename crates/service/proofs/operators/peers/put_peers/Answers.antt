use Rattle.std.proofs.Common.{rules, ◌≡◌, ◌++◌, ◌∙◌, List, ℕ, refl, ap, sym, append_assoc}
use Rattle.std.proofs.lemmas.Result.{on_ok_weaker}
use Rattle.service.specs.PeerMetrics.{peers_head, peers_upto}
use Rattle.service.proofs.operators.peers.put_peers.Goals as goal

pub returns : goal.returns
returns c =
    let head : c.extend_from_slice.new.self.items ≡ c.args.text.now.items ++ peers_head = search rules in
    let lines : List ℕ = peers_upto c.args.tenant.now c.args.book.now c.bound.result in
    on_ok_weaker c.put_upto.result
    (λ put. (
      peers_head ++ lines,
      (c.bound.result, (λ n o beyond. sym (c.in_ok-packets.ensures n o) ∙ c.bound.ensures.none n o beyond), refl),
      put ∙ ap (λ (text : List ℕ). text ++ lines) head ∙ append_assoc c.args.text.now.items peers_head lines,
    ))
    c.put_upto.ensures
