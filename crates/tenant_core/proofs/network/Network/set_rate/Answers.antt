use Rattle.std.proofs.Common.{◌≡◌, List, None, ap, rules, subst, sym, ◌∙◌}
use Rattle.std.specs.Prelude.{IsSome}
use Rattle.tenant_core.specs.declared.terms.RateTerms.{RateTerms}
use Rattle.tenant_core.specs.Network.{Net, peer_numbered, rate_refusal}
use Rattle.tenant_core.specs.Nets.{net_of}
use Rattle.tenant_core.proofs.Networks.{with_rate_is, is_network}
use Rattle.tenant_core.proofs.Pairs.{rate_room}
use Rattle.tenant_core.proofs.network.Network.set_rate.Goals as goal

pub invariant_of-self-2 : goal.invariant_of-self-2
invariant_of-self-2 c =
    let net : Net = net_of c.self.inside in
    let r : RateTerms = c.args.rate.now in
    let others : List RateTerms → Net = λ rs. record net { rates = rs } in
    let from = subst (λ (n : Net). IsSome (peer_numbered r.from n.peers)) (sym c.self.view_is) c.requires.from in
    let to = subst (λ (n : Net). IsSome (peer_numbered r.to n.peers)) (sym c.self.view_is) c.requires.to in
    let none : rate_refusal c.args.self.now r ≡ None = search rules in
    let free : rate_refusal net r ≡ None = ap (λ (n : Net). rate_refusal n r) c.self.view_is ∙ none in
    record {
      network = is_network _ _ (ap others c.in_ok-set.ensures.set) (with_rate_is net r c.self.invariant.network from to c.requires.apart (rate_room net r free));
      tokens = c.self.invariant.tokens;
    }
