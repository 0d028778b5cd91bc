use Rattle.std.proofs.Common.{rules, ◌<◌, length, sym}
use Rattle.tenant_core.specs.Network.{Net}
use Rattle.tenant_core.specs.Nets.{net_of}
use Rattle.tenant_core.proofs.Tokens.{tokens_apart, token_within, token_here, token_nowhere}
use Rattle.tenant_core.proofs.network.Network.place_with_token.Goals as goal

pub returns-in-Ok : goal.returns-in-Ok
returns-in-Ok c =
    let net : Net = net_of c.self.inside in
    let p = c.index.result.now in
    let within : c.in-Ok.at < length c.self.inside.by_token.items = search rules in
    let found = rw (c.deref.ensures.value, c.deref-2.ensures.value) at (c.in-Ok.ensures.position p) in
    rw (← c.self.view_is)
    (record {
      inside = token_within net.peers c.self.inside.by_token.items c.self.invariant.tokens c.in-Ok.at p within c.index.ensures;
      value = token_here net.peers c.self.inside.by_token.items c.self.invariant.tokens c.args.token.now (tokens_apart net c.self.invariant.network) c.in-Ok.at p within c.index.ensures found;
    })

pub returns-in-Err : goal.returns-in-Err
returns-in-Err c =
    let net : Net = net_of c.self.inside in
    let searched = rw (c.deref.ensures.value, c.deref-2.ensures.value) at c.in-Err.ensures.position in
    let nowhere = token_nowhere net.peers c.self.inside.by_token.items c.self.invariant.tokens c.args.token.now c.in-Err.field-0 searched in
    rw (← c.self.view_is) (record { inside = search rules; value = sym nowhere })
