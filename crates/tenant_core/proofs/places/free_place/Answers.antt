use Rattle.std.proofs.Common.{ap, not, sym, ◌∙◌}
use Rattle.tenant_core.proofs.Tokens.{present_name, free_at}
use Rattle.tenant_core.proofs.places.free_place.Goals as goal

pub returns-then-has_name : goal.returns-then-has_name
returns-then-has_name c =
    let present = present_name c.args.peers.now c.args.terms.now (sym c.has_name.ensures ∙ c.if-has_name.true) in
    record { free = sym (ap not present); place = tt }

pub returns : goal.returns
returns c =
    let unnamed = sym c.has_name.ensures ∙ c.if-has_name.false in
    let searched = rw c.as_bytes.ensures.value at c.search_token.ensures.position in
    let free = free_at c.args.peers.now c.args.order.now c.requires c.args.terms.now unnamed c.search_token.result c.search_token.ensures.range searched in
    rw c.err.ensures.value (record { free = free.0; place = free.1 })
