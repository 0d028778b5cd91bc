use Rattle.std.proofs.Common.{◌≤◌, arith}
use Rattle.money_core.proofs.laws.one_price.Goals as goal

pub returns-clause-greatest : goal.returns-clause-greatest
returns-clause-greatest c = λ f limit max a b g h.
    let below : a ≤ b = h.greatest a g.within g.price_fits in
    let above : b ≤ a = g.greatest b h.within h.price_fits in
    omega arith
