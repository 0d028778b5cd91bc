use Rattle.std.proofs.Common.{◌≡◌, ◌∙◌, rules, ap}
use Rattle.service.specs.Metrics.{figures_of}
use Rattle.service.proofs.host.hosting.GaugedGauges.book.Goals as goal

pub returns : goal.returns
returns g c =
    let book : c.book.result.now ≡ c.enter-guard.result.state = search rules in
    (c.enter-guard.result.state, c.enter-guard.ensures.own, c.figures_of.ensures ∙ ap figures_of book)
