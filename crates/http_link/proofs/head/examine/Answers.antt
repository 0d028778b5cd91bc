use Rattle.std.proofs.Common.{◌-◌, List, ℕ, take, length, sym, ◌∙◌}
use Rattle.http_link.proofs.Heads.{goes_on_inside, last_behind}
use Rattle.http_link.proofs.head.examine.Goals as goal

pub returns-then-not-ends_empty_line-clause-decides : goal.returns-then-not-ends_empty_line-clause-decides
returns-then-not-ends_empty_line-clause-decides g c =
    let text : List ℕ = c.args.text.now in
    goes_on_inside g.H.HeadSpans.grammar g.met.H.HeadSpans.laws (take (length text - 1) text) text _ (length c.args.lines.now) (last_behind text c.requires.some) (sym c.ends_empty_line.ensures ∙ c.if-not-ends_empty_line.true) c.requires.inside
