use Rattle.std.proofs.Common.{◌+◌, sym, ◌∙◌}
use Rattle.std.proofs.lemmas.List.{take_rest}
use Rattle.statements.proofs.WordLaws.{line_found, line_none}
use Rattle.statements.proofs.words.Lines.next.Goals as goal

pub returns-in_err-end : goal.returns-in_err-end
returns-in_err-end c =
    rw c.from_residual.ensures (line_none c.args.self.now.rest.now (sym c.first_line_feed.ensures ∙ c.in_err-end.was))

pub returns : goal.returns
returns c =
    rw (take_rest c.args.self.now.rest.now (c.in_ok-end.end + 1))
    (line_found c.args.self.now.rest.now c.in_ok-end.end (sym c.first_line_feed.ensures ∙ c.in_ok-end.was))
