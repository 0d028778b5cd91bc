use Rattle.std.proofs.Common.{length}
use Rattle.httparse.specs.Grammar.{HasNoResponse}
use Rattle.http_link.proofs.Grammars.{reply_goes_on}
use Rattle.http_link.proofs.grammar.ResponseSpansHeadSpans.parse.Goals as goal

pub returns-in-Ok-Partial-clause-decides : goal.returns-in-Ok-Partial-clause-decides
returns-in-Ok-Partial-clause-decides c =
    let none : HasNoResponse c.args.text.now = rw c.in-Ok-Partial.field-0-is at c.in-Ok-Partial.ensures.partial in
    reply_goes_on c.args.text.now (length c.args.lines.now) none
