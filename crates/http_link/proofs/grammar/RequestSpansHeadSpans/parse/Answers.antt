use Rattle.std.proofs.Common.{length}
use Rattle.httparse.specs.Grammar.{HasNoRequest}
use Rattle.http_link.proofs.Grammars.{request_goes_on}
use Rattle.http_link.proofs.grammar.RequestSpansHeadSpans.parse.Goals as goal

pub returns-in-Ok-Partial-clause-decides : goal.returns-in-Ok-Partial-clause-decides
returns-in-Ok-Partial-clause-decides c =
    let none : HasNoRequest c.args.text.now = rw c.in-Ok-Partial.field-0-is at c.in-Ok-Partial.ensures.partial in
    request_goes_on c.args.text.now (length c.args.lines.now) none
