use Rattle.std.proofs.Common.{◌+◌, length}
use Rattle.http_link.proofs.Heads.{none_begins_on}
use Rattle.http_link.proofs.head.is_malformed.Goals as goal

pub returns-in-Malformed-clause-none : goal.returns-in-Malformed-clause-none
returns-in-Malformed-clause-none g c is =
    none_begins_on g.H.HeadSpans.grammar c.args.text.now (c.in-Some.place + 1) (length c.args.lines.now) c.in-Malformed.ensures.decides
