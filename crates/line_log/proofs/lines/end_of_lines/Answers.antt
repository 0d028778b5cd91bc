use Rattle.std.proofs.Common.{sym, ◌∙◌}
use Rattle.line_log.proofs.Recovering.{whole_at_zero, whole_at_end, whole_of}
use Rattle.line_log.proofs.lines.end_of_lines.Goals as goal

pub returns-then-byte-eq0-clause-end : goal.returns-then-byte-eq0-clause-end
returns-then-byte-eq0-clause-end c =
    sym (whole_at_zero c.loop-rest.at c.loop-rest.end c.loop-rest.rest.now c.in-len1-up.len_at_least c.if-byte-eq0.true)
    ∙ c.loop-rest.invariant.scanned ∙ whole_of c.args.bytes.now

pub returns-clause-end : goal.returns-clause-end
returns-clause-end c =
    sym (whole_at_end c.loop-rest.at c.loop-rest.end c.loop-rest.rest.now c.in_default.len_below)
    ∙ c.loop-rest.invariant.scanned ∙ whole_of c.args.bytes.now
