use Rattle.std.proofs.Common.{rules}
use Rattle.service.specs.Hidden.{ended_line}
use Rattle.service.proofs.Parting.{line_put, last_put}
use Rattle.service.proofs.operators.hidden.hidden_text.Goals as goal

pub loop-line-preserved : goal.loop-line-preserved
loop-line-preserved c =
    line_put ended_line 10 c.loop-line.text.items c.loop-line.rest.now c.in-Some.line.now c.in-Some.after.now c.put_line.new.text.items _
    (c.in-Some.ensures.value) c.in_ok-put_line.ensures c.loop-line.invariant

pub returns : goal.returns
returns c =
    last_put ended_line 10 c.loop-line.text.items c.loop-line.rest.now c.put_line-2.new.text.items _
    (search (rules, c.in_default.ensures.value)) c.in_ok-put_line-2.ensures c.loop-line.invariant
