use Rattle.httparse.specs.Grammar.{ChunkLine}
use Rattle.httparse.specs.Spans.{IsChunkLineAt}
use Rattle.http_link.proofs.ChunkedBodies.{never_line, other_line}
use Rattle.http_link.proofs.chunks.size_in.Goals as goal

pub returns-else-len-text : goal.returns-else-len-text
returns-else-len-text c =
    let at : (l : ChunkLine) × IsChunkLineAt c.args.text.now c.in-Ok-Complete.len c.in-Ok-Complete.size l = rw c.in-Ok-Complete.field-0-is at c.in-Ok-Complete.ensures.complete in
    other_line c.args.text.now c.in-Ok-Complete.len c.in-Ok-Complete.size at.0 at.1 c.if-len-text.false

pub returns-in-Err : goal.returns-in-Err
returns-in-Err c = never_line c.args.text.now c.in-Err.ensures.invalid
