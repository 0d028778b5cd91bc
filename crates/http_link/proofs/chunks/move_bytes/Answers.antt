use Rattle.std.proofs.Common.{◌+◌, ◌-◌, arith}
use Rattle.http_link.proofs.ChunkedBodies.{left_behind, moved_behind}
use Rattle.http_link.proofs.chunks.move_bytes.Goals as goal

pub returns-clause-moved : goal.returns-clause-moved
returns-clause-moved c =
    let h = c.args.held.now in
    let k = c.min-moved.result in
    moved_behind c.args.room.now c.copy_within.new.self h c.args.done k (h.from + k - h.from) c.requires.lies.behind c.requires.lies.ordered c.requires.lies.within (omega arith) (omega arith) c.copy_within.ensures.after

pub returns-clause-rest : goal.returns-clause-rest
returns-clause-rest c =
    let h = c.args.held.now in
    let k = c.min-moved.result in
    left_behind c.args.room.now c.copy_within.new.self h c.args.done k (h.from + k - h.from) c.requires.lies.behind c.requires.lies.ordered c.requires.lies.within (omega arith) (omega arith) c.copy_within.ensures.after
