use Rattle.std.proofs.Common.{sym}
use Rattle.floor_core.proofs.Governs.{refused}
use Rattle.floor_core.proofs.floor.governed.Goals as goal

pub returns-in_default : goal.returns-in_default
returns-in_default c =
    let r = refused c.what_stays.ensures c.in-Err.fault c.args.command.now c.args.book.now c.command.new.self c.args.now c.in_default.not-Memory c.in-Err.ensures.0 c.in-Err.ensures.1 in
    record { answer = sym r.answer; book = r.book; same = tt }
