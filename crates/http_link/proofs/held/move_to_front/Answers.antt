use Rattle.http_link.proofs.Rooms.{moved_front}
use Rattle.http_link.proofs.held.move_to_front.Goals as goal

pub returns-clause-same : goal.returns-clause-same
returns-clause-same c =
    moved_front c.args.room.now c.copy_within.new.self c.args.held.now c.requires.within.0 c.requires.within.1 c.copy_within.ensures.after
