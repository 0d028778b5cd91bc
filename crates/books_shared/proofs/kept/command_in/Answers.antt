use Rattle.std.proofs.Common.{arith}
use Rattle.books_shared.proofs.Commanded.{governed_closes}
use Rattle.books_shared.proofs.Tracing.{governed_appends}
use Rattle.books_shared.proofs.kept.command_in.Goals as goal

pub returns-clause-number : goal.returns-clause-number
returns-clause-number c =
    rw (c.entries_closed-closed.ensures, c.entries-entries.ensures)
    (governed_closes c.command-answer.result c.args.command.now c.args.book.now c.command-answer.new.self c.args.now c.command-answer.ensures).number

pub returns-clause-most : goal.returns-clause-most
returns-clause-most c =
    rw (c.entries_closed-closed.ensures, c.entries-entries.ensures)
    ((governed_closes c.command-answer.result c.args.command.now c.args.book.now c.command-answer.new.self c.args.now c.command-answer.ensures).most
    (let sound = c.book_is_sound.ensures in let room = sound.room in let journal = sound.journal in omega arith))

pub returns-clause-appended : goal.returns-clause-appended
returns-clause-appended c =
    governed_appends c.command-answer.result c.args.command.now c.args.book.now c.command-answer.new.self c.args.now c.command-answer.ensures
