use Rattle.admin_text.proofs.Spelled.{written_is_spelled}
use Rattle.admin_text.proofs.written.write_command.Goals as goal

pub returns-clause-written : goal.returns-clause-written
returns-clause-written c = (written_is_spelled c.prefix_words.ensures c.args.command.now c.in_ok-text.text.items c.in_ok-text.ensures).0

pub returns-clause-spelled : goal.returns-clause-spelled
returns-clause-spelled c = (written_is_spelled c.prefix_words.ensures c.args.command.now c.in_ok-text.text.items c.in_ok-text.ensures).1
