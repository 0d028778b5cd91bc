use Rattle.subcommands.proofs.recovering.reopened.Goals as goal

pub returns-clause-written : goal.returns-clause-written
returns-clause-written c = rw c.whole_lines.ensures.lines at c.reopen.ensures.written

pub returns-clause-refused : goal.returns-clause-refused
returns-clause-refused c = rw c.whole_lines.ensures.lines at c.reopen.ensures.refused
