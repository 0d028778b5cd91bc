use Rattle.std.proofs.Common.{rules, subst}
use Rattle.http_link.specs.Counts.{MadeMore}
use Rattle.http_link.specs.Limits.{max_turns}
use Rattle.http_link.proofs.Counting.{spent_all}
use Rattle.http_link.proofs.inbox.Inbox.await_more.Goals as goal

pub returns-in_err-n-clause-turns : goal.returns-in_err-n-clause-turns
returns-in_err-n-clause-turns g c told =
    let made : MadeMore g.R.Source.was_read c.args.r.now c.fetch.new.self.reader.now max_turns =
    spent_all g.R.Source.was_read c.args.r.now c.fetch.new.self.reader.now max_turns c.fetch.new.self.turns (search rules) (search rules) in
    subst (λ r. MadeMore g.R.Source.was_read c.args.r.now r max_turns) (search rules) made
