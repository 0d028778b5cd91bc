use Rattle.std.proofs.Common.{rules, inl, ap, subst, ◌∙◌}
use Rattle.http_link.specs.Client.{Means, given}
use Rattle.http_link.specs.Counts.{MadeMore}
use Rattle.http_link.specs.Limits.{max_heads, max_turns}
use Rattle.http_link.proofs.Counting.{spent_all}
use Rattle.http_link.proofs.posting.post.Goals as goal

pub returns-clause-exact : goal.returns-clause-exact
returns-clause-exact g c stream e not_read not_write not_turns =
    subst (λ out. Means max_heads stream (given c.read_answer.result out)) (search rules)
    (c.read_answer.ensures.means stream (ap g.R.Read.remaining c.new.ensures.reader.1 ∙ e) not_read not_turns)

pub returns-clause-turns : goal.returns-clause-turns
returns-clause-turns g c told =
    let made : MadeMore g.R.Source.was_read c.args.r.now c.read_answer.new.stream.reader.now max_turns =
    spent_all g.R.Source.was_read c.args.r.now c.read_answer.new.stream.reader.now max_turns c.read_answer.new.stream.turns (search rules) (c.read_answer.ensures.reports.spent told) in
    inl (subst (λ r. MadeMore g.R.Source.was_read c.args.r.now r max_turns) (search rules) made)
