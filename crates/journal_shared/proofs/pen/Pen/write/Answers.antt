use Rattle.std.proofs.Common.{rules, ◌≡◌, ap, length, List, ℕ, [], subst}
use Rattle.std.proofs.lemmas.List.{nil_from_length}
use Rattle.journal_shared.specs.Kept.{AreLinesOfAll}
use Rattle.journal_shared.proofs.Commits.{written_if_ok, written_none}
use Rattle.journal_shared.proofs.pen.Pen.write.Goals as goal

pub returns-then-is_empty-clause-written : goal.returns-then-is_empty-clause-written
returns-then-is_empty-clause-written g c = λ next.
    let none : c.args.self.now.lines.items ≡ [] = nil_from_length c.args.self.now.lines.items (search rules) in
    written_none g.D.LogFile.seen g.D.LogFile.may_leave g.J.Run.openings c.args.self.now.writer next.before next.after
    next.written (subst (λ (text : List ℕ). AreLinesOfAll g.J.Run.openings next.before text next.after) none next.lines)

pub returns-clause-written : goal.returns-clause-written
returns-clause-written g c = λ next.
    written_if_ok g.D.LogFile.seen g.D.LogFile.may_leave g.J.Run.openings c.args.self.now.writer c.commit.new.self next.before
    next.after c.args.self.now.lines.items c.commit.result next.written next.lines (λ none. let zero : length c.args.self.now.lines.items ≡ 0 = ap length none in search rules) c.commit.ensures.acknowledged c.commit.ensures.settled
