use Rattle.std.proofs.Common.{List, ℕ, [], ◌∷◌, ◌++◌, ◌∙◌, ap}
use Rattle.line_log.proofs.Recovering.{line_more}
use Rattle.line_log.proofs.batch.Batch.push.Goals as goal

pub invariant_of-self-2 : goal.invariant_of-self-2
invariant_of-self-2 c = (line_more c.self.inside.text.items c.args.bytes.now c.push_line.new.text.items c.self.invariant c.in_ok-push_line.ensures.ok.1 c.in_ok-push_line.ensures.ok.0).0

pub returns-clause-ok : goal.returns-clause-ok
returns-clause-ok c =
    (line_more c.self.inside.text.items c.args.bytes.now c.push_line.new.text.items c.self.invariant c.in_ok-push_line.ensures.ok.1 c.in_ok-push_line.ensures.ok.0).1
    ∙ ap (λ (l : List (List ℕ)). l ++ c.args.bytes.now ∷ []) c.self.view_is
