use Rattle.std.proofs.Common.{ℕ, List, length, refl, arith, rules}
use Rattle.std.proofs.lemmas.Option.{slice_get_read}
use Rattle.statements.specs.declared.line.Line.{Line}
use Rattle.statements.proofs.OverSteps.{on_long}
use Rattle.statements.proofs.line.put_lines_with.Goals as goal

pub returns-in_err-put_line_with-clause-long : goal.returns-in_err-put_line_with-clause-long
returns-in_err-put_line_with-clause-long c =
    let ls : List Line = c.args.lines.now in
    let k : ℕ = c.loop-line.line-index in
    on_long _ _ _ c.in_err-put_line_with.field-0.0 c.from_residual.result (search rules)
    (λ over. (k, c.line-item.result, slice_get_read ls (length ls) k c.line-item.result refl (omega arith) c.line-item.is, over))
    c.in_err-put_line_with.ensures.long
