use Rattle.std.proofs.Common.{◌≡◌, ℕ, [], ◌∷◌, ◌++◌, true, ap, sym, ◌∙◌}
use Rattle.std.proofs.lemmas.List.{append_cancel_right}
use Rattle.std.proofs.lemmas.Slice.Eq.{bytes_eq-Decides}
use Rattle.book_log.specs.Lines.{log_line}
use Rattle.book_log.proofs.line.is_line_of.Goals as goal

pub returns-in-Some-eq10-clause-only : goal.returns-in-Some-eq10-clause-only
returns-in-Some-eq10-clause-only c is =
    let line = c.args.line.now in
    let left = c.pop.new.self.items in
    let whole : c.put_line.new.out.items ≡ left ++ 10 ∷ [] =
    c.in-Some-eq10.ensures.items ∙ ap (λ (b : ℕ). left ++ b ∷ []) c.in-Some-eq10.field-0-test in
    let written : c.put_line.new.out.items ≡ log_line c.args.place (record { entry = c.args.entry.now; outcome = c.args.outcome }) =
    c.in_ok-put_line.ensures
    ∙ (λ i. c.clear.ensures.items i ++ log_line c.args.place (record { entry = c.view_of.ensures i; outcome = c.args.outcome })) in
    let same = c.as_slice.ensures.value ∙ append_cancel_right left line (10 ∷ []) (sym whole ∙ written ∙ sym is) in
    let equal : c.eq.result ≡ true = c.eq.ensures ∙ (bytes_eq-Decides c.as_slice.result.now line).1 same in
    cc equal
