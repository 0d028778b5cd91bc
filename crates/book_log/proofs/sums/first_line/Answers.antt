use Rattle.std.proofs.Common.{ℕ, Option, ap, subst, ◌∙◌, ◌+◌, drop, take, arith}
use Rattle.std.proofs.lemmas.List.{take_rest}
use Rattle.memchr.specs.Find.{IsFirstByte, is_byte}
use Rattle.statements.specs.Reading.{text_lines}
use Rattle.book_log.proofs.Splits.{first_parts, free_all, free_before, free_line, no_line}
use Rattle.book_log.proofs.sums.first_line.Goals as goal

pub returns-in_err-end-clause-first : goal.returns-in_err-end-clause-first
returns-in_err-end-clause-first c =
    let text = c.args.text.now in
    let none = subst (λ (o : Option ℕ). IsFirstByte (is_byte 10) text o) c.in_err-end.was c.memchr.ensures in
    rw c.from_residual.ensures (no_line text (free_all text none))

pub returns-clause-first : goal.returns-clause-first
returns-clause-first c =
    let text = c.args.text.now in
    let end = c.in_ok-end.end in
    let found = subst (λ (o : Option ℕ). IsFirstByte (is_byte 10) text o) c.in_ok-end.was c.memchr.ensures in
    rw (take_rest text (end + 1))
    (ap text_lines (first_parts text end found.0.high found.1)
    ∙ free_line (take end text) (drop (end + 1) text) (free_before text end (omega (arith, found.0.high)) found.0.before))

pub returns-clause-line : goal.returns-clause-line
returns-clause-line c others =
    let text = c.args.text.now in
    let end = c.in_ok-end.end in
    let found = subst (λ (o : Option ℕ). IsFirstByte (is_byte 10) text o) c.in_ok-end.was c.memchr.ensures in
    free_line (take end text) others (free_before text end (omega (arith, found.0.high)) found.0.before)
