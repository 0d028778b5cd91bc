use Rattle.std.proofs.Common.{◌≡◌, ◌++◌, [], ◌∷◌, List, ℕ, decimal, refl, sym, ap, ◌∙◌, arith, codes}
use Rattle.std.proofs.lemmas.Fmt.{decimal_digit, decimal_step}
use Rattle.http_link.specs.Answers.{first_line, line, reason_of}
use Rattle.http_link.proofs.answer.put_status.Goals as goal

-- the digits of 200
two_hundred : decimal 200 ≡ 50 ∷ 48 ∷ 48 ∷ []
two_hundred =
    decimal_step 200 (omega arith) (omega arith)
    ∙ ap (λ w. w ++ 48 ∷ []) (decimal_step 20 (omega arith) (omega arith) ∙ ap (λ w. w ++ 48 ∷ []) (decimal_digit 2 (omega arith)))

pub returns-then-status-eq200-clause-line : goal.returns-then-status-eq200-clause-line
returns-then-status-eq200-clause-line c =
    let is : c.args.status ≡ 200 = omega arith in
    let text : first_line 200 ≡ codes "HTTP/1.1 200 OK\r\n" = ap (λ w. line (codes "HTTP/1.1 " ++ w ++ codes " " ++ reason_of 200)) two_hundred in
    c.push.ensures.value ∙ ap (λ w. w ++ codes "HTTP/1.1 200 OK\r\n") c.requires.empty ∙ sym text ∙ ap first_line (sym is)
