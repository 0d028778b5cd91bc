use Rattle.std.proofs.Common.{◌≡◌, ◌++◌, List, ℕ, append_assoc, codes, decimal, refl}
use Rattle.http_link.specs.Answers.{close_line, first_line}
use Rattle.http_link.proofs.answer.put_head.Goals as goal

-- the parts of a head, one after another
joined : (first own label size end close last : List ℕ) → (((first ++ own) ++ label) ++ size) ++ (end ++ close ++ last) ≡ first ++ own ++ ((label ++ size) ++ end) ++ close ++ last
joined first own label size end close last = simp (append_assoc) refl

pub returns : goal.returns
returns c =
    rw (
      c.push-3.ensures.value,
      c.push_number.ensures.value,
      c.push-2.ensures.value,
      c.push.ensures.value,
      c.put_status.ensures.line,
      c.head_end.ensures.end,
    ) (joined (first_line c.args.status) c.args.own.now (codes "Content-Length: ") (decimal c.args.size) (codes "\r\n") (close_line c.args.closes) (codes "\r\n"))
