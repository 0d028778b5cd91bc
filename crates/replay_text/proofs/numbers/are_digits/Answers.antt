use Rattle.std.proofs.Common.{rules, eqb, ap, ◌∙◌}
use Rattle.replay_text.proofs.Eight.{are_digits}
use Rattle.replay_text.proofs.numbers.are_digits.Goals as goal

pub returns : goal.returns
returns c =
    ap (λ n. eqb n 0) c.from_le_bytes.ensures
    ∙ are_digits c.past_digits.result c.args.chunk.now (search rules) (search rules) c.past_digits.ensures (λ i. search rules)
