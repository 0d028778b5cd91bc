use Rattle.std.proofs.Common.{arith, sym, ◌≡◌, ◌%◌, ◌∙◌, length}
use Rattle.output_text.proofs.Decoding.{spells}
use Rattle.output_text.proofs.hexadecimal.decodes_into.Goals as goal

pub decode_few-requires-clause-digits : goal.decode_few-requires-clause-digits
decode_few-requires-clause-digits c =
    let even : length c.args.text.now % 2 ≡ 0 = omega arith in
    sym (spells c.args.text.now c.each_is_digit.result even c.each_is_digit.ensures) ∙ c.if-not-each_is_digit.false
