use Rattle.std.proofs.Common.{arith, ap, sym, ◌∙◌, ◌-◌, ◌/◌, length}
use Rattle.std.specs.List.{list_all}
use Rattle.hex.specs.Hex.{is_hex_digit}
use Rattle.output_text.proofs.Overlaps.{overlapped}
use Rattle.output_text.proofs.hexadecimal.are_digits.Goals as goal

pub returns-then-chunks_are_digits : goal.returns-then-chunks_are_digits
returns-then-chunks_are_digits c =
    let text = c.args.text.now in
    let whole = rw (← c.as_chunks.ensures.front, ← c.chunks_are_digits.ensures, c.if-chunks_are_digits.true) at (overlapped is_hex_digit 32 (length text / 32) (length text - 32) text (omega arith)) in
    c.each_is_digit-then-chunks_are_digits.ensures ∙ ap (list_all is_hex_digit) c.in-Some.ensures.cases.1.same ∙ sym whole

pub returns-else-chunks_are_digits : goal.returns-else-chunks_are_digits
returns-else-chunks_are_digits c =
    let text = c.args.text.now in
    let whole = rw (← c.as_chunks.ensures.front, ← c.chunks_are_digits.ensures, c.if-chunks_are_digits.false) at (overlapped is_hex_digit 32 (length text / 32) (length text - 32) text (omega arith)) in
    c.if-chunks_are_digits.false ∙ sym whole
