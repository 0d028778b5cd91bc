use Rattle.std.proofs.Common.{arith}
use Rattle.output_text.proofs.Decoding.{spells}
use Rattle.output_text.proofs.hexadecimal.spells_bytes.Goals as goal

pub returns-then-text-eq0 : goal.returns-then-text-eq0
returns-then-text-eq0 c = spells c.args.text.now c.are_digits.result (omega arith) c.are_digits.ensures
