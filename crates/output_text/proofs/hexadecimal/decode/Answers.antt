use Rattle.std.proofs.Common.{arith, sym, ◌∙◌}
use Rattle.std.specs.Result.{result_ok}
use Rattle.hex.specs.Hex.{decode_of}
use Rattle.output_text.proofs.Decoding.{none_there, spells}
use Rattle.output_text.proofs.hexadecimal.decode.Goals as goal

pub returns-else-decodes_into : goal.returns-else-decodes_into
returns-else-decodes_into c =
    let text = c.args.text.now in
    none_there (result_ok (decode_of text)) (sym (spells text c.decodes_into.result (omega arith) c.decodes_into.ensures.digits) ∙ c.if-decodes_into.false)
