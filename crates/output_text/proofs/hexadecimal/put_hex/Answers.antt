use Rattle.std.proofs.Common.{arith}
use Rattle.hex.specs.Hex.{lower_digits}
use Rattle.hex.proofs.HexLemmas.{length-encode_with}
use Rattle.output_text.proofs.Putting.{puts_err}
use Rattle.output_text.proofs.hexadecimal.put_hex.Goals as goal

pub returns-in_default-checked_add : goal.returns-in_default-checked_add
returns-in_default-checked_add c =
    let small = c.args.out.now.small in
    let long = c.args.out.now.ok.0 in
    let digits = length-encode_with lower_digits c.args.bytes.now in
    let size = c.in-Some.ensures.1 in
    let begin = c.len-begin.ensures in
    let over = c.in_default-checked_add.ensures in
    omega arith

pub returns-in_err-resize : goal.returns-in_err-resize
returns-in_err-resize c =
    let long = c.args.out.now.ok.0 in
    let digits = length-encode_with lower_digits c.args.bytes.now in
    let size = c.in-Some.ensures.1 in
    let begin = c.len-begin.ensures in
    let end = c.in-Some-checked_add.ensures.1 in
    let full = c.in_err-resize.ensures.full in
    puts_err c.from_residual.result c.args.out.now c.resize.new.self _ c.from_residual.ensures.0 (omega arith)
