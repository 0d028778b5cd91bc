use Rattle.std.proofs.Common.{arith}
use Rattle.output_text.proofs.Lanes.{zero_in_smaller}
use Rattle.output_text.proofs.hexadecimal.zero_in_one.Goals as goal

pub returns : goal.returns
returns c i lt = zero_in_smaller c.args.a c.args.b i (omega arith) (omega arith)
