use Rattle.std.proofs.Common.{arith, ◌∙◌, ◌+◌, ◌*◌, ◌/◌, length}
use Rattle.hex.proofs.HexLemmas.{decode_of-even}
use Rattle.hex.proofs.Pairs.{decode_step, decode_done}
use Rattle.output_text.proofs.Decoding.{digits_of, pair_at}
use Rattle.output_text.proofs.hexadecimal.decode_few.Goals as goal

pub byte_of-requires-clause-high : goal.byte_of-requires-clause-high
byte_of-requires-clause-high c =
    let text = c.args.text.now in
    rw (c.as_chunks.ensures.front, pair_at (length text / 2) text c.loop-i.i (omega arith) (omega arith)) ((digits_of text c.requires.digits).1 (2 * c.loop-i.i) 0 (omega arith))

pub byte_of-requires-clause-low : goal.byte_of-requires-clause-low
byte_of-requires-clause-low c =
    let text = c.args.text.now in
    rw (c.as_chunks.ensures.front, pair_at (length text / 2) text c.loop-i.i (omega arith) (omega arith)) ((digits_of text c.requires.digits).1 (2 * c.loop-i.i + 1) 0 (omega arith))

pub loop-i-preserved : goal.loop-i-preserved
loop-i-preserved c =
    let text = c.args.text.now in
    decode_step text c.loop-i.out c.loop-i.i _ (omega arith) (omega arith)
    (rw (c.as_chunks.ensures.front, pair_at (length text / 2) text c.loop-i.i (omega arith) (omega arith)) at (c.byte_of.ensures (2 * c.loop-i.i))) c.loop-i.invariant

pub returns : goal.returns
returns c =
    let text = c.args.text.now in
    decode_of-even text (digits_of text c.requires.digits).0 ∙ decode_done text c.loop-i.out c.loop-i.i (omega arith) (omega arith) c.loop-i.invariant
