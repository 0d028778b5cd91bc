use Rattle.std.proofs.Common.{arith, ◌*◌, ◌+◌, ◌∙◌, ap, sym, Ok, slice_index}
use Rattle.std.proofs.lemmas.Simd.{get_or-put_chunk_at, get_or-put_chunk_below}
use Rattle.output_text.proofs.Lanes.{pair_of}
use Rattle.output_text.proofs.hexadecimal.put_bytes_of.Goals as goal

pub returns-clause-bytes : goal.returns-clause-bytes
returns-clause-bytes c k lt first second i =
    let out = c.args.out.now in
    let bytes = c.joined.result in
    let d = c.args.digits in
    let high = c.values_of.ensures.values (2 * k) (omega arith) first in
    let low = c.values_of.ensures.values (2 * k + 1) (omega arith) second in
    let put = get_or-put_chunk_at c.args.at out bytes k 0 (omega arith) (omega arith) in
    pair_of (slice_index d (2 * k)) (slice_index d (2 * k + 1)) _ _ i high.0 low.0 ∙ ap Ok (sym (c.joined.ensures k lt high.1 low.1) ∙ sym put)

pub returns-clause-before : goal.returns-clause-before
returns-clause-before c k lt = get_or-put_chunk_below c.args.at c.args.out.now c.joined.result k 0 lt
