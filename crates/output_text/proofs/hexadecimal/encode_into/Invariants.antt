use Rattle.std.proofs.Common.{◌≡◌, ◌*◌, length}
use Rattle.output_text.proofs.Chunks.{AreEncoded}
use Rattle.output_text.proofs.hexadecimal.encode_into.Given as goal

abbrev pub invariant-loop-i : goal.invariant-loop-i
invariant-loop-i l = (length l.out ≡ length l.fn.out) × AreEncoded (16 * l.i) l.bytes l.out
