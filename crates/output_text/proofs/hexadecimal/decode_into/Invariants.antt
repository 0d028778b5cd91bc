use Rattle.std.proofs.Common.{◌≡◌, ◌*◌, ◌↔◌, length}
use Rattle.output_text.proofs.Chunks.{AreDecoded, AreDigits, AreZeros}
use Rattle.output_text.proofs.hexadecimal.decode_into.Given as goal

abbrev pub invariant-loop-i : goal.invariant-loop-i
invariant-loop-i l = record {
  size : length l.out ≡ length l.fn.out;
  digits : AreZeros l.others ↔ AreDigits (32 * l.i) l.text;
  bytes : AreDecoded (16 * l.i) l.text l.out;
}
