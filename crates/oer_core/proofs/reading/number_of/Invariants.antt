use Rattle.std.proofs.Common.{◌≡◌, ◌<◌, ◌^◌, take}
use Rattle.oer_core.specs.Length.{big_endian}
use Rattle.oer_core.proofs.reading.number_of.Given as goal

abbrev pub invariant-loop-byte : goal.invariant-loop-byte
invariant-loop-byte l = (l.value ≡ big_endian (take l.byte-index l.bytes)) × (l.value < 256 ^ l.byte-index)
