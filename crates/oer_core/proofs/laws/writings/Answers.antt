use Rattle.std.proofs.Common.{◌+◌, length, drop, ap, ◌∙◌, refl}
use Rattle.std.specs.Int.{w64, to_be_bytes}
use Rattle.oer_core.specs.Length.{shortest_length, octet_string, length_at, octets_at, number_at}
use Rattle.oer_core.proofs.Lengths.{length_again}
use Rattle.oer_core.proofs.Octets.{octets_again}
use Rattle.oer_core.proofs.Numbers.{number_again}
use Rattle.oer_core.proofs.Overwriting.{overwritten_twice, drop-overwritten}
use Rattle.oer_core.proofs.Shortest.{shortest_spells}
use Rattle.oer_core.proofs.laws.writings.Goals as goal

pub returns : goal.returns
returns c = record {
  two_are_one = overwritten_twice;
  lengths = λ old at n limit within fits small.
      ap (length_at limit) (drop-overwritten old at (shortest_length n) within)
      ∙ length_again limit n (shortest_length n) (drop (at + length (shortest_length n)) old) (shortest_spells n fits) small;
  strings = λ old text at limit within fits small.
      ap (octets_at limit) (drop-overwritten old at (octet_string text) within)
      ∙ octets_again limit (octet_string text) text (drop (at + length (octet_string text)) old) (shortest_length (length text), shortest_spells (length text) fits, refl) small;
  numbers = λ old at n within fits.
      ap number_at (drop-overwritten old at (to_be_bytes w64 n) within) ∙ number_again n (drop (at + 8) old) fits;
}
