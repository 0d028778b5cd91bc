use Rattle.oer_core.proofs.Fronts.{same_spelling}
use Rattle.oer_core.proofs.Lengths.{length_takes, length_again}
use Rattle.oer_core.proofs.Shortest.{shortest_spells, no_shorter, short_length}
use Rattle.oer_core.proofs.laws.lengths.Goals as goal

pub returns : goal.returns
returns c = record {
  read_is_spelled = length_takes;
  spelled_is_read = length_again;
  none_begins_another = same_spelling;
  shortest_spells = shortest_spells;
  shortest = no_shorter;
  three_bytes = short_length;
}
