use Rattle.oer_core.proofs.Numbers.{number_takes, number_again}
use Rattle.oer_core.proofs.laws.numbers.Goals as goal

pub returns : goal.returns
returns c = record { read_is_spelled = number_takes; spelled_is_read = number_again }
