use Rattle.common_types.proofs.Decimals.{read_is_numeral, numeral_is_read, numeral_has_digits}
use Rattle.common_types.proofs.laws.numerals.Goals as goal

pub returns : goal.returns
returns c = record { read_is_numeral = read_is_numeral; numeral_is_read = numeral_is_read; numeral_has_digits = numeral_has_digits }
