use Rattle.std.proofs.Common.{arith}
use Rattle.statements.proofs.WordLaws.{numeral_is_token}
use Rattle.statements.proofs.terms.token_for.Goals as goal

pub returns : goal.returns
returns c =
    rw (c.as_bytes.ensures.value, c.format.ensures.text, numeral_is_token c.numerals.ensures c.args.number (omega (arith, c.ranges.number.fits))) at c.new.ensures
