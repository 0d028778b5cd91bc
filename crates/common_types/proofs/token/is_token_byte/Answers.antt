use Rattle.std.proofs.Common.{not, nat_eq, refl, arith}
use Rattle.common_types.specs.declared.token.TheConstants.{BYTE_MAP}
use Rattle.common_types.specs.Token.{is_token_byte}
use Rattle.common_types.proofs.Tables.{agree_below, from_table}
use Rattle.common_types.proofs.token.is_token_byte.Goals as goal

pub returns : goal.returns
unfolding agree_below
returns c = from_table (λ x. not (nat_eq x 44)) is_token_byte BYTE_MAP c.args.b (omega arith) refl
