use Rattle.std.proofs.Common.{◌≡◌, ◌&&◌, drop}
use Rattle.std.specs.List.{list_all}
use Rattle.common_types.specs.Token.{is_token_byte}
use Rattle.common_types.proofs.token.all_token_bytes.Given as goal

abbrev pub invariant-loop-byte : goal.invariant-loop-byte
invariant-loop-byte l = (l.all && list_all is_token_byte (drop l.byte-index l.bytes)) ≡ list_all is_token_byte l.bytes
